-- Attaching a provider on an image that survived.
use Rattle.std.proofs.Common.{◌≡◌, ◌∙◌, ◌⊎◌, inl, inr, ℕ, zero, suc, ◌+◌, ◌-◌, ◌*◌, ◌/◌, ◌<◌, ◌≤◌, ◌==◌, ◌^◌, Bool, true, false, cond, List, [], ◌∷◌, ◌++◌, length, take, refl, sym, ap, subst, arith, length-append, Option, Some, None, Result, Ok, Err}
use Rattle.std.specs.Prelude.{bit_and, not}
use Rattle.std.proofs.Math.Seq.{take-append_seam}
use Rattle.std.proofs.lemmas.Bool.{eqb-true}
use Rattle.std.proofs.lemmas.Nat.{and_assoc}
use Rattle.block_traits.specs.Content.{Content, IsContentOf}
use Rattle.block_traits.specs.Disk.{DiskState, FailsIn, FitsSize, Logs}
use Rattle.block_traits.proofs.Logs.{logged-none}
use Rattle.eli_base.specs.declared.parameters.MasterKey.{MasterKey}
use Rattle.eli_base.specs.declared.parameters.Params.{Params}
use Rattle.eli_base.specs.Keying.{Keying, keying_of}
use Rattle.eli_base.specs.Units.{media_sectors}
use Rattle.eli_metadata.specs.Checks.{are_clear, is_set, slot_matches}
use Rattle.eli_metadata.specs.declared.metadata.Metadata.{Metadata}
use Rattle.eli_metadata.specs.declared.metadata.MetaFault.TheVariants.{NoValidKeys}
use Rattle.hmac_kdf.proofs.Lengths.{length-hmac512}
use Rattle.hmac_kdf.specs.Hmac.{hmac512}
use Rattle.key_slots.specs.Slots.{IsFirstToOpen, Opens, check_code}
use Rattle.provider.specs.Answers.{AttachAnswers, ReadAnswers, request}
use Rattle.provider.specs.Attached.{Attached}
use Rattle.sector_runs.specs.Reading as runs
use Rattle.provider.specs.declared.faults.AttachFault.{AttachFault}
use Rattle.provider.specs.declared.faults.AttachFault.TheVariants as attach
use Rattle.sector_runs.specs.declared.faults.ReadFault.{ReadFault}
use Rattle.sector_runs.specs.declared.faults.ReadFault.TheVariants as read
use Rattle.range_keys.specs.Ring.{IsKeying}
use Rattle.readings.proofs.Survivors.{room, some-units}
use Rattle.sealing.specs.Sectors.{joined, units}
use Rattle.provider_readings.specs.Attaching.{AttachesOrLacksMemory, HasImage, IsOpenedBy, ReadsImage, image_data, image_sectors}
use Rattle.provider_readings.specs.Data.{survivor}
use Rattle.provider_readings.proofs.Data.{survivor-reads}

-- ---- one slot opens first

same_front : (xs ys tail rest : List ℕ) → length tail ≡ length rest → xs ++ tail ≡ ys ++ rest → xs ≡ ys
same_front xs ys tail rest same e =
    let all : length (xs ++ tail) ≡ length (ys ++ rest) = ap length e in
    let long : length xs ≡ length ys = omega (arith, same, all, length-append xs tail, length-append ys rest) in
    sym (take-append_seam xs tail) ∙ ap (take (length xs)) e ∙ ap (λ (n : ℕ). take n (ys ++ rest)) long ∙ take-append_seam ys rest

one_master : (m : Metadata) (u : List ℕ) (s : ℕ) (a b : List ℕ) → Opens m u s a → Opens m u s b → a ≡ b
one_master m u s a b ha hb =
    same_front a b (check_code u a) (check_code u b)
    (length-hmac512 (hmac512 u (0x00 ∷ [])) a ∙ sym (length-hmac512 (hmac512 u (0x00 ∷ [])) b)) (sym ha.slot.text ∙ hb.slot.text)

in_order : (s t : ℕ) → (s < t) ⊎ ((s ≡ t) ⊎ (t < s))
in_order zero zero = inr (inl refl)
in_order zero (suc t) = inl (omega arith)
in_order (suc s) zero = inr (inr (omega arith))
in_order (suc s) (suc t) = elim (in_order s t) [
  | inl below ↦ inl (omega (arith, below))
  | inr rest ↦ elim rest [
    | inl same ↦ inr (inl (ap suc same))
    | inr above ↦ inr (inr (omega (arith, above)))
  ]
]

one_slot : (m : Metadata) (u : List ℕ) (s t : ℕ) (a b : List ℕ) → IsFirstToOpen m u s a → IsFirstToOpen m u t b → s ≡ t
one_slot m u s t a b ha hb = elim (in_order s t) [
  | inl below ↦ absurd (hb.before s below a ha.opens)
  | inr rest ↦ elim rest [
    | inl same ↦ same
    | inr above ↦ absurd (ha.before t above b hb.opens)
  ]
]

-- ---- the gate of the slots

three_has : (s : ℕ) → s < 2 → bit_and 3 (2 ^ s) ≡ 2 ^ s
three_has zero lt = refl
three_has (suc zero) lt = refl
three_has (suc (suc s)) lt = absurd (let none : ⊥ = omega (arith, lt) in none)

passes : (m : Metadata) (s : ℕ) (clear : Bool) → s < 2 → is_set m s ≡ true → are_clear m.keys 3 ≡ clear → cond clear (Err NoValidKeys) (Ok tt) ≡ slot_matches m None → slot_matches m None ≡ Ok tt
passes m s false lt set is gate = sym gate
passes m s true lt set is gate =
    let none : bit_and m.keys 3 ≡ 0 = eqb-true (bit_and m.keys 3) 0 is in
    let bit : bit_and m.keys (2 ^ s) ≡ 0 = ap (bit_and m.keys) (sym (three_has s lt)) ∙ sym (and_assoc (2 ^ s) m.keys 3) ∙ ap (λ (k : ℕ). bit_and k (2 ^ s)) none in
    let unset : is_set m s ≡ false = ap (λ (k : ℕ). not (k == 0)) bit in
    absurd (let no : ⊥ = cc (set, unset) in no)

pub gate_passes : (image : List (List ℕ)) (m : Metadata) (params : Params) (key : List ℕ) (s : ℕ) (master : List ℕ) → IsOpenedBy image m params key s master → slot_matches m None ≡ Ok tt
gate_passes image m params key s master h = passes m s (are_clear m.keys 3) h.opens.slot h.opens.opens.set refl refl

-- ---- attaching

disk_size : (image : List (List ℕ)) (disk : DiskState) → HasImage image disk → length image ≡ disk.size
disk_size image disk has =
    let fits : IsContentOf disk.size (survivor image) = subst (FitsSize disk.size) has disk.well_formed.fits in
    fits.sectors

pub attaches : {D : Type 0} (state : D → DiskState) (image : List (List ℕ)) (m : Metadata) (params : Params) (key : List ℕ) (readonly : Bool) (s : ℕ) (master : List ℕ) (disk : D) (result : Result (Attached D) (D × AttachFault))
    → HasImage image (state disk) → IsOpenedBy image m params key s master
    → AttachAnswers (record { meta = m; params = params; disk = state disk }) (record { key = key; named = None; readonly = readonly }) disk result
    → AttachesOrLacksMemory disk params s master result
attaches state image m params key readonly s master disk (Ok p) has opened h =
    let same : p.slot ≡ s = one_slot m key p.slot s p.keying.master master h.opens opened.opens in
    let key_same : p.keying.master ≡ master = one_master m key s p.keying.master master (subst (λ (n : ℕ). Opens m key n p.keying.master) same h.opens.opens) opened.opens.opens in
    record {
      disk = h.disk;
      slot = same;
      keying = h.keying ∙ ap (λ (b : List ℕ). let k : MasterKey = record { bytes = b } in keying_of params k) key_same;
    }
attaches state image m params key readonly s master disk (Err (given, attach.TooSmall size)) has opened h =
    let some : 1 ≤ media_sectors params.auth params.sectorsize (512 * (state disk).size) =
    subst (λ (n : ℕ). 1 ≤ media_sectors params.auth params.sectorsize (512 * n)) (disk_size image (state disk) has) opened.room in
    let zero_there : media_sectors params.auth params.sectorsize (512 * (state disk).size) ≡ 0 = h.1.0 in
    absurd (let none : ⊥ = omega (arith, some, zero_there) in none)
attaches state image m params key readonly s master disk (Err (given, attach.WrongKey)) has opened h = absurd (h.1.2 s master opened.opens)
attaches state image m params key readonly s master disk (Err (given, attach.NoMemory)) has opened h = (h.0, refl)

-- ---- reading

sectors-image : (k : Keying) (sector count : ℕ) (image : List (List ℕ)) → IsKeying k → sector + count ≤ (512 * length image - 512) / (512 * units k)
    → runs.sector_readings k (survivor image) sector count ≡ image_sectors k sector count image
sectors-image k sector zero image is fits = refl
sectors-image k sector (suc count) image is fits =
    let there = room (units k) sector (length image) (some-units k is) (omega arith) in
    let first = survivor-reads k sector image (omega (arith, there)) in
    let more = sectors-image k (sector + 1) count image is (omega arith) in
    λ i. first i ∷ more i

data-image : (k : Keying) (sector count : ℕ) (image : List (List ℕ)) (size : ℕ) → IsKeying k → length image ≡ size → sector + count ≤ (512 * size - 512) / (512 * units k)
    → runs.data_reading k (survivor image) sector count ≡ image_data k sector count image
data-image k sector count image size is same fits =
    ap joined (sectors-image k sector count image is (subst (λ (n : ℕ). sector + count ≤ (512 * n - 512) / (512 * units k)) (sym same) fits))

stays : (image : List (List ℕ)) (old new : DiskState) → HasImage image old → Logs [] old new → HasImage image new
stays image old new has logs = logs.content ∙ logged-none old.content ∙ has

none_logged : (old new : DiskState) → FailsIn [] old new → Logs [] old new
none_logged old new f = let none : f.count ≡ 0 = omega (arith, f.within) in subst (λ (n : ℕ). Logs (take n []) old new) none f.logs

reads-from : (told : Option Content) (k : Keying) (sector count : ℕ) (image : List (List ℕ)) (answer : Result (List ℕ) ℕ) → told ≡ Some (survivor image) → runs.ReadsFrom told k sector count answer
    → runs.data_reading k (survivor image) sector count ≡ answer
reads-from told k sector count image answer is h = subst (λ (c : Option Content). runs.ReadsFrom c k sector count answer) is h

pub reads : {D : Type 0} (state : D → DiskState) (image : List (List ℕ)) (sector : ℕ) (into bytes : List ℕ) (old new : Attached D) (answer : Result (Unit {0}) ReadFault)
    → HasImage image (state old.disk) → IsKeying old.keying → ReadAnswers state (request state old sector into) bytes old new answer
    → ReadsImage old.keying (request state old sector into) image bytes answer (state old.disk) (state new.disk) × HasImage image (state new.disk)
reads state image sector into bytes old new (Ok done) has is h =
    let count : ℕ = length into / old.keying.sectorsize in (
      sym (data-image old.keying sector count image (state old.disk).size is (disk_size image (state old.disk) has) h.in_range)
          ∙ reads-from (state old.disk).content old.keying sector count image (Ok bytes) has h.reads,
      stays image (state old.disk) (state new.disk) has h.logs,
    )
reads state image sector into bytes old new (Err (read.Integrity offset)) has is h =
    let count : ℕ = length into / old.keying.sectorsize in (
      sym (data-image old.keying sector count image (state old.disk).size is (disk_size image (state old.disk) has) h.in_range)
          ∙ reads-from (state old.disk).content old.keying sector count image (Err offset) has h.finds.reads,
      stays image (state old.disk) (state new.disk) has h.finds.logs,
    )
reads state image sector into bytes old new (Err (read.OutOfRange first asked there)) has is h =
    (h.0.passes, subst (λ (p : Attached _). HasImage image (state p.disk)) (sym h.1) has)
reads state image sector into bytes old new (Err read.DeviceFault) has is h =
    (h.fails.fails.rose, stays image (state old.disk) (state new.disk) has (none_logged (state old.disk) (state new.disk) h.fails.fails))
