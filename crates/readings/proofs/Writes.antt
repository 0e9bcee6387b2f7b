-- The steps of writes: they seal, and each write has a number of its own.
use Rattle.std.proofs.Common.{◌≡◌, inl, inr, ℕ, zero, suc, ◌+◌, ◌-◌, ◌*◌, ◌<◌, ◌≤◌, List, [], ◌∷◌, ◌++◌, length, take, drop, All, Contains, refl, sym, ap, subst, ◌∙◌, arith, length-append, length-take-le, length-drop}
use Rattle.std.proofs.lemmas.List.{ext_get_or, get_or-map, length-map, drop-drop, get_or_append_left}
use Rattle.std.proofs.lemmas.List.Elements.{All-nil, All-append, All-contains, All-weaker, All-contains_itself, All-cons, All-head, All-tail, Contains-append_cases, All-from_get_or}
use Rattle.std.proofs.lemmas.List.FromFn.{length-map-range_with_len, get_or-map-range_with_len}
use Rattle.aes_core.specs.Schedule.{AreBytes}
use Rattle.aes_core.proofs.KeyBytes.{AreBytes-drop, AreBytes-take}
use Rattle.eli_base.specs.Keying.{Keying}
use Rattle.block_traits.specs.declared.disk.Event.{Event}
use Rattle.block_traits.specs.declared.disk.Event.TheVariants as event
use Rattle.block_traits.specs.Content.{IsSector, IsEventOf}
use Rattle.range_keys.specs.Ring.{IsKeying}
use Rattle.sealing.specs.Sectors.{units, seal}
use Rattle.readings.specs.Writings.{PutUnit, Writing, Put, Raw, IsPut, IsWriting, device_bytes, all_device_bytes}
use Rattle.readings.specs.Steps.{Step, events_of}
use Rattle.readings.specs.Survivors.{placed}
use Rattle.readings.specs.Writes.{puts_of, places_from, sector_steps, data_steps, raw_steps, IsNumberedBelow, AreStepsBelow}
use Rattle.sealing.proofs.Sectors.{length-seal}
use Rattle.readings.proofs.Survivors.{AreSteps-take, placed-append, placed-front}

-- ---- the device bytes are those that the logical sector is sealed to

pub device_bytes-puts : (number : ℕ) (k : Keying) (sector : ℕ) (bytes : List ℕ) → all_device_bytes (puts_of number k sector bytes) ≡ seal k sector bytes
device_bytes-puts number k sector bytes =
    let put : ℕ → Writing = λ j. Put (record { number = number; keying = k; sector = sector; bytes = bytes; unit = j }) in
    let count : length (puts_of number k sector bytes) ≡ units k = length-map-range_with_len put 0 (units k) in
    let same = length-map (puts_of number k sector bytes) device_bytes in
    let sealed = length-seal k sector bytes in
    ext_get_or [] (all_device_bytes (puts_of number k sector bytes)) (seal k sector bytes) (omega arith)
    (λ j lt.
    let small : j < units k = omega arith in
    get_or-map device_bytes (puts_of number k sector bytes) j (Raw []) [] (omega arith)
    ∙ ap device_bytes (get_or-map-range_with_len put 0 (units k) j j (Raw []) small (omega arith)))

-- ---- what a write places

pub placed-places_from : (n : ℕ) (ws : List Writing) → placed (places_from n ws) ≡ ws
placed-places_from n [] = refl
placed-places_from n (w ∷ ws) = ap (λ (l : List Writing). w ∷ l) (placed-places_from (n + 1) ws)

-- the writing is a unit of the write with this number, of bytes that stand at its sector's place among these, the first
-- sector first
record IsOfWrite (number : ℕ) (k : Keying) (first : ℕ) (all : List ℕ) (w : Writing) : Type 0 where
  put : PutUnit
  is : w ≡ Put put
  fits : IsPut put
  number_is : put.number ≡ number
  keying_is : put.keying ≡ k
  from : first ≤ put.sector
  bytes_are : put.bytes ≡ take k.sectorsize (drop ((put.sector - first) * k.sectorsize) all)

IsOfWrite-later : (number : ℕ) (k : Keying) (first : ℕ) (all : List ℕ) (w : Writing) → IsOfWrite number k (first + 1) (drop k.sectorsize all) w → IsOfWrite number k first all w
IsOfWrite-later number k first all w h =
    let gap : ℕ = h.put.sector - (first + 1) in
    let from = h.from in
    let one : h.put.sector - first ≡ gap + 1 = omega arith in
    let at : k.sectorsize + gap * k.sectorsize ≡ (h.put.sector - first) * k.sectorsize = omega arith ∙ sym (ap (λ (m : ℕ). m * k.sectorsize) one) in
    record {
      put = h.put;
      is = h.is;
      fits = h.fits;
      number_is = h.number_is;
      keying_is = h.keying_is;
      from = omega arith;
      bytes_are = h.bytes_are ∙ ap (take k.sectorsize) (drop-drop (gap * k.sectorsize) k.sectorsize all ∙ ap (λ (m : ℕ). drop m all) at);
    }

puts-are : (number : ℕ) (k : Keying) (sector : ℕ) (all : List ℕ) → IsKeying k → AreBytes all → k.sectorsize ≤ length all
    → All (IsOfWrite number k sector all) (puts_of number k sector (take k.sectorsize all))
puts-are number k sector all is small fits =
    let bytes : List ℕ = take k.sectorsize all in
    let put : ℕ → Writing = λ j. Put (record { number = number; keying = k; sector = sector; bytes = bytes; unit = j }) in
    let count : length (puts_of number k sector bytes) ≡ units k = length-map-range_with_len put 0 (units k) in
    let gap : 0 ≡ sector - sector = omega arith in
    let zero_times : 0 ≡ 0 * k.sectorsize = omega arith in
    let none : 0 ≡ (sector - sector) * k.sectorsize = zero_times ∙ ap (λ (m : ℕ). m * k.sectorsize) gap in
    All-from_get_or (IsOfWrite number k sector all) (puts_of number k sector bytes) (Raw []) (λ j lt.
    let inside : j < units k = omega arith in
    record {
      put = record { number = number; keying = k; sector = sector; bytes = bytes; unit = j };
      is = get_or-map-range_with_len put 0 (units k) j j (Raw []) inside (omega arith);
      fits = record { keying = is; size = length-take-le k.sectorsize all fits; bytes = AreBytes-take k.sectorsize all small; unit = inside };
      number_is = refl;
      keying_is = refl;
      from = omega arith;
      bytes_are = ap (λ (m : ℕ). take k.sectorsize (drop m all)) none;
    })

write-are : (number : ℕ) (k : Keying) (sector count : ℕ) (all : List ℕ) → IsKeying k → AreBytes all → count * k.sectorsize ≤ length all
    → All (IsOfWrite number k sector all) (placed (data_steps number k sector count all))
write-are number k sector zero all is small fits = All-nil (IsOfWrite number k sector all)
write-are number k sector (suc count) all is small fits =
    let first : List Step = sector_steps number k sector (take k.sectorsize all) in
    let more : List Step = data_steps number k (sector + 1) count (drop k.sectorsize all) in
    let room : k.sectorsize + count * k.sectorsize ≤ length all = omega arith in
    let left = length-drop k.sectorsize all in
    let size : k.sectorsize ≤ length all = omega arith in
    let rest : count * k.sectorsize ≤ length (drop k.sectorsize all) = omega arith in
    subst (All (IsOfWrite number k sector all)) (sym (placed-append first more))
    (All-append (IsOfWrite number k sector all) (placed first) (placed more)
    (subst (All (IsOfWrite number k sector all)) (sym (placed-places_from (sector * units k) (puts_of number k sector (take k.sectorsize all)))) (puts-are number k sector all is small size))
    (All-weaker (IsOfWrite number k (sector + 1) (drop k.sectorsize all)) (IsOfWrite number k sector all) (IsOfWrite-later number k sector all) (placed more)
    (write-are number k (sector + 1) count (drop k.sectorsize all) is (AreBytes-drop k.sectorsize all small) rest)))

-- ---- one more write

-- the Put that it is
put-is : (number : ℕ) (k : Keying) (first : ℕ) (all : List ℕ) (p : PutUnit) (h : IsOfWrite number k first all (Put p)) → h.put ≡ p
put-is number k first all p h = let e = h.is in cc

IsWriting-write : (number : ℕ) (k : Keying) (first : ℕ) (all : List ℕ) (w : Writing) → IsOfWrite number k first all w → IsWriting w
IsWriting-write number k first all w h = subst IsWriting (sym h.is) h.fits

below-write : (number : ℕ) (k : Keying) (first : ℕ) (all : List ℕ) (w : Writing) → IsOfWrite number k first all w → IsNumberedBelow (number + 1) w
below-write number k first all w h = let n = h.number_is in subst (IsNumberedBelow (number + 1)) (sym h.is) (omega arith)

below-more : (next : ℕ) (w : Writing) → IsNumberedBelow next w → IsNumberedBelow (next + 1) w
below-more next (Put p) h = omega arith
below-more next (Raw bytes) h = tt

-- an old number isn't new
old-new : (next : ℕ) (k : Keying) (first : ℕ) (all : List ℕ) (p q : PutUnit) → IsNumberedBelow next (Put p) → IsOfWrite next k first all (Put q) → p.number ≡ q.number → ⊥
old-new next k first all p q old new same =
    let number = sym (ap (λ (u : PutUnit). u.number) (put-is next k first all q new)) ∙ new.number_is in
    absurd (omega (arith, old, number, same))

one-write : (next : ℕ) (k : Keying) (first : ℕ) (all : List ℕ) (p q : PutUnit) → IsOfWrite next k first all (Put p) → IsOfWrite next k first all (Put q) → p.sector ≡ q.sector
    → (p.keying ≡ q.keying) × (p.bytes ≡ q.bytes)
one-write next k first all p q hp hq sector =
    let ep = put-is next k first all p hp in
    let eq = put-is next k first all q hq in
    let same : hp.put.sector ≡ hq.put.sector = ap (λ (u : PutUnit). u.sector) ep ∙ sector ∙ sym (ap (λ (u : PutUnit). u.sector) eq) in (
      sym (ap (λ (u : PutUnit). u.keying) ep) ∙ hp.keying_is ∙ sym hq.keying_is ∙ ap (λ (u : PutUnit). u.keying) eq,
      sym (ap (λ (u : PutUnit). u.bytes) ep) ∙ hp.bytes_are ∙ ap (λ (s : ℕ). take k.sectorsize (drop ((s - first) * k.sectorsize) all)) same
          ∙ sym hq.bytes_are ∙ ap (λ (u : PutUnit). u.bytes) eq,
    )

pub AreStepsBelow-write : (next : ℕ) (steps : List Step) (k : Keying) (sector count : ℕ) (bytes : List ℕ) → AreStepsBelow next steps → IsKeying k → AreBytes bytes
    → count * k.sectorsize ≤ length bytes → AreStepsBelow (next + 1) (steps ++ data_steps next k sector count bytes)
AreStepsBelow-write next steps k sector count bytes are is small fits =
    let new : List Step = data_steps next k sector count bytes in
    let P = IsOfWrite next k sector bytes in
    let ws = write-are next k sector count bytes is small fits in
    let all = placed-append steps new in
    let old_or_new = λ (p : PutUnit) (h : Contains (placed (steps ++ new)) (Put p)).
    Contains-append_cases (placed steps) (placed new) (Put p) (subst (λ (l : List Writing). Contains l (Put p)) all h) in
    record {
      fit = record {
        each = subst (All IsWriting) (sym all) (All-append IsWriting (placed steps) (placed new) are.fit.each (All-weaker P IsWriting (IsWriting-write next k sector bytes) (placed new) ws));
        numbered = λ p q hp hq s n.
            elim (old_or_new p hp) [
              | inl p_old ↦ elim (old_or_new q hq) [
                | inl q_old ↦ are.fit.numbered p q p_old q_old s n
                | inr q_new ↦ absurd (old-new next k sector bytes p q (All-contains (IsNumberedBelow next) (placed steps) (Put p) are.below p_old) (All-contains P (placed new) (Put q) ws q_new) n)
              ]
              | inr p_new ↦ elim (old_or_new q hq) [
                | inl q_old ↦ absurd (old-new next k sector bytes q p (All-contains (IsNumberedBelow next) (placed steps) (Put q) are.below q_old) (All-contains P (placed new) (Put p) ws p_new) (sym n))
                | inr q_new ↦ one-write next k sector bytes p q (All-contains P (placed new) (Put p) ws p_new) (All-contains P (placed new) (Put q) ws q_new) s
              ]
            ];
      };
      below = subst (All (IsNumberedBelow (next + 1))) (sym all)
          (All-append (IsNumberedBelow (next + 1)) (placed steps) (placed new)
          (All-weaker (IsNumberedBelow next) (IsNumberedBelow (next + 1)) (below-more next) (placed steps) are.below)
          (All-weaker P (IsNumberedBelow (next + 1)) (below-write next k sector bytes) (placed new) ws));
    }

-- ---- no writes

-- steps that place sectors of other kinds, or nothing
AreStepsBelow-raws : (next : ℕ) (steps new : List Step) → AreStepsBelow next steps → ((w : Writing) → Contains (placed new) w → (b : List ℕ) × IsSector b × (w ≡ Raw b)) → AreStepsBelow next (steps ++ new)
AreStepsBelow-raws next steps new are raws =
    let all = placed-append steps new in
    let P : Writing → Type 0 = λ w. (b : List ℕ) × IsSector b × (w ≡ Raw b) in
    let ws : All P (placed new) = All-weaker (Contains (placed new)) P raws (placed new) (All-contains_itself (placed new)) in
    let old = λ (p : PutUnit) (h : Contains (placed (steps ++ new)) (Put p)).
    let there : Contains (placed steps) (Put p) =
    elim (Contains-append_cases (placed steps) (placed new) (Put p) (subst (λ (l : List Writing). Contains l (Put p)) all h)) [
      | inl before ↦ before
      | inr now ↦ absurd (let e = (All-contains P (placed new) (Put p) ws now).2 in cc)
    ] in there in
    record {
      fit = record {
        each = subst (All IsWriting) (sym all) (All-append IsWriting (placed steps) (placed new) are.fit.each (All-weaker P IsWriting (λ w h. subst IsWriting (sym h.2) h.1) (placed new) ws));
        numbered = λ p q hp hq s n. are.fit.numbered p q (old p hp) (old q hq) s n;
      };
      below = subst (All (IsNumberedBelow next)) (sym all)
          (All-append (IsNumberedBelow next) (placed steps) (placed new) are.below (All-weaker P (IsNumberedBelow next) (λ w h. subst (IsNumberedBelow next) (sym h.2) tt) (placed new) ws));
    }

-- what raw steps place are the sectors that the events write
raws-placed : (size : ℕ) (events : List Event) → All (IsEventOf size) events → All (λ (w : Writing). (b : List ℕ) × IsSector b × (w ≡ Raw b)) (placed (raw_steps events))
raws-placed size [] fit = All-nil (λ (w : Writing). (b : List ℕ) × IsSector b × (w ≡ Raw b))
raws-placed size (event.Write n bytes ∷ events) fit =
    All-cons (λ (w : Writing). (b : List ℕ) × IsSector b × (w ≡ Raw b)) (Raw bytes) (placed (raw_steps events)) (bytes, (All-head (IsEventOf size) (event.Write n bytes) events fit).1, refl)
    (raws-placed size events (All-tail (IsEventOf size) (event.Write n bytes) events fit))
raws-placed size (event.Flush ∷ events) fit = raws-placed size events (All-tail (IsEventOf size) event.Flush events fit)

pub AreStepsBelow-raw : (next size : ℕ) (steps : List Step) (events : List Event) → AreStepsBelow next steps → All (IsEventOf size) events → AreStepsBelow next (steps ++ raw_steps events)
AreStepsBelow-raw next size steps events are fit =
    AreStepsBelow-raws next steps (raw_steps events) are (λ w h. All-contains (λ (v : Writing). (b : List ℕ) × IsSector b × (v ≡ Raw b)) (placed (raw_steps events)) w (raws-placed size events fit) h)

pub events_of-raw : (events : List Event) → events_of (raw_steps events) ≡ events
events_of-raw [] = refl
events_of-raw (event.Write n bytes ∷ events) = ap (λ (l : List Event). event.Write n bytes ∷ l) (events_of-raw events)
events_of-raw (event.Flush ∷ events) = ap (λ (l : List Event). event.Flush ∷ l) (events_of-raw events)

-- the first of the steps alone
pub AreStepsBelow-take : (next t : ℕ) (steps : List Step) → AreStepsBelow next steps → AreStepsBelow next (take t steps)
AreStepsBelow-take next t steps are =
    let split = placed-front t steps in
    record {
      fit = AreSteps-take t steps are.fit;
      below = λ i d lt.
          let all : All (IsNumberedBelow next) (placed (take t steps) ++ placed (drop t steps)) = subst (All (IsNumberedBelow next)) split are.below in
          subst (IsNumberedBelow next) (get_or_append_left (placed (take t steps)) (placed (drop t steps)) d i lt) (all i d (omega (arith, length-append (placed (take t steps)) (placed (drop t steps)))));
    }

pub AreStepsBelow-none : AreStepsBelow 0 []
AreStepsBelow-none = record {
  fit = record { each = All-nil IsWriting; numbered = λ p q hp hq s n. absurd (omega (arith, hp.1)) };
  below = All-nil (IsNumberedBelow 0);
}
