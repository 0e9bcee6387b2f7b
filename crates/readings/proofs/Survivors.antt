-- Images that survived, and the writings that their device sectors hold.
use Rattle.std.proofs.Common.{◌≡◌, ◌⊎◌, inl, inr, ℕ, ◌+◌, ◌-◌, ◌*◌, ◌/◌, ◌<◌, ◌≤◌, ◌==◌, List, [], ◌∷◌, ◌++◌, length, map, get_or, take, drop, cond, Bool, true, false, All, Contains, refl, sym, ap, subst, ◌∙◌, arith, length-append, length-drop, length-take-le}
use Rattle.std.proofs.Math.Nat.{mul-le-mul_right, div-mul-le_self}
use Rattle.std.proofs.Math.Seq.{take-append-add}
use Rattle.std.proofs.lemmas.List.{ext_get_or, get_or-map, get_or-take, get_or-drop, get_or_append_left, length-map, take-map, take-append-drop}
use Rattle.std.proofs.lemmas.List.Elements.{All-nil, All-cons, All-head, All-tail, All-push, All-get_or, All-map, All-from_get_or, All-contains, All-weaker, All-contains_itself, Contains-append_left, Contains-get_or}
use Rattle.std.proofs.lemmas.List.FromFn.{length-map-range_with_len, get_or-map-range_with_len}
use Rattle.std.proofs.lemmas.Option.{slice_get_within, get_or_from_slice_get}
use Rattle.std.specs.List.{range_with_len}
use Rattle.block_traits.specs.declared.disk.Event.{Event}
use Rattle.block_traits.specs.Content.{Content, IsSector, IsContentOf, kept_values}
use Rattle.block_traits.specs.Crash.{HoldsKept, IsUnsettled, IsImage, IsTorn, IsAltered}
use Rattle.block_traits.proofs.Contents.{All-kept_values, some-kept_after}
use Rattle.eli_base.specs.Keying.{Keying}
use Rattle.range_keys.specs.Ring.{IsKeying}
use Rattle.sealing.specs.Sectors.{unit_place, units, unit_readings}
use Rattle.readings.specs.Writings.{PutUnit, Writing, Put, Raw, IsWriting, AreWritings, device_bytes, all_device_bytes}
use Rattle.readings.specs.Steps.{Step, Place, Flush, event_of, events_of, after, last_writing, cell_after, cell}
use Rattle.readings.specs.Read.{read, writing_in}
use Rattle.readings.specs.Survivors.{sectors_in, content_media, moment, placed, AreSteps, chosen, IsOfCell, IsStrange, ReadFromCells}
use Rattle.readings.proofs.Cells.{kept_values-cell}
use Rattle.readings.proofs.Forged.{same_bytes, found}
use Rattle.readings.proofs.Readings.{unit_readings-read}

-- ---- what a cell holds

pub All-last : (P : Writing → Type 0) (ws : List Writing) → 0 < length ws → All P ws → P (last_writing ws)
All-last P [] some all = absurd (omega arith)
All-last P (w ∷ []) some all = All-head P w [] all
All-last P (w ∷ next ∷ ws) some all = All-last P (next ∷ ws) (omega arith) (All-tail P w (next ∷ ws) all)

some-placed : (here : Bool) (ws : List Writing) (w : Writing) → 0 < length ws → 0 < length (cond here (ws ++ w ∷ []) ws)
some-placed true ws w some = omega (arith, length-append ws (w ∷ []))
some-placed false ws w some = some

All-placed : (P : Writing → Type 0) (here : Bool) (ws : List Writing) (w : Writing) → All P ws → P w → All P (cond here (ws ++ w ∷ []) ws)
All-placed P true ws w all one = All-push P ws w all one
All-placed P false ws w all one = all

-- what holds of all that was there, and of all that is placed, holds of the cell
All-cell_after : (P : Writing → Type 0) (steps : List Step) (n : ℕ) (ws : List Writing) → All P (placed steps) → 0 < length ws → All P ws → All P (cell_after steps n ws)
All-cell_after P [] n ws new some all = all
All-cell_after P (Place m w ∷ steps) n ws new some all =
    All-cell_after P steps n (cond (m == n) (ws ++ w ∷ []) ws) (All-tail P w (placed steps) new) (some-placed (m == n) ws w some)
    (All-placed P (m == n) ws w all (All-head P w (placed steps) new))
All-cell_after P (Flush ∷ steps) n ws new some all =
    All-cell_after P steps n (last_writing ws ∷ []) new (omega arith) (All-cons P (last_writing ws) [] (All-last P ws some all) (All-nil P))

pub some-cell : (c : Content) (steps : List Step) (n : ℕ) → 0 < length (cell c steps n)
some-cell c steps n =
    let count : length (kept_values (after steps c) n) ≡ length (cell c steps n) = ap length (kept_values-cell c steps n) ∙ length-map (cell c steps n) device_bytes in
    let some = some-kept_after (c.history ++ events_of steps) n (get_or c.base n [] ∷ []) (omega arith) in
    omega (arith, count, some)

-- w is a writing, and if it is a Put, it is among these
pub record Fits (among : List Writing) (w : Writing) : Type 0 where
  pub is : IsWriting w
  pub is_in : (p : PutUnit) → w ≡ Put p → Contains among (Put p)

Fits-raw : (among : List Writing) (bytes : List ℕ) → IsSector bytes → Fits among (Raw bytes)
Fits-raw among bytes is = record { is = is; is_in = λ p e. absurd (cc e) }

Fits-placed : (steps : List Step) → AreSteps steps → All (Fits (placed steps)) (placed steps)
Fits-placed steps are = λ i d lt. record {
  is = are.each i d lt;
  is_in = λ p e. subst (Contains (placed steps)) e (All-contains_itself (placed steps) i d lt);
}

pub Fits-cell : (c : Content) (steps : List Step) (n : ℕ) → IsContentOf (length c.base) c → n < length c.base → AreSteps steps → All (Fits (placed steps)) (cell c steps n)
Fits-cell c steps n content small are =
    let values = kept_values c n in
    let raws : All (Fits (placed steps)) (map Raw values) =
    All-map (Fits (placed steps)) Raw values (All-weaker IsSector (λ (b : List ℕ). Fits (placed steps) (Raw b)) (Fits-raw (placed steps)) values (All-kept_values (length c.base) c n content small)) in
    let some : 0 < length values = some-kept_after c.history n (get_or c.base n [] ∷ []) (omega arith) in
    let same = length-map values Raw in
    All-cell_after (Fits (placed steps)) steps n (map Raw values) (Fits-placed steps are) (omega arith) raws

pub AreWritings-fit : (k : Keying) (steps : List Step) (ws : List Writing) → AreSteps steps → length ws ≡ units k → All (Fits (placed steps)) ws → AreWritings k ws
AreWritings-fit k steps ws are count all = record {
  count = count;
  each = All-weaker (Fits (placed steps)) IsWriting (λ w h. h.is) ws all;
  numbered = λ p q hp hq sector number.
      are.numbered p q ((All-contains (Fits (placed steps)) ws (Put p) all hp).is_in p refl) ((All-contains (Fits (placed steps)) ws (Put q) all hq).is_in q refl) sector number;
}

-- ---- where a logical sector stands

pub room : (units sector sectors : ℕ) → 0 < units → sector < (512 * sectors - 512) / (512 * units) → sector * units + units + 1 ≤ sectors
room units sector sectors some below =
    let more : sector + 1 ≤ (512 * sectors - 512) / (512 * units) = omega arith in
    let le = mul-le-mul_right (512 * units) more in
    let div = div-mul-le_self (512 * sectors - 512) (512 * units) in
    omega (arith, le, div)

pub some-units : (k : Keying) → IsKeying k → 0 < units k
some-units k is = omega arith

all_bytes-there : (k : Keying) (sector : ℕ) (image : List (List ℕ)) (ws : List Writing) → sector * units k + units k ≤ length image → length ws ≡ units k
    → ((j : ℕ) → j < units k → device_bytes (writing_in ws j) ≡ get_or image (unit_place k sector j) []) → sectors_in k sector image ≡ all_device_bytes ws
all_bytes-there k sector image ws fits count each =
    let rest : List (List ℕ) = drop (sector * units k) image in
    let left = length-drop (sector * units k) image in
    let long : length (take (units k) rest) ≡ units k = length-take-le (units k) rest (omega arith) in
    let same = length-map ws device_bytes in
    ext_get_or [] (sectors_in k sector image) (all_device_bytes ws) (omega arith)
    (λ j lt.
    let small : j < units k = omega arith in
    get_or-take (units k) rest j [] small ∙ get_or-drop (sector * units k) image j []
    ∙ sym (get_or-map device_bytes ws j (Raw []) [] (omega arith) ∙ each j small))

reads : (k : Keying) (sector : ℕ) (image : List (List ℕ)) (steps : List Step) (ws : List Writing) → IsKeying k → AreSteps steps → sector * units k + units k ≤ length image
    → length ws ≡ units k → All (Fits (placed steps)) ws → ((j : ℕ) → j < units k → device_bytes (writing_in ws j) ≡ get_or image (unit_place k sector j) [])
    → unit_readings k sector (sectors_in k sector image) ≡ read k sector ws
reads k sector image steps ws is are fits count all each =
    ap (unit_readings k sector) (all_bytes-there k sector image ws fits count each)
    ∙ unit_readings-read k sector ws is (AreWritings-fit k steps ws are count all)

-- ---- an image by choice

chosen-there : (c now : Content) (steps : List Step) (choice : ℕ → ℕ) (image : List (List ℕ)) (n : ℕ) → now ≡ after steps c → IsImage now choice image → n < length now.base
    → (choice n < length (cell c steps n)) × (device_bytes (writing_in (cell c steps n) (choice n)) ≡ get_or image n [])
chosen-there c now steps choice image n is_now image_is small =
    let same : kept_values now n ≡ all_device_bytes (cell c steps n) = ap (λ (d : Content). kept_values d n) is_now ∙ kept_values-cell c steps n in
    let value = image_is.values n small in
    let within = slice_get_within (kept_values now n) (choice n) (get_or image n []) value in
    let count : length (kept_values now n) ≡ length (cell c steps n) = ap length same ∙ length-map (cell c steps n) device_bytes in
    let below : choice n < length (cell c steps n) = omega arith in (
      below,
      sym (get_or-map device_bytes (cell c steps n) (choice n) (Raw []) [] below)
          ∙ sym (ap (λ (l : List (List ℕ)). get_or l (choice n) []) same)
          ∙ get_or_from_slice_get (kept_values now n) (choice n) (get_or image n []) [] value,
    )

image-reads : (c now : Content) (steps : List Step) (choice : ℕ → ℕ) (image : List (List ℕ)) (k : Keying) (sector : ℕ) → now ≡ after steps c
    → IsContentOf (length c.base) c → AreSteps steps → IsKeying k → sector < content_media k c → IsImage now choice image
    → unit_readings k sector (sectors_in k sector image) ≡ read k sector (chosen k sector (cell c steps) choice)
image-reads c now steps choice image k sector is_now content are is below image_is =
    let ws : List Writing = chosen k sector (cell c steps) choice in
    let pick : ℕ → Writing = λ j. writing_in (cell c steps (unit_place k sector j)) (choice (unit_place k sector j)) in
    let base : length now.base ≡ length c.base = ap (λ (d : Content). length d.base) is_now in
    let fits = room (units k) sector (length c.base) (some-units k is) below in
    let size = image_is.size in
    let count : length ws ≡ units k = length-map-range_with_len pick 0 (units k) in
    let at = λ (j : ℕ) (lt : j < units k). let same : writing_in ws j ≡ pick j = get_or-map-range_with_len pick 0 (units k) j j (Raw []) lt (omega arith) in same in
    let small = λ (j : ℕ) (lt : j < units k). let h : unit_place k sector j < length c.base = omega arith in h in
    let there = λ (j : ℕ) (lt : j < units k). chosen-there c now steps choice image (unit_place k sector j) is_now image_is (omega (arith, small j lt)) in
    reads k sector image steps ws is are (omega arith) count
    (All-from_get_or (Fits (placed steps)) ws (Raw []) (λ j lt.
    let inside : j < units k = omega arith in
    subst (Fits (placed steps)) (sym (at j inside))
    (All-get_or (Fits (placed steps)) (cell c steps (unit_place k sector j)) (choice (unit_place k sector j)) (Raw []) (there j inside).0
    (Fits-cell c steps (unit_place k sector j) content (small j inside) are))))
    (λ j lt. ap device_bytes (at j lt) ∙ (there j lt).1)

-- ---- any moment

pub placed-append : (steps more : List Step) → placed (steps ++ more) ≡ placed steps ++ placed more
placed-append [] more = refl
placed-append (Place n w ∷ steps) more = ap (λ (l : List Writing). w ∷ l) (placed-append steps more)
placed-append (Flush ∷ steps) more = placed-append steps more

pub placed-front : (t : ℕ) (steps : List Step) → placed steps ≡ placed (take t steps) ++ placed (drop t steps)
placed-front t steps = ap placed (sym (take-append-drop t steps)) ∙ placed-append (take t steps) (drop t steps)

-- the first steps are steps too
pub AreSteps-take : (t : ℕ) (steps : List Step) → AreSteps steps → AreSteps (take t steps)
AreSteps-take t steps are =
    let split = placed-front t steps in
    let more = λ (p : PutUnit) (h : Contains (placed (take t steps)) (Put p)).
    subst (λ (l : List Writing). Contains l (Put p)) (sym split) (Contains-append_left (placed (take t steps)) (placed (drop t steps)) (Put p) h) in
    record {
      each = λ i d lt.
          let all : All IsWriting (placed (take t steps) ++ placed (drop t steps)) = subst (All IsWriting) split are.each in
          subst IsWriting (get_or_append_left (placed (take t steps)) (placed (drop t steps)) d i lt) (all i d (omega (arith, length-append (placed (take t steps)) (placed (drop t steps)))));
      numbered = λ p q hp hq sector number. are.numbered p q (more p hp) (more q hq) sector number;
    }

pub moment-after : (t : ℕ) (steps : List Step) (c : Content) → moment t steps c ≡ after (take t steps) c
moment-after t steps c =
    let history = take-append-add c.history (events_of steps) t ∙ ap (λ (l : List Event). c.history ++ l) (take-map event_of t steps) in
    (λ i. record { base = c.base; history = history i })

pub image-reads_at : (c : Content) (steps : List Step) (t : ℕ) (choice : ℕ → ℕ) (image : List (List ℕ)) (k : Keying) (sector : ℕ)
    → IsContentOf (length c.base) c → AreSteps steps → IsKeying k → sector < content_media k c → IsImage (moment t steps c) choice image
    → unit_readings k sector (sectors_in k sector image) ≡ read k sector (chosen k sector (cell c (take t steps)) choice)
image-reads_at c steps t choice image k sector content are is below image_is =
    image-reads c (moment t steps c) (take t steps) choice image k sector (moment-after t steps c) content (AreSteps-take t steps are) is below image_is

-- ---- any image with sectors

-- the writing in a device sector, and how it came there
record Held (ws : List Writing) (there : List ℕ) : Type 0 where
  writing : Writing
  how : IsOfCell ws there writing ⊎ IsStrange ws there writing

held : (ws : List Writing) (there : List ℕ) → Held ws there
held ws there = elim (found (λ (w : Writing). device_bytes w ≡ there) (λ w. same_bytes (device_bytes w) there) ws) [
  | inl some ↦ record { writing = some.0; how = inl (record { is_in = some.1; has = some.2 }) }
  | inr none ↦ record { writing = Raw there; how = inr (record { raw = refl; none = none }) }
]

held-bytes : (ws : List Writing) (there : List ℕ) (w : Writing) → IsOfCell ws there w ⊎ IsStrange ws there w → device_bytes w ≡ there
held-bytes ws there w (inl h) = h.has
held-bytes ws there w (inr h) = ap device_bytes h.raw

held-fits : (among ws : List Writing) (there : List ℕ) (w : Writing) → All (Fits among) ws → IsSector there → IsOfCell ws there w ⊎ IsStrange ws there w → Fits among w
held-fits among ws there w all is (inl h) = All-contains (Fits among) ws w all h.is_in
held-fits among ws there w all is (inr h) = subst (Fits among) (sym h.raw) (Fits-raw among there is)

held-may : (ws : List Writing) (there : List ℕ) (w : Writing) (may : Type 0) → (Contains (all_device_bytes ws) there ⊎ may) → IsOfCell ws there w ⊎ IsStrange ws there w
    → IsOfCell ws there w ⊎ (IsStrange ws there w × may)
held-may ws there w may kept (inl h) = inl h
held-may ws there w may (inr strange) (inr h) = inr (h, strange)
held-may ws there w may (inl kept) (inr h) =
    let v : Writing = writing_in ws kept.0 in
    let lt : kept.0 < length ws = omega (arith, kept.1, length-map ws device_bytes) in
    absurd (h.none v (Contains-get_or ws kept.0 (Raw []) lt) (sym (get_or-map device_bytes ws kept.0 (Raw []) there lt) ∙ kept.2))

-- an image with sectors, in which each device sector of the logical sector has a kept value, or may be strange
image-from_cells : (c : Content) (steps : List Step) (image : List (List ℕ)) (k : Keying) (sector : ℕ) (may : ℕ → Type 0)
    → IsContentOf (length c.base) c → AreSteps steps → IsKeying k → sector < content_media k c → length image ≡ length c.base → All IsSector image
    → ((n : ℕ) → n + 1 < length c.base → Contains (all_device_bytes (cell c steps n)) (get_or image n []) ⊎ may n)
    → ReadFromCells k sector (cell c steps) may image
image-from_cells c steps image k sector may content are is below size sectors kept =
    let pick : ℕ → Writing = λ j. (held (cell c steps (unit_place k sector j)) (get_or image (unit_place k sector j) [])).writing in
    let ws : List Writing = map pick (range_with_len 0 (units k)) in
    let fits = room (units k) sector (length c.base) (some-units k is) below in
    let count : length ws ≡ units k = length-map-range_with_len pick 0 (units k) in
    let at = λ (j : ℕ) (lt : j < units k). let same : writing_in ws j ≡ pick j = get_or-map-range_with_len pick 0 (units k) j j (Raw []) lt (omega arith) in same in
    let small = λ (j : ℕ) (lt : j < units k). let h : unit_place k sector j + 1 < length c.base = omega arith in h in
    let how = λ (j : ℕ) (lt : j < units k).
    subst (λ (w : Writing). IsOfCell (cell c steps (unit_place k sector j)) (get_or image (unit_place k sector j) []) w ⊎ IsStrange (cell c steps (unit_place k sector j)) (get_or image (unit_place k sector j) []) w)
    (sym (at j lt)) (held (cell c steps (unit_place k sector j)) (get_or image (unit_place k sector j) [])).how in
    let all : All (Fits (placed steps)) ws = All-from_get_or (Fits (placed steps)) ws (Raw []) (λ j lt.
    let inside : j < units k = omega arith in
    held-fits (placed steps) (cell c steps (unit_place k sector j)) (get_or image (unit_place k sector j) []) (writing_in ws j)
    (Fits-cell c steps (unit_place k sector j) content (omega (arith, small j inside)) are)
    (All-get_or IsSector image (unit_place k sector j) [] (omega (arith, small j inside)) sectors) (how j inside)) in
    record {
      writings = ws;
      fits = AreWritings-fit k steps ws are count all;
      each = λ j lt. held-may (cell c steps (unit_place k sector j)) (get_or image (unit_place k sector j) []) (writing_in ws j) (may (unit_place k sector j)) (kept (unit_place k sector j) (small j lt)) (how j lt);
      readings = reads k sector image steps ws is are (omega arith) count all
          (λ j lt. held-bytes (cell c steps (unit_place k sector j)) (get_or image (unit_place k sector j) []) (writing_in ws j) (how j lt));
    }

-- ---- torn and altered images

kept-cell : (c now : Content) (steps : List Step) (n : ℕ) (bytes : List ℕ) → now ≡ after steps c → Contains (kept_values now n) bytes → Contains (all_device_bytes (cell c steps n)) bytes
kept-cell c now steps n bytes is_now h = subst (λ (l : List (List ℕ)). Contains l bytes) (ap (λ (d : Content). kept_values d n) is_now ∙ kept_values-cell c steps n) h

torn-may : (c now : Content) (steps : List Step) (image : List (List ℕ)) (n : ℕ) → now ≡ after steps c → HoldsKept now image n ⊎ IsUnsettled now n
    → Contains (all_device_bytes (cell c steps n)) (get_or image n []) ⊎ IsUnsettled now n
torn-may c now steps image n is_now (inl h) = inl (kept-cell c now steps n (get_or image n []) is_now h)
torn-may c now steps image n is_now (inr h) = inr h

pub torn-reads : (c now : Content) (steps : List Step) (image : List (List ℕ)) (k : Keying) (sector : ℕ) → now ≡ after steps c
    → IsContentOf (length c.base) c → AreSteps steps → IsKeying k → sector < content_media k c → IsTorn now image
    → ReadFromCells k sector (cell c steps) (IsUnsettled now) image
torn-reads c now steps image k sector is_now content are is below torn =
    let base : length now.base ≡ length c.base = ap (λ (d : Content). length d.base) is_now in
    image-from_cells c steps image k sector (IsUnsettled now) content are is below (torn.same.size ∙ base) torn.same.sectors
    (λ n lt. torn-may c now steps image n is_now (torn.others n (omega arith)))

pub torn-reads_at : (c : Content) (steps : List Step) (t : ℕ) (image : List (List ℕ)) (k : Keying) (sector : ℕ)
    → IsContentOf (length c.base) c → AreSteps steps → IsKeying k → sector < content_media k c → IsTorn (moment t steps c) image
    → ReadFromCells k sector (cell c (take t steps)) (IsUnsettled (moment t steps c)) image
torn-reads_at c steps t image k sector content are is below torn =
    torn-reads c (moment t steps c) (take t steps) image k sector (moment-after t steps c) content (AreSteps-take t steps are) is below torn

pub altered-reads_at : (c : Content) (steps : List Step) (t : ℕ) (image : List (List ℕ)) (k : Keying) (sector : ℕ)
    → IsContentOf (length c.base) c → AreSteps steps → IsKeying k → sector < content_media k c → IsAltered (moment t steps c) image
    → ReadFromCells k sector (cell c (take t steps)) (λ n. Unit {0}) image
altered-reads_at c steps t image k sector content are is below altered =
    image-from_cells c (take t steps) image k sector (λ n. Unit {0}) content (AreSteps-take t steps are) is below altered.same.size altered.same.sectors
    (λ n lt. inr tt)
