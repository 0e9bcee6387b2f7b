-- A write that was flushed stands in every torn image, until its sectors are written again.
use Rattle.std.proofs.Common.{◌≡◌, ◌∙◌, ◌⊎◌, inl, inr, ℕ, zero, suc, ◌+◌, ◌*◌, ◌<◌, ◌≤◌, ◌==◌, cond, true, List, [], ◌∷◌, ◌++◌, length, map, get_or, take, drop, Result, Ok, refl, sym, ap, arith, append_assoc, length-take-le, length-drop}
use Rattle.std.proofs.lemmas.Bool.{cond-false, cond-true, eq-eqb, ne_eqb}
use Rattle.std.proofs.Math.Seq.{take-add}
use Rattle.std.proofs.lemmas.List.{drop-drop, ext_get_or, get_or-drop, get_or-take}
use Rattle.std.proofs.lemmas.List.FromFn.{get_or-map-range_with_len, length-map-range_with_len}
use Rattle.aes_core.specs.Schedule.{AreBytes}
use Rattle.aes_core.proofs.KeyBytes.{AreBytes-drop, AreBytes-take}
use Rattle.block_traits.specs.Content.{Content, kept_values, present}
use Rattle.block_traits.specs.Crash.{IsTorn}
use Rattle.block_traits.proofs.Images.{held_when_settled}
use Rattle.eli_base.specs.Keying.{Keying}
use Rattle.sector_runs.specs.Reading.{data_reading, sector_reading, sector_readings, standing}
use Rattle.provider_readings.specs.Data.{survivor}
use Rattle.provider_readings.proofs.Data.{survivor-reads}
use Rattle.range_keys.specs.Ring.{IsKeying}
use Rattle.readings.specs.Ever.{placed_at}
use Rattle.readings.specs.Steps.{Step, Place, Flush, after, cell, cell_after, last_writing}
use Rattle.readings.specs.Survivors.{content_media, sectors_in}
use Rattle.readings.specs.Writes.{data_steps, places_from, puts_of, sector_steps}
use Rattle.readings.specs.Writings.{Writing, Put, Raw, all_device_bytes, device_bytes}
use Rattle.readings.proofs.Cells.{kept_values-cell}
use Rattle.readings.proofs.Settled.{cell_after-append, last-quiet, last_writing-push, one-quiet, present-cell, quiet_step}
use Rattle.readings.proofs.Survivors.{room, some-units}
use Rattle.sealing.specs.Sectors.{before, joined, reading, seal, unit_place, unit_readings, units}
use Rattle.sealing.proofs.Sectors.{length-seal, reading-seal}

-- ---- steps that place nothing in a device sector

pub quiet-both : (a b : List Step) (n : ℕ) → placed_at a n ≡ [] → placed_at b n ≡ [] → placed_at (a ++ b) n ≡ []
quiet-both [] b n first second = second
quiet-both (Place m w ∷ a) b n first second =
    let quiet = quiet_step (m == n) w (placed_at a n) first in
    cond-false (m == n) (w ∷ placed_at (a ++ b) n) (placed_at (a ++ b) n) quiet.0 ∙ quiet-both a b n quiet.1 second
quiet-both (Flush ∷ a) b n first second = quiet-both a b n first second

pub quiet-take : (t : ℕ) (steps : List Step) (n : ℕ) → placed_at steps n ≡ [] → placed_at (take t steps) n ≡ []
quiet-take zero steps n none = refl
quiet-take (suc t) [] n none = refl
quiet-take (suc t) (Place m w ∷ steps) n none =
    let quiet = quiet_step (m == n) w (placed_at steps n) none in
    cond-false (m == n) (w ∷ placed_at (take t steps) n) (placed_at (take t steps) n) quiet.0 ∙ quiet-take t steps n quiet.1
quiet-take (suc t) (Flush ∷ steps) n none = quiet-take t steps n none

-- ---- a flush among steps

abbrev pub HaveFlush : List Step → Type 0
HaveFlush [] = ⊥
HaveFlush (Place m w ∷ steps) = HaveFlush steps
HaveFlush (Flush ∷ steps) = Unit {0}

pub HaveFlush-left : (a b : List Step) → HaveFlush a → HaveFlush (a ++ b)
HaveFlush-left [] b h = absurd h
HaveFlush-left (Place m w ∷ a) b h = HaveFlush-left a b h
HaveFlush-left (Flush ∷ a) b h = tt

pub HaveFlush-right : (a b : List Step) → HaveFlush b → HaveFlush (a ++ b)
HaveFlush-right [] b h = h
HaveFlush-right (Place m w ∷ a) b h = HaveFlush-right a b h
HaveFlush-right (Flush ∷ a) b h = tt

-- if nothing is placed and there is a flush, only the last writing is kept
settles : (steps : List Step) (n : ℕ) (ws : List Writing) → placed_at steps n ≡ [] → HaveFlush steps → cell_after steps n ws ≡ last_writing ws ∷ []
settles [] n ws none flush = absurd flush
settles (Place m w ∷ steps) n ws none flush =
    let quiet = quiet_step (m == n) w (placed_at steps n) none in
    ap (cell_after steps n) (cond-false (m == n) (ws ++ w ∷ []) ws quiet.0) ∙ settles steps n ws quiet.1 flush
settles (Flush ∷ steps) n ws none flush = one-quiet steps n (last_writing ws) none

-- ---- what a write places

quiet-places : (m : ℕ) (ws : List Writing) (n : ℕ) → (n < m) ⊎ (m + length ws ≤ n) → placed_at (places_from m ws) n ≡ []
quiet-places m [] n h = refl
quiet-places m (w ∷ ws) n (inl low) =
    cond-false (m == n) (w ∷ placed_at (places_from (m + 1) ws) n) (placed_at (places_from (m + 1) ws) n) (ne_eqb m n (λ same. omega (arith, same, low)))
    ∙ quiet-places (m + 1) ws n (inl (omega (arith, low)))
quiet-places m (w ∷ ws) n (inr high) =
    cond-false (m == n) (w ∷ placed_at (places_from (m + 1) ws) n) (placed_at (places_from (m + 1) ws) n) (ne_eqb m n (λ same. omega (arith, same, high)))
    ∙ quiet-places (m + 1) ws n (inr (omega (arith, high)))

length-puts : (number : ℕ) (k : Keying) (sector : ℕ) (bytes : List ℕ) → length (puts_of number k sector bytes) ≡ units k
length-puts number k sector bytes =
    length-map-range_with_len (λ (j : ℕ). Put (record { number = number; keying = k; sector = sector; bytes = bytes; unit = j })) 0 (units k)

quiet-sector : (number : ℕ) (k : Keying) (sector : ℕ) (bytes : List ℕ) (n : ℕ) → (n < sector * units k) ⊎ ((sector + 1) * units k ≤ n) → placed_at (sector_steps number k sector bytes) n ≡ []
quiet-sector number k sector bytes n (inl low) = quiet-places (sector * units k) (puts_of number k sector bytes) n (inl low)
quiet-sector number k sector bytes n (inr high) =
    let many = length-puts number k sector bytes in
    quiet-places (sector * units k) (puts_of number k sector bytes) n (inr (omega (arith, many, high)))

pub quiet-data : (number : ℕ) (k : Keying) (first count : ℕ) (whole : List ℕ) (n : ℕ) → (n < first * units k) ⊎ ((first + count) * units k ≤ n) → placed_at (data_steps number k first count whole) n ≡ []
quiet-data number k first zero whole n h = refl
quiet-data number k first (suc count) whole n (inl low) =
    quiet-both (sector_steps number k first (take k.sectorsize whole)) (data_steps number k (first + 1) count (drop k.sectorsize whole)) n
    (quiet-sector number k first (take k.sectorsize whole) n (inl low))
    (quiet-data number k (first + 1) count (drop k.sectorsize whole) n (inl (omega (arith, low))))
quiet-data number k first (suc count) whole n (inr high) =
    let split : (first + suc count) * units k ≡ (first + 1) * units k + count * units k = omega arith in
    let again : (first + 1 + count) * units k ≡ (first + 1) * units k + count * units k = omega arith in
    quiet-both (sector_steps number k first (take k.sectorsize whole)) (data_steps number k (first + 1) count (drop k.sectorsize whole)) n
    (quiet-sector number k first (take k.sectorsize whole) n (inr (omega (arith, high, split))))
    (quiet-data number k (first + 1) count (drop k.sectorsize whole) n (inr (omega (arith, high, split, again))))

last-places : (m : ℕ) (ws : List Writing) (n j : ℕ) (cell : List Writing) → j < length ws → n ≡ m + j → last_writing (cell_after (places_from m ws) n cell) ≡ get_or ws j (Raw [])
last-places m [] n j cell lt at = absurd (omega (arith, lt))
last-places m (w ∷ ws) n zero cell lt at =
    let here : m == n ≡ true = eq-eqb m n (omega (arith, at)) in
    ap (λ (l : List Writing). last_writing (cell_after (places_from (m + 1) ws) n l)) (cond-true (m == n) (cell ++ w ∷ []) cell here)
    ∙ last-quiet (places_from (m + 1) ws) n (cell ++ w ∷ []) (quiet-places (m + 1) ws n (inl (omega (arith, at))))
    ∙ last_writing-push cell w
last-places m (w ∷ ws) n (suc j) cell lt at = last-places (m + 1) ws n j (cond (m == n) (cell ++ w ∷ []) cell) (omega (arith, lt)) (omega (arith, at))

last-sector : (number : ℕ) (k : Keying) (sector : ℕ) (bytes : List ℕ) (j : ℕ) (cell : List Writing) → j < units k
    → last_writing (cell_after (sector_steps number k sector bytes) (unit_place k sector j) cell) ≡ Put (record { number = number; keying = k; sector = sector; bytes = bytes; unit = j })
last-sector number k sector bytes j cell lt =
    let put : ℕ → Writing = λ j. Put (record { number = number; keying = k; sector = sector; bytes = bytes; unit = j }) in
    let many = length-puts number k sector bytes in
    last-places (sector * units k) (puts_of number k sector bytes) (unit_place k sector j) j cell (omega (arith, many, lt)) refl
    ∙ get_or-map-range_with_len put 0 (units k) j j (Raw []) lt (omega arith)

-- each of the cells of these sectors has one writing, that of the write
abbrev pub Hold : (ℕ → List Writing) → ℕ → Keying → ℕ → ℕ → List ℕ → Type 0
Hold cells number k first zero whole = Unit {0}
Hold cells number k first (suc count) whole =
    ((j : ℕ) → j < units k → cells (unit_place k first j) ≡ Put (record { number = number; keying = k; sector = first; bytes = take k.sectorsize whole; unit = j }) ∷ [])
    × Hold cells number k (first + 1) count (drop k.sectorsize whole)

Hold-same : (f g : ℕ → List Writing) (number : ℕ) (k : Keying) (first count : ℕ) (whole : List ℕ) → ((n : ℕ) → g n ≡ f n) → Hold f number k first count whole → Hold g number k first count whole
Hold-same f g number k first zero whole same h = tt
Hold-same f g number k first (suc count) whole same h =
    ((λ j lt. same (unit_place k first j) ∙ h.0 j lt), Hold-same f g number k (first + 1) count (drop k.sectorsize whole) same h.1)

-- nothing is placed in these sectors
abbrev pub IsQuiet : Keying → ℕ → ℕ → List Step → Type 0
IsQuiet k first count steps = (n : ℕ) → first * units k ≤ n → n < (first + count) * units k → placed_at steps n ≡ []

pub write-holds : (count number : ℕ) (k : Keying) (first : ℕ) (whole : List ℕ) (cells : ℕ → List Writing) (tail : List Step) → IsQuiet k first count tail → HaveFlush tail
    → Hold (λ n. cell_after (data_steps number k first count whole ++ tail) n (cells n)) number k first count whole
write-holds zero number k first whole cells tail quiet flush = tt
write-holds (suc count) number k first whole cells tail quiet flush =
    let bytes : List ℕ = take k.sectorsize whole in
    let more : List ℕ = drop k.sectorsize whole in
    let here : List Step = sector_steps number k first bytes in
    let rest : List Step = data_steps number k (first + 1) count more in
    let step : (n : ℕ) → cell_after ((here ++ rest) ++ tail) n (cells n) ≡ cell_after (rest ++ tail) n (cell_after here n (cells n)) =
    λ n. ap (λ (s : List Step). cell_after s n (cells n)) (append_assoc here rest tail) ∙ cell_after-append here (rest ++ tail) n (cells n) in
    let split : (first + suc count) * units k ≡ first * units k + units k + count * units k = omega arith in
    let again : (first + 1 + count) * units k ≡ first * units k + units k + count * units k = omega arith in
    let next : (first + 1) * units k ≡ first * units k + units k = omega arith in (
      (λ j lt.
          let n : ℕ = unit_place k first j in
          let inside : n < (first + suc count) * units k = omega (arith, lt, split) in
          step n
          ∙ settles (rest ++ tail) n (cell_after here n (cells n))
          (quiet-both rest tail n (quiet-data number k (first + 1) count more n (inl (omega (arith, lt, next)))) (quiet n (omega arith) inside))
          (HaveFlush-right rest tail flush)
          ∙ ap (λ (w : Writing). w ∷ []) (last-sector number k first bytes j (cells n) lt)),
      Hold-same (λ n. cell_after (rest ++ tail) n (cell_after here n (cells n))) (λ n. cell_after ((here ++ rest) ++ tail) n (cells n)) number k (first + 1) count more step
          (write-holds count number k (first + 1) more (λ n. cell_after here n (cells n)) tail
          (λ n low high. quiet n (omega (arith, low, next)) (omega (arith, high, split, again))) flush),
    )

-- ---- what a torn image reads as there

sector-lasts : (number : ℕ) (k : Keying) (sector : ℕ) (bytes : List ℕ) (cells : ℕ → List Writing) (now : Content) (image : List (List ℕ)) → IsKeying k → AreBytes bytes → length bytes ≡ k.sectorsize
    → sector < content_media k now → IsTorn now image → ((n : ℕ) → kept_values now n ≡ all_device_bytes (cells n))
    → ((j : ℕ) → j < units k → cells (unit_place k sector j) ≡ Put (record { number = number; keying = k; sector = sector; bytes = bytes; unit = j }) ∷ [])
    → sector_reading k (survivor image) sector ≡ Ok bytes
sector-lasts number k sector bytes cells now image is are size below torn kept holds =
    let there = room (units k) sector (length now.base) (some-units k is) below in
    let same_size = torn.same.size in
    let fits : sector * units k + units k ≤ length image = omega (arith, there, same_size) in
    let rest : List (List ℕ) = drop (sector * units k) image in
    let left = length-drop (sector * units k) image in
    let long : length (take (units k) rest) ≡ units k = length-take-le (units k) rest (omega (arith, left, fits)) in
    let sealed = length-seal k sector bytes in
    let same : sectors_in k sector image ≡ seal k sector bytes = ext_get_or [] (sectors_in k sector image) (seal k sector bytes) (long ∙ sym sealed) (λ j lt.
    let inside : j < units k = omega (arith, lt, long) in
    let n : ℕ = unit_place k sector j in
    get_or-take (units k) rest j [] inside ∙ get_or-drop (sector * units k) image j []
    ∙ held_when_settled now image n (get_or (seal k sector bytes) j []) (omega (arith, there, inside)) (kept n ∙ ap all_device_bytes (holds j inside)) (inr torn)) in
    survivor-reads k sector image fits ∙ ap (λ (l : List (List ℕ)). joined (unit_readings k sector l)) same ∙ reading-seal k sector bytes is are size

pub data-lasts : (count number : ℕ) (k : Keying) (first : ℕ) (whole : List ℕ) (cells : ℕ → List Writing) (now : Content) (image : List (List ℕ)) → IsKeying k → AreBytes whole → count * k.sectorsize ≤ length whole
    → first + count ≤ content_media k now → IsTorn now image → ((n : ℕ) → kept_values now n ≡ all_device_bytes (cells n)) → Hold cells number k first count whole
    → data_reading k (survivor image) first count ≡ Ok (take (count * k.sectorsize) whole)
data-lasts zero number k first whole cells now image is are size below torn kept holds =
    let none : 0 ≡ zero * k.sectorsize = omega arith in
    ap (λ (n : ℕ). Ok (take n whole)) none
data-lasts (suc count) number k first whole cells now image is are size below torn kept holds =
    let S : ℕ = k.sectorsize in
    let split : suc count * S ≡ S + count * S = omega arith in
    let one : length (take S whole) ≡ S = length-take-le S whole (omega (arith, size, split)) in
    let left = length-drop S whole in
    let more : count * S ≤ length (drop S whole) = omega (arith, size, split, left) in
    let here = sector-lasts number k first (take S whole) cells now image is (AreBytes-take S whole are) one (omega (arith, below)) torn kept holds.0 in
    let rest = data-lasts count number k (first + 1) (drop S whole) cells now image is (AreBytes-drop S whole are) more (omega (arith, below)) torn kept holds.1 in
    ap (λ (r : Result (List ℕ) ℕ). joined (r ∷ sector_readings k (survivor image) (first + 1) count)) here
    ∙ ap (before (take S whole)) rest
    ∙ ap (λ (l : List ℕ). Ok l) (sym (take-add S (count * S) whole) ∙ ap (λ (n : ℕ). take n whole) (sym split))

-- ---- a write in two parts

pub data_steps-split : (a b number : ℕ) (k : Keying) (first : ℕ) (whole : List ℕ)
    → data_steps number k first (a + b) whole ≡ data_steps number k first a whole ++ data_steps number k (first + a) b (drop (a * k.sectorsize) whole)
data_steps-split zero b number k first whole =
    let count : zero + b ≡ b = omega arith in
    let at : first ≡ first + zero = omega arith in
    let none : 0 ≡ zero * k.sectorsize = omega arith in
    ap (λ (n : ℕ). data_steps number k first n whole) count
    ∙ ap (λ (n : ℕ). data_steps number k n b whole) at
    ∙ ap (λ (n : ℕ). data_steps number k (first + zero) b (drop n whole)) none
data_steps-split (suc a) b number k first whole =
    let S : ℕ = k.sectorsize in
    let count : suc a + b ≡ suc (a + b) = omega arith in
    let at : first + 1 + a ≡ first + suc a = omega arith in
    let past : S + a * S ≡ suc a * S = omega arith in
    let here : List Step = sector_steps number k first (take S whole) in
    let rest : List Step = data_steps number k (first + 1) a (drop S whole) in
    ap (λ (n : ℕ). data_steps number k first n whole) count
    ∙ ap (λ (l : List Step). here ++ l) (data_steps-split a b number k (first + 1) (drop S whole))
    ∙ ap (λ (n : ℕ). here ++ (rest ++ data_steps number k n b (drop (a * S) (drop S whole)))) at
    ∙ ap (λ (l : List ℕ). here ++ (rest ++ data_steps number k (first + suc a) b l)) (drop-drop (a * S) S whole ∙ ap (λ (n : ℕ). drop n whole) past)
    ∙ sym (append_assoc here rest (data_steps number k (first + suc a) b (drop (suc a * S) whole)))

-- ---- device sectors that have one kept value

standing-same : (c d : Content) (n count : ℕ) → ((m : ℕ) → n ≤ m → m < n + count → present c m ≡ present d m) → standing c n count ≡ standing d n count
standing-same c d n zero same = refl
standing-same c d n (suc count) same =
    let here = same n (omega arith) (omega arith) in
    let rest = standing-same c d (n + 1) count (λ m low high. same m (omega (arith, low)) (omega (arith, high))) in
    λ i. here i ∷ rest i

sectors-same : (count : ℕ) (k : Keying) (first : ℕ) (c d : Content) → ((n : ℕ) → first * units k ≤ n → n < (first + count) * units k → present c n ≡ present d n)
    → sector_readings k c first count ≡ sector_readings k d first count
sectors-same zero k first c d same = refl
sectors-same (suc count) k first c d same =
    let split : (first + suc count) * units k ≡ first * units k + units k + count * units k = omega arith in
    let again : (first + 1 + count) * units k ≡ first * units k + units k + count * units k = omega arith in
    let next : (first + 1) * units k ≡ first * units k + units k = omega arith in
    let here = standing-same c d (first * units k) (units k) (λ m low high. same m low (omega (arith, high, split))) in
    let rest = sectors-same count k (first + 1) c d (λ n low high. same n (omega (arith, low, next)) (omega (arith, high, split, again))) in
    λ i. reading k first (here i) ∷ rest i

pub data-same : (k : Keying) (first count : ℕ) (c d : Content) → ((n : ℕ) → first * units k ≤ n → n < (first + count) * units k → present c n ≡ present d n)
    → data_reading k c first count ≡ data_reading k d first count
data-same k first count c d same = ap joined (sectors-same count k first c d same)

-- after a flush only one writing is in a cell, and it stays there while nothing else is placed
pub stays-alone : (c : Content) (earlier later : List Step) (n : ℕ) → placed_at later n ≡ []
    → (w : Writing) × (cell c ((earlier ++ Flush ∷ []) ++ later) n ≡ w ∷ []) × (cell c (earlier ++ Flush ∷ []) n ≡ w ∷ [])
stays-alone c earlier later n quiet =
    let start : List Writing = map Raw (kept_values c n) in
    let w : Writing = last_writing (cell_after earlier n start) in
    let flushed : cell_after (earlier ++ Flush ∷ []) n start ≡ w ∷ [] = cell_after-append earlier (Flush ∷ []) n start in
    (w, cell_after-append (earlier ++ Flush ∷ []) later n start ∙ ap (cell_after later n) flushed ∙ one-quiet later n w quiet, flushed)

-- a torn image has in such a sector what stood there when the flush was made
pub stands-as-flushed : (c : Content) (earlier later : List Step) (image : List (List ℕ)) (n : ℕ) → placed_at later n ≡ [] → n + 1 < length c.base
    → IsTorn (after ((earlier ++ Flush ∷ []) ++ later) c) image → get_or image n [] ≡ present (after (earlier ++ Flush ∷ []) c) n
stands-as-flushed c earlier later image n quiet small torn =
    let one = stays-alone c earlier later n quiet in
    let kept : kept_values (after ((earlier ++ Flush ∷ []) ++ later) c) n ≡ device_bytes one.0 ∷ [] =
    kept_values-cell c ((earlier ++ Flush ∷ []) ++ later) n ∙ ap all_device_bytes one.1 in
    held_when_settled (after ((earlier ++ Flush ∷ []) ++ later) c) image n (device_bytes one.0) small kept (inr torn)
    ∙ sym (present-cell c (earlier ++ Flush ∷ []) n ∙ ap (λ (l : List Writing). device_bytes (last_writing l)) one.2)
