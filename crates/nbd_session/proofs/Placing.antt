-- If a write was flushed, only what it or a later one placed there may stand.
use Rattle.std.proofs.Common.{◌≡◌, ◌∙◌, ◌⊎◌, inl, inr, ℕ, zero, suc, ◌+◌, ◌*◌, ◌<◌, ◌==◌, Bool, true, false, cond, List, [], ◌∷◌, ◌++◌, length, get_or, take, drop, All, Result, Ok, refl, sym, ap, subst, arith, add-mul, length-append, lt_of_mul-lt-mul_right}
use Rattle.std.proofs.lemmas.Bool.{eq-eqb, eqb-true}
use Rattle.std.proofs.lemmas.List.{drop-drop}
use Rattle.std.proofs.lemmas.List.Elements.{All-append, All-cons, All-contains, All-get_or, All-head, All-nil, All-push, All-same, All-tail}
use Rattle.std.proofs.lemmas.List.FromFn.{get_or-map-range_with_len, length-map-range_with_len}
use Rattle.eli_base.specs.Keying.{Keying}
use Rattle.range_keys.specs.Ring.{IsKeying}
use Rattle.readings.specs.Crashes.{image_unit}
use Rattle.readings.specs.Ever.{placed_at}
use Rattle.readings.specs.Read.{Matches, writing_in}
use Rattle.readings.specs.Steps.{Step, Place, Flush, cell_after, last_writing}
use Rattle.readings.specs.Survivors.{IsStrange, ReadFromCells, ReadsAsPut}
use Rattle.readings.specs.Writes.{data_steps, places_from, puts_of, sector_steps}
use Rattle.readings.specs.Writings.{IsPut, IsWriting, PutUnit, Writing, Put, Raw}
use Rattle.readings.proofs.Readings.{unit_readings-read}
use Rattle.readings.proofs.Settled.{cell_after-append, last_writing-push, put-reads}
use Rattle.readings.proofs.Survivors.{All-last}
use Rattle.sealing.specs.Sectors.{unit_place, units}
use Rattle.nbd_session.proofs.Settling.{HaveFlush}

-- ---- what may stand in a cell after a flush

-- what is new in one more step, which may be here
one-more : {X : Type 0} (P : X → Type 0) (here : Bool) (x : X) (later now : List X) → All P (cond here (x ∷ later) later) → 0 < length now → All P now
    → All P later × (0 < length (cond here (now ++ x ∷ []) now)) × All P (cond here (now ++ x ∷ []) now)
one-more P true x later now new some all =
    let many = length-append now (x ∷ []) in (All-tail P x later new, omega (arith, many), All-push P now x all (All-head P x later new))
one-more P false x later now new some all = (new, some, all)

-- a cell has what it had, and what was placed there
All-cell : (P : Writing → Type 0) (steps : List Step) (n : ℕ) (ws : List Writing) → All P (placed_at steps n) → 0 < length ws → All P ws → All P (cell_after steps n ws)
All-cell P [] n ws new some all = all
All-cell P (Place m w ∷ steps) n ws new some all =
    let one = one-more P (m == n) w (placed_at steps n) ws new some all in All-cell P steps n (cond (m == n) (ws ++ w ∷ []) ws) one.0 one.1 one.2
All-cell P (Flush ∷ steps) n ws new some all =
    All-cell P steps n (last_writing ws ∷ []) new (omega arith) (All-cons P (last_writing ws) [] (All-last P ws some all) (All-nil P))

-- the last writing, if one more step may be here
last-more : (P : Writing → Type 0) (here : Bool) (w : Writing) (later now : List Writing) → All P (cond here (w ∷ later) later) → P (last_writing now)
    → All P later × P (last_writing (cond here (now ++ w ∷ []) now))
last-more P true w later now new last = (All-tail P w later new, subst P (sym (last_writing-push now w)) (All-head P w later new))
last-more P false w later now new last = (new, last)

some-more : (P : Writing → Type 0) (here : Bool) (w : Writing) (later now : List Writing) → All P (cond here (w ∷ later) later) → 0 < length (cond here (w ∷ later) later)
    → All P later × (P (last_writing (cond here (now ++ w ∷ []) now)) ⊎ (0 < length later))
some-more P true w later now new some = (All-tail P w later new, inl (subst P (sym (last_writing-push now w)) (All-head P w later new)))
some-more P false w later now new some = (new, inr some)

-- if something was placed, the last was placed
last-placed : (P : Writing → Type 0) (steps : List Step) (n : ℕ) (ws : List Writing) → All P (placed_at steps n) → P (last_writing ws) ⊎ (0 < length (placed_at steps n)) → P (last_writing (cell_after steps n ws))
last-placed P [] n ws new (inl last) = last
last-placed P [] n ws new (inr some) = absurd (omega (arith, some))
last-placed P (Place m w ∷ steps) n ws new (inl last) =
    let one = last-more P (m == n) w (placed_at steps n) ws new last in last-placed P steps n (cond (m == n) (ws ++ w ∷ []) ws) one.0 (inl one.1)
last-placed P (Place m w ∷ steps) n ws new (inr some) =
    let one = some-more P (m == n) w (placed_at steps n) ws new some in last-placed P steps n (cond (m == n) (ws ++ w ∷ []) ws) one.0 one.1
last-placed P (Flush ∷ steps) n ws new last = last-placed P steps n (last_writing ws ∷ []) new last

-- a flush leaves only the last of what was there before
flushed-cell : (P : Writing → Type 0) (steps : List Step) (n : ℕ) (ws : List Writing) → HaveFlush steps → P (last_writing ws) → All P (placed_at steps n) → All P (cell_after steps n ws)
flushed-cell P [] n ws flush last new = absurd flush
flushed-cell P (Place m w ∷ steps) n ws flush last new =
    let one = last-more P (m == n) w (placed_at steps n) ws new last in flushed-cell P steps n (cond (m == n) (ws ++ w ∷ []) ws) flush one.1 one.0
flushed-cell P (Flush ∷ steps) n ws flush last new = All-cell P steps n (last_writing ws ∷ []) new (omega arith) (All-cons P (last_writing ws) [] last (All-nil P))

-- what may stand in a cell was placed there by these steps, if the first placed something there and the rest flushed
pub cell-placed : (P : Writing → Type 0) (steps tail : List Step) (n : ℕ) (ws : List Writing) → HaveFlush tail → 0 < length (placed_at steps n) → All P (placed_at steps n) → All P (placed_at tail n)
    → All P (cell_after (steps ++ tail) n ws)
cell-placed P steps tail n ws flush some new later =
    All-same P (cell_after (steps ++ tail) n ws) (cell_after tail n (cell_after steps n ws)) (cell_after-append steps tail n ws)
    (flushed-cell P tail n (cell_after steps n ws) flush (last-placed P steps n ws new (inr some)) later)

-- ---- what is placed by parts of steps

cond-append : (here : Bool) (w : Writing) (a b : List Writing) → cond here (w ∷ a ++ b) (a ++ b) ≡ cond here (w ∷ a) a ++ b
cond-append true w a b = refl
cond-append false w a b = refl

pub placed_at-append : (a b : List Step) (n : ℕ) → placed_at (a ++ b) n ≡ placed_at a n ++ placed_at b n
placed_at-append [] b n = refl
placed_at-append (Place m w ∷ a) b n = ap (λ (l : List Writing). cond (m == n) (w ∷ l) l) (placed_at-append a b n) ∙ cond-append (m == n) w (placed_at a n) (placed_at b n)
placed_at-append (Flush ∷ a) b n = placed_at-append a b n

pub All-placed_both : (P : Writing → Type 0) (a b : List Step) (n : ℕ) → All P (placed_at a n) → All P (placed_at b n) → All P (placed_at (a ++ b) n)
All-placed_both P a b n first second = All-same P (placed_at (a ++ b) n) (placed_at a n ++ placed_at b n) (placed_at-append a b n) (All-append P (placed_at a n) (placed_at b n) first second)

All-both : (P : Writing → Type 0) (here : Bool) (w : Writing) (all some : List Writing) → All P (cond here (w ∷ all) all) → (All P all → All P some) → All P (cond here (w ∷ some) some)
All-both P true w all some h less = All-cons P w some (All-head P w all h) (less (All-tail P w all h))
All-both P false w all some h less = less h

pub All-placed_take : (P : Writing → Type 0) (t : ℕ) (steps : List Step) (n : ℕ) → All P (placed_at steps n) → All P (placed_at (take t steps) n)
All-placed_take P zero steps n all = All-nil P
All-placed_take P (suc t) [] n all = all
All-placed_take P (suc t) (Place m w ∷ steps) n all = All-both P (m == n) w (placed_at steps n) (placed_at (take t steps) n) all (λ h. All-placed_take P t steps n h)
All-placed_take P (suc t) (Flush ∷ steps) n all = All-placed_take P t steps n all

-- ---- what a write places

All-here : (P : Writing → Type 0) (here : Bool) (w : Writing) (later : List Writing) → (here ≡ true → P w) → All P later → All P (cond here (w ∷ later) later)
All-here P true w later h all = All-cons P w later (h refl) all
All-here P false w later h all = all

some-here : (here : Bool) (w : Writing) (later : List Writing) → (here ≡ true) ⊎ (0 < length later) → 0 < length (cond here (w ∷ later) later)
some-here true w later h = omega arith
some-here false w later (inl is) = absurd (cc is)
some-here false w later (inr some) = some

All-places : (P : Writing → Type 0) (m : ℕ) (ws : List Writing) (n : ℕ) → ((i : ℕ) → i < length ws → m + i ≡ n → P (get_or ws i (Raw []))) → All P (placed_at (places_from m ws) n)
All-places P m [] n h = All-nil P
All-places P m (w ∷ ws) n h =
    All-here P (m == n) w (placed_at (places_from (m + 1) ws) n) (λ here. let same = eqb-true m n here in h 0 (omega arith) (omega (arith, same)))
    (All-places P (m + 1) ws n (λ i lt at. h (suc i) (omega (arith, lt)) (omega (arith, at))))

some-places : (m : ℕ) (ws : List Writing) (n i : ℕ) → i < length ws → m + i ≡ n → 0 < length (placed_at (places_from m ws) n)
some-places m [] n i lt at = absurd (omega (arith, lt))
some-places m (w ∷ ws) n zero lt at = some-here (m == n) w (placed_at (places_from (m + 1) ws) n) (inl (eq-eqb m n (omega (arith, at))))
some-places m (w ∷ ws) n (suc i) lt at = some-here (m == n) w (placed_at (places_from (m + 1) ws) n) (inr (some-places (m + 1) ws n i (omega (arith, lt)) (omega (arith, at))))

-- a device sector is of one logical sector
same-sector : (U a b i j : ℕ) → i < U → j < U → a * U + i ≡ b * U + j → a ≡ b
same-sector U a b i j first second same =
    let next = add-mul a 1 U in
    let more = add-mul b 1 U in
    let low : a * U < (b + 1) * U = omega (arith, same, second, more) in
    let high : b * U < (a + 1) * U = omega (arith, same, first, next) in
    let below = lt_of_mul-lt-mul_right U low in
    let above = lt_of_mul-lt-mul_right U high in
    omega (arith, below, above)

abbrev pub put : ℕ → Keying → ℕ → List ℕ → ℕ → Writing
put number k sector bytes j = Put (record { number = number; keying = k; sector = sector; bytes = bytes; unit = j })

All-sector : (P : Writing → Type 0) (number : ℕ) (k : Keying) (first : ℕ) (bytes : List ℕ) (sector j : ℕ) → j < units k → (first ≡ sector → P (put number k sector bytes j)) → All P (placed_at (sector_steps number k first bytes) (unit_place k sector j))
All-sector P number k first bytes sector j lt h =
    let many = length-map-range_with_len (put number k first bytes) 0 (units k) in
    All-places P (first * units k) (puts_of number k first bytes) (unit_place k sector j) (λ i inside at.
    let below : i < units k = omega (arith, inside, many) in
    let same : first ≡ sector = same-sector (units k) first sector i j below lt at in
    let times : first * units k ≡ sector * units k = ap (λ (s : ℕ). s * units k) same in
    let unit : j ≡ i = omega (arith, at, times) in
    subst P (sym (get_or-map-range_with_len (put number k first bytes) 0 (units k) i i (Raw []) below (omega arith)))
    (subst (λ (u : ℕ). P (put number k first bytes u)) unit (subst (λ (s : ℕ). P (put number k s bytes j)) (sym same) (h same))))

-- of what a write of these bytes places, only that unit is placed in the device sector of unit j of a logical sector
pub All-data : (P : Writing → Type 0) (number : ℕ) (k : Keying) (first count : ℕ) (whole : List ℕ) (sector j : ℕ) → j < units k
    → ((lead : ℕ) → lead < count → first + lead ≡ sector → P (put number k sector (take k.sectorsize (drop (lead * k.sectorsize) whole)) j))
    → All P (placed_at (data_steps number k first count whole) (unit_place k sector j))
All-data P number k first zero whole sector j lt h = All-nil P
All-data P number k first (suc count) whole sector j lt h =
    let S : ℕ = k.sectorsize in
    All-placed_both P (sector_steps number k first (take S whole)) (data_steps number k (first + 1) count (drop S whole)) (unit_place k sector j)
    (All-sector P number k first (take S whole) sector j lt (λ same.
    let none : 0 * S ≡ 0 = omega arith in
    subst (λ (n : ℕ). P (put number k sector (take S (drop n whole)) j)) none (h 0 (omega arith) (omega (arith, same)))))
    (All-data P number k (first + 1) count (drop S whole) sector j lt (λ lead below same.
    let next : suc lead * S ≡ S + lead * S = omega arith in
    subst (λ (l : List ℕ). P (put number k sector (take S l) j)) (ap (λ (n : ℕ). drop n whole) next ∙ sym (drop-drop (lead * S) S whole))
    (h (suc lead) (omega (arith, below)) (omega (arith, same)))))

pub some-data : (number : ℕ) (k : Keying) (first count : ℕ) (whole : List ℕ) (sector j lead : ℕ) → j < units k → lead < count → first + lead ≡ sector
    → 0 < length (placed_at (data_steps number k first count whole) (unit_place k sector j))
some-data number k first zero whole sector j lead lt below same = absurd (omega (arith, below))
some-data number k first (suc count) whole sector j zero lt below same =
    let S : ℕ = k.sectorsize in
    let n : ℕ = unit_place k sector j in
    let here : List Step = sector_steps number k first (take S whole) in
    let rest : List Step = data_steps number k (first + 1) count (drop S whole) in
    let many = length-map-range_with_len (put number k first (take S whole)) 0 (units k) in
    let is : first ≡ sector = omega (arith, same) in
    let times : first * units k ≡ sector * units k = ap (λ (s : ℕ). s * units k) is in
    let mine = some-places (first * units k) (puts_of number k first (take S whole)) n j (omega (arith, lt, many)) (omega (arith, times)) in
    let all = ap length (placed_at-append here rest n) ∙ length-append (placed_at here n) (placed_at rest n) in
    omega (arith, mine, all)
some-data number k first (suc count) whole sector j (suc lead) lt below same =
    let S : ℕ = k.sectorsize in
    let n : ℕ = unit_place k sector j in
    let here : List Step = sector_steps number k first (take S whole) in
    let rest : List Step = data_steps number k (first + 1) count (drop S whole) in
    let more = some-data number k (first + 1) count (drop S whole) sector j lead lt (omega (arith, below)) (omega (arith, same)) in
    let all = ap length (placed_at-append here rest n) ∙ length-append (placed_at here n) (placed_at rest n) in
    omega (arith, more, all)

-- ---- what a unit of a logical sector reads as from such cells

-- a unit reads as one for which this holds, or strange bytes stand there
pub record Stands (P : Writing → Type 0) (k : Keying) (j : ℕ) (reading : Result (List ℕ) ℕ) : Type 0 where
  pub unit : PutUnit
  pub is : P (Put unit)
  pub fits : IsPut unit
  pub number : unit.unit ≡ j
  pub keying : unit.keying ≡ k
  pub reads : ReadsAsPut k unit reading

pub unit-stands : (P : Writing → Type 0) (k : Keying) (sector j : ℕ) (cells : ℕ → List Writing) (may : ℕ → Type 0) (image : List (List ℕ)) → IsKeying k → j < units k → ReadFromCells k sector cells may image
    → All P (cells (unit_place k sector j)) → ((w : Writing) → P w → (p : PutUnit) × Matches k sector j w p)
    → Stands P k j (image_unit k sector image j) ⊎ ((w : Writing) × IsStrange (cells (unit_place k sector j)) (get_or image (unit_place k sector j) []) w × may (unit_place k sector j))
unit-stands P k sector j cells may image is lt from all matches =
    let ws : List Writing = from.writings in
    let count = from.fits.count in
    elim (from.each j lt) [
      | inl here ↦
          let holds : P (writing_in ws j) = All-contains P (cells (unit_place k sector j)) (writing_in ws j) all here.is_in in
          let m = matches (writing_in ws j) holds in
          let put_is = m.1.is in
          inl (record {
            unit = m.0;
            is = subst P put_is holds;
            fits = subst IsWriting put_is (All-get_or IsWriting ws j (Raw []) (omega (arith, lt, count)) from.fits.each);
            number = m.1.unit;
            keying = m.1.keying;
            reads = subst (λ (l : List (Result (List ℕ) ℕ)). ReadsAsPut k m.0 (get_or l j (Ok []))) (unit_readings-read k sector ws is from.fits ∙ sym from.readings)
                (put-reads k sector j ws m.0 is from.fits lt m.1);
          })
      | inr strange ↦ inr (writing_in ws j, strange.0, strange.1)
    ]
