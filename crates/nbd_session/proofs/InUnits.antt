-- Bytes that lie in one unit of a logical sector, among those that its units read as.
use Rattle.std.proofs.Common.{◌≡◌, ◌∙◌, inl, inr, ℕ, zero, suc, ◌+◌, ◌-◌, ◌*◌, ◌/◌, ◌<◌, ◌≤◌, min, List, [], ◌∷◌, ◌++◌, length, get_or, take, drop, Result, Ok, refl, sym, ap, subst, arith, append-nil, div-add-mod', length-drop, length-take-le, lt_of_mul-lt-mul_right, mul-le-mul_right}
use Rattle.std.proofs.Math.Seq.{drop-append-add}
use Rattle.std.proofs.lemmas.List.{drop-append-le, drop-drop, take-append-le}
use Rattle.block_traits.specs.Parts.{part}
use Rattle.block_traits.proofs.PartLists.{get_or-parts, length-part}
use Rattle.byte_ranges.specs.Ranges.{first_sector, part_of, range_reading, sectors_covered, skipped}
use Rattle.byte_ranges.specs.declared.ranges.ByteRange.{ByteRange}
use Rattle.eli_base.specs.declared.algorithms.Auth.{Auth}
use Rattle.eli_base.specs.declared.algorithms.Auth.TheVariants.{Off, Sha256, Sha384, Sha512}
use Rattle.eli_base.specs.Keying.{Keying}
use Rattle.eli_base.specs.Units.{unit_bytes_of}
use Rattle.sector_runs.specs.Reading.{data_reading}
use Rattle.provider_readings.specs.Data.{survivor}
use Rattle.provider_readings.proofs.Data.{survivor-reads}
use Rattle.range_keys.specs.Ring.{IsKeying}
use Rattle.readings.specs.Crashes.{image_unit, image_units}
use Rattle.readings.specs.Read.{opened_bytes}
use Rattle.readings.specs.Survivors.{sectors_in}
use Rattle.readings.specs.Writings.{Writing, plain_bytes}
use Rattle.sealing.specs.Sectors.{before, joined, units, units_in}
use Rattle.sealing.proofs.Sectors.{length-unit, length-unit_readings}
use Rattle.nbd_session.specs.Lasting.{IsInUnit, KeepsFront}
use Rattle.nbd_session.proofs.Lasting.{covers}
use Rattle.nbd_session.proofs.Placing.{Stands}
use Rattle.nbd_session.proofs.Serving.{of_first}

-- units of so many bytes each but the last read as bytes, in which those of each stand
record Joined (U : ℕ) (us : List (Result (List ℕ) ℕ)) (f : ℕ → List ℕ) : Type 0 where
  all : List ℕ
  are : joined us ≡ Ok all
  has : (j s n : ℕ) → j < length us → s + n ≤ length (f j) → take n (drop (j * U + s) all) ≡ take n (drop s (f j))

join : (U : ℕ) (us : List (Result (List ℕ) ℕ)) (f : ℕ → List ℕ) → ((j : ℕ) → j < length us → get_or us j (Ok []) ≡ Ok (f j)) → ((j : ℕ) → j + 1 < length us → length (f j) ≡ U) → Joined U us f
join U [] f reads sizes = record { all = []; are = refl; has = λ j s n lt. absurd (omega (arith, lt)) }
join U (u ∷ us) f reads sizes =
    let rest = join U us (λ j. f (suc j)) (λ j lt. reads (suc j) (omega (arith, lt))) (λ j lt. sizes (suc j) (omega (arith, lt))) in
    record {
      all = f 0 ++ rest.all;
      are = ap (λ (r : Result (List ℕ) ℕ). joined (r ∷ us)) (reads 0 (omega arith)) ∙ ap (before (f 0)) rest.are;
      has = λ j s n lt fits. there U us f rest j s n lt fits (λ some. sizes 0 (omega (arith, some)));
    }
  where
    there : (U : ℕ) (us : List (Result (List ℕ) ℕ)) (f : ℕ → List ℕ) (rest : Joined U us (λ j. f (suc j))) (j s n : ℕ) → j < suc (length us) → s + n ≤ length (f j) → (0 < length us → length (f 0) ≡ U)
        → take n (drop (j * U + s) (f 0 ++ rest.all)) ≡ take n (drop s (f j))
    there U us f rest zero s n lt fits size =
        let at : 0 * U + s ≡ s = omega arith in
        let left = length-drop s (f 0) in
        ap (λ (m : ℕ). take n (drop m (f 0 ++ rest.all))) at
        ∙ ap (take n) (drop-append-le s (f 0) rest.all (omega (arith, fits)))
        ∙ take-append-le n (drop s (f 0)) rest.all (omega (arith, left, fits))
    there U us f rest (suc j) s n lt fits size =
        let own = size (omega (arith, lt)) in
        let at : suc j * U + s ≡ length (f 0) + (j * U + s) = omega (arith, own) in
        ap (λ (m : ℕ). take n (drop m (f 0 ++ rest.all))) at
        ∙ ap (take n) (drop-append-add (f 0) rest.all (j * U + s))
        ∙ rest.has j s n (omega (arith, lt)) fits

-- ---- the units of a logical sector

pub some_covered : (k : Keying) (r : ByteRange) → 0 < k.sectorsize → 0 < r.count → skipped k r + r.count ≤ k.sectorsize → sectors_covered k r ≡ 1
some_covered k r size some fits =
    let S : ℕ = k.sectorsize in
    let c = covers k r size in
    let few = c.few in
    let many = c.many in
    let two : 2 * S ≡ S + S = omega arith in
    let none : 0 * S ≡ 0 = omega arith in
    let above : 0 * S < sectors_covered k r * S = omega (arith, many, some, none) in
    let below : sectors_covered k r * S < 2 * S = omega (arith, few, fits, two, size) in
    let low = lt_of_mul-lt-mul_right S above in
    let high = lt_of_mul-lt-mul_right S below in
    omega (arith, low, high)

-- a unit that is none but the last is whole
whole_unit : (k : Keying) (j : ℕ) (bytes : List ℕ) → length bytes ≡ k.sectorsize → 0 < k.sectorsize → j + 1 < units k → length (part (unit_bytes_of k.auth) j bytes) ≡ unit_bytes_of k.auth
whole_unit k j bytes size some lt =
    let U : ℕ = unit_bytes_of k.auth in
    let split = div-add-mod' (k.sectorsize - 1) U in
    let times : (j + 1) * U ≤ (k.sectorsize - 1) / U * U = mul-le-mul_right U (omega (arith, lt)) in
    let reach : U * j + U ≡ (j + 1) * U = omega arith in
    length-part U j bytes (omega (arith, size, times, split, reach, some))

some_unit : (auth : Auth) → 16 < unit_bytes_of auth
some_unit Off = omega arith
some_unit Sha256 = omega arith
some_unit Sha384 = omega arith
some_unit Sha512 = omega arith

stands-plain : (P : Writing → Type 0) (k : Keying) (j : ℕ) (reading : Result (List ℕ) ℕ) → j < units k → (st : Stands P k j reading) → plain_bytes st.unit ≡ part (unit_bytes_of k.auth) j st.unit.bytes
stands-plain P k j reading lt st = (λ i. get_or (units_in (st.keying i) st.unit.bytes) (st.number i) []) ∙ get_or-parts (unit_bytes_of k.auth) (units k) j st.unit.bytes lt

-- all of a unit but its first bytes
stands-rest : (P : Writing → Type 0) (k : Keying) (j : ℕ) (reading : Result (List ℕ) ℕ) → j < units k → (st : Stands P k j reading) → drop 16 (opened_bytes reading) ≡ drop 16 (part (unit_bytes_of k.auth) j st.unit.bytes)
stands-rest P k j reading lt st = ap (λ (r : Result (List ℕ) ℕ). drop 16 (opened_bytes r)) st.reads.is ∙ st.reads.rest ∙ ap (drop 16) (stands-plain P k j reading lt st)

-- some bytes of a unit, which begin after the first 16 if these may be lost
record SameThere (f whole : List ℕ) (s n : ℕ) : Type 0 where
  reach : s + n ≤ length f
  same : take n (drop s f) ≡ take n (drop s whole)

same-all : (f whole : List ℕ) (s n : ℕ) → s + n ≤ length whole → f ≡ whole → SameThere f whole s n
same-all f whole s n fits h = record { reach = subst (λ (l : List ℕ). s + n ≤ length l) (sym h) fits; same = ap (λ (l : List ℕ). take n (drop s l)) h }

same-rest : (f whole : List ℕ) (s n : ℕ) → s + n ≤ length whole → 0 < n → 16 ≤ s → drop 16 f ≡ drop 16 whole → SameThere f whole s n
same-rest f whole s n fits some behind h =
    let left = ap length h in
    let mine = length-drop 16 f in
    let all = length-drop 16 whole in
    let at : 16 + (s - 16) ≡ s = omega (arith, behind) in
    record {
      reach = omega (arith, fits, some, behind, left, mine, all);
      same = ap (λ (m : ℕ). take n (drop m f)) (sym at) ∙ ap (take n) (sym (drop-drop (s - 16) 16 f)) ∙ ap (λ (l : List ℕ). take n (drop (s - 16) l)) h
          ∙ ap (take n) (drop-drop (s - 16) 16 whole) ∙ ap (λ (m : ℕ). take n (drop m whole)) at;
    }

stands-there : (P : Writing → Type 0) (k : Keying) (j : ℕ) (reading : Result (List ℕ) ℕ) (r : ByteRange) → j < units k → (st : Stands P k j reading) → IsInUnit k j r → KeepsFront k j r
    → skipped k r - unit_bytes_of k.auth * j + r.count ≤ length (part (unit_bytes_of k.auth) j st.unit.bytes)
    → SameThere (opened_bytes reading) (part (unit_bytes_of k.auth) j st.unit.bytes) (skipped k r - unit_bytes_of k.auth * j) r.count
stands-there P k j reading r lt st inside front fits =
    let U : ℕ = unit_bytes_of k.auth in
    let f : List ℕ = opened_bytes reading in
    let whole : List ℕ = part U j st.unit.bytes in
    let from : ℕ = skipped k r - U * j in
    let is : f ≡ st.reads.bytes = ap opened_bytes st.reads.is in
    let plain = stands-plain P k j reading lt st in
    elim front [
      | inl free ↦ same-all f whole from r.count fits (is ∙ st.reads.unchained free ∙ plain)
      | inr more ↦ elim more [
        | inl first ↦ same-all f whole from r.count fits (is ∙ st.reads.first (st.number ∙ first) ∙ plain)
        | inr behind ↦ same-rest f whole from r.count fits inside.some (omega (arith, behind)) (stands-rest P k j reading lt st)
      ]
    ]

stands-size : (P : Writing → Type 0) (k : Keying) (j : ℕ) (reading : Result (List ℕ) ℕ) (st : Stands P k j reading) → length st.unit.bytes ≡ k.sectorsize
stands-size P k j reading st = st.fits.size ∙ ap (λ (key : Keying). key.sectorsize) st.keying

-- a unit that is none but the last reads as so many bytes
stands-whole : (P : Writing → Type 0) (k : Keying) (j : ℕ) (reading : Result (List ℕ) ℕ) → 0 < k.sectorsize → j + 1 < units k → (st : Stands P k j reading) → length (opened_bytes reading) ≡ unit_bytes_of k.auth
stands-whole P k j reading some lt st =
    let U : ℕ = unit_bytes_of k.auth in
    let whole = whole_unit k j st.unit.bytes (stands-size P k j reading st) some lt in
    let left = ap length (stands-rest P k j reading (omega (arith, lt)) st) in
    let mine = length-drop 16 (opened_bytes reading) in
    let all = length-drop 16 (part U j st.unit.bytes) in
    let large = some_unit k.auth in
    omega (arith, whole, left, mine, all, large)

-- if all units of its logical sector stand, bytes in one of them are those of what stands there
pub part-stands : (P : ℕ → Writing → Type 0) (k : Keying) (image : List (List ℕ)) (r : ByteRange) (j : ℕ) → IsKeying k → KeepsFront k j r → IsInUnit k j r
    → first_sector k r * units k + units k ≤ length image → (stand : (i : ℕ) → i < units k → Stands (P i) k i (image_unit k (first_sector k r) image i)) → (lt : j < units k)
    → range_reading k (survivor image) r ≡ Ok (take r.count (drop (skipped k r) (stand j lt).unit.bytes))
part-stands P k image r j is front inside fits stand lt =
    let S : ℕ = k.sectorsize in
    let U : ℕ = unit_bytes_of k.auth in
    let sector : ℕ = first_sector k r in
    let us : List (Result (List ℕ) ℕ) = image_units k sector image in
    let skip : ℕ = skipped k r in
    let from : ℕ = skip - U * j in
    let f : ℕ → List ℕ = λ i. opened_bytes (image_unit k sector image i) in
    let left = length-drop (sector * units k) image in
    let many : length us ≡ units k = length-unit_readings k sector (sectors_in k sector image) (length-take-le (units k) (drop (sector * units k) image) (omega (arith, left, fits))) in
    let some = is.at_least in
    let joins = join U us f
    (λ i below. let lt : i < units k = omega (arith, below, many) in
    let reads = (stand i lt).reads.is in reads ∙ ap (λ (l : List ℕ). Ok l) (sym (ap opened_bytes reads)))
    (λ i below. let more : i + 1 < units k = omega (arith, below, many) in
    stands-whole (P i) k i (image_unit k sector image i) (omega (arith, some)) more (stand i (omega (arith, more)))) in
    let bytes : List ℕ = (stand j lt).unit.bytes in
    let size = stands-size (P j) k j (image_unit k sector image j) (stand j lt) in
    let starts = inside.starts in
    let ends = inside.ends in
    let long : length (part U j bytes) ≡ min U (S - U * j) = length-unit k j bytes size in
    let there = stands-there (P j) k j (image_unit k sector image j) r lt (stand j lt) inside front (omega (arith, starts, ends, long)) in
    let place : j * U + from ≡ skip = omega (arith, starts) in
    let behind : U * j + from ≡ skip = omega (arith, starts) in
    let here : take r.count (drop skip joins.all) ≡ take r.count (drop skip bytes) =
    ap (λ (n : ℕ). take r.count (drop n joins.all)) (sym place)
    ∙ joins.has j from r.count (omega (arith, lt, many)) there.reach
    ∙ there.same
    ∙ of_first from r.count U (drop (U * j) bytes) (omega (arith, starts, ends))
    ∙ ap (take r.count) (drop-drop from (U * j) bytes ∙ ap (λ (n : ℕ). drop n bytes) behind) in
    let one = some_covered k r (omega (arith, some)) inside.some (omega (arith, starts, ends, inside.some)) in
    ap (λ (n : ℕ). part_of k r (data_reading k (survivor image) sector n)) one
    ∙ ap (λ (u : Result (List ℕ) ℕ). part_of k r (joined (u ∷ []))) (survivor-reads k sector image fits ∙ joins.are)
    ∙ ap (λ (l : List ℕ). Ok (take r.count (drop skip l))) (append-nil joins.all)
    ∙ ap (λ (l : List ℕ). Ok l) here
