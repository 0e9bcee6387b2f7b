-- Which units are listed.
use Rattle.std.proofs.Common.{◌≡◌, ◌≢◌, ◌↔◌, inl, inr, ℕ, zero, suc, ◌+◌, ◌*◌, ◌<◌, ◌≤◌, true, List, [], ◌∷◌, ◌++◌, length, get_or, Result, Ok, Err, is_ok, Contains, refl, sym, ap, subst, ◌∙◌, arith, add-zero}
use Rattle.std.specs.List.Sorted.{IsStrictlyIncreasing}
use Rattle.std.proofs.lemmas.List.{get_or_default, same_lists}
use Rattle.std.proofs.lemmas.List.Elements.{Contains-append_cases, Contains-append_right, Contains-push_cases}
use Rattle.block_traits.specs.Content.{Content}
use Rattle.eli_base.specs.declared.algorithms.Auth.TheVariants.{Off}
use Rattle.eli_base.specs.Keying.{Keying}
use Rattle.sector_runs.specs.Reading.{standing, units_read}
use Rattle.sealing.specs.Sectors.{unit_reading_at, unit_readings, units}
use Rattle.sealing.proofs.TaggedUnitLaws.{length-unit_readings-tagged, unit_reading-alone}
use Rattle.verify_sweep.specs.Parts.{units_read_from}
use Rattle.verify_sweep.specs.Sweeping.{Fails, failing_units, unit_readings_at}
use Rattle.verify_sweep.proofs.Listing.{failing-of, length-standing, unit_readings_at-append, standing-append}

-- ---- an offset is listed exactly if the unit there fails

not_accepted : (r : Result (List ℕ) ℕ) (offset : ℕ) → is_ok r ≡ true → r ≡ Err offset → ⊥
not_accepted (Ok bytes) offset h g = cc
not_accepted (Err other) offset h g = cc

alone : (n offset : ℕ) → Contains (n ∷ []) offset → n ≡ offset
alone n offset h = elim (Contains-push_cases [] n offset h) [ inl none ↦ absurd (let lt = none.1 in omega arith) | inr same ↦ same ]

Fails-later : (k : Keying) (n : ℕ) (sector : List ℕ) (sectors : List (List ℕ)) (offset : ℕ) → Fails k (n + 1) sectors offset → Fails k n (sector ∷ sectors) offset
Fails-later k n sector sectors offset fails =
    let at : n + 1 + fails.place ≡ n + suc fails.place = omega arith in
    let lt = fails.within in
    record { place = suc fails.place; within = omega arith; reads = ap (λ (m : ℕ). unit_reading_at k m (get_or sectors fails.place [])) (sym at) ∙ fails.reads }

listed-fails : (k : Keying) (n : ℕ) (sectors : List (List ℕ)) (offset : ℕ) → Contains (failing_units k n sectors) offset → Fails k n sectors offset
listed-fails k n [] offset h = absurd (let lt = h.1 in omega arith)
listed-fails k n (sector ∷ sectors) offset h =
    let P : List ℕ → Type 0 = λ l. Contains l offset in
    elim (failing-of k n sector sectors) [
      | inl fine ↦ Fails-later k n sector sectors offset (listed-fails k (n + 1) sectors offset (subst P fine.1 h))
      | inr bad ↦ elim (Contains-append_cases (512 * n ∷ []) (failing_units k (n + 1) sectors) offset (subst P bad.1 h)) [
        | inl here ↦ let at : n ≡ n + 0 = omega arith in record {
          place = 0;
          within = omega arith;
          reads = ap (λ (m : ℕ). unit_reading_at k m sector) (sym at) ∙ bad.0 ∙ ap Err (alone (512 * n) offset here);
        }
        | inr later ↦ Fails-later k n sector sectors offset (listed-fails k (n + 1) sectors offset later)
      ]
    ]

same_fault : (r : Result (List ℕ) ℕ) (one other : ℕ) → r ≡ Err one → r ≡ Err other → one ≡ other
same_fault r one other h g = cc

fails-listed : (k : Keying) (n place : ℕ) (sectors : List (List ℕ)) (offset : ℕ) → place < length sectors → unit_reading_at k (n + place) (get_or sectors place []) ≡ Err offset → Contains (failing_units k n sectors) offset
fails-listed k n place [] offset lt reads = absurd (omega arith)
fails-listed k n zero (sector ∷ sectors) offset lt reads =
    let P : List ℕ → Type 0 = λ l. Contains l offset in
    let here : unit_reading_at k n sector ≡ Err offset = ap (λ (m : ℕ). unit_reading_at k m sector) (sym (add-zero n)) ∙ reads in
    elim (failing-of k n sector sectors) [
      | inl fine ↦ absurd (not_accepted (unit_reading_at k n sector) offset fine.0 here)
      | inr bad ↦ subst P (sym bad.1) (0, omega arith, same_fault (unit_reading_at k n sector) (512 * n) offset bad.0 here)
    ]
fails-listed k n (suc place) (sector ∷ sectors) offset lt reads =
    let P : List ℕ → Type 0 = λ l. Contains l offset in
    let at : n + 1 + place ≡ n + suc place = omega arith in
    let later = fails-listed k (n + 1) place sectors offset (omega arith) (ap (λ (m : ℕ). unit_reading_at k m (get_or sectors place [])) at ∙ reads) in
    elim (failing-of k n sector sectors) [
      | inl fine ↦ subst P (sym fine.1) later
      | inr bad ↦ subst P (sym bad.1) (Contains-append_right (512 * n ∷ []) (failing_units k (n + 1) sectors) offset later)
    ]

pub listed-exactly : (k : Keying) (n : ℕ) (sectors : List (List ℕ)) (offset : ℕ) → Contains (failing_units k n sectors) offset ↔ Fails k n sectors offset
listed-exactly k n sectors offset = (listed-fails k n sectors offset, λ fails. fails-listed k n fails.place sectors offset fails.within fails.reads)

-- ---- the list ascends

first_above : (k : Keying) (n : ℕ) (sectors : List (List ℕ)) → 0 < length (failing_units k n sectors) → 512 * n ≤ get_or (failing_units k n sectors) 0 0
first_above k n [] some = absurd (omega arith)
first_above k n (sector ∷ sectors) some =
    let P : List ℕ → Type 0 = λ l. 0 < length l → 512 * n ≤ get_or l 0 0 in
    elim (failing-of k n sector sectors) [
      | inl fine ↦ subst P (sym fine.1) (λ more. let later = first_above k (n + 1) sectors more in omega arith) some
      | inr bad ↦ subst P (sym bad.1) (λ more. omega arith) some
    ]

increasing-cons : (n : ℕ) (ns : List ℕ) → (0 < length ns → n < get_or ns 0 0) → IsStrictlyIncreasing ns → IsStrictlyIncreasing (n ∷ ns)
increasing-cons n ns first rest zero more = first (omega arith)
increasing-cons n ns first rest (suc place) more =
    let at : place + 1 ≡ suc place = omega arith in
    let P : ℕ → Type 0 = λ m. get_or ns place 0 < get_or ns m 0 in
    let Q : ℕ → Type 0 = λ m. get_or (n ∷ ns) (suc place) 0 < get_or (n ∷ ns) m 0 in
    let next : suc (suc place) ≡ suc place + 1 = omega arith in
    subst Q next (subst P at (rest place (omega arith)))

pub failing_units-increase : (k : Keying) (n : ℕ) (sectors : List (List ℕ)) → IsStrictlyIncreasing (failing_units k n sectors)
failing_units-increase k n [] = λ place more. absurd (omega arith)
failing_units-increase k n (sector ∷ sectors) =
    let P : List ℕ → Type 0 = λ l. IsStrictlyIncreasing l in
    let rest = failing_units-increase k (n + 1) sectors in
    elim (failing-of k n sector sectors) [
      | inl fine ↦ subst P (sym fine.1) rest
      | inr bad ↦ subst P (sym bad.1) (increasing-cons (512 * n) (failing_units k (n + 1) sectors) (λ some. let above = first_above k (n + 1) sectors some in omega arith) rest)
    ]

-- ---- the units of logical sectors

length-unit_readings_at : (k : Keying) (n : ℕ) (sectors : List (List ℕ)) → length (unit_readings_at k n sectors) ≡ length sectors
length-unit_readings_at k n [] = refl
length-unit_readings_at k n (sector ∷ sectors) = ap suc (length-unit_readings_at k (n + 1) sectors)

get_or-unit_readings_at : (k : Keying) (n : ℕ) (sectors : List (List ℕ)) (j : ℕ) (d : Result (List ℕ) ℕ) → j < length sectors → get_or (unit_readings_at k n sectors) j d ≡ unit_reading_at k (n + j) (get_or sectors j [])
get_or-unit_readings_at k n [] j d lt = absurd (omega arith)
get_or-unit_readings_at k n (sector ∷ sectors) zero d lt = ap (λ (m : ℕ). unit_reading_at k m sector) (sym (add-zero n))
get_or-unit_readings_at k n (sector ∷ sectors) (suc j) d lt =
    let at : n + 1 + j ≡ n + suc j = omega arith in
    get_or-unit_readings_at k (n + 1) sectors j d (omega arith) ∙ ap (λ (m : ℕ). unit_reading_at k m (get_or sectors j [])) at

-- the units of one logical sector
of_one_sector : (k : Keying) (c : Content) (sector : ℕ) → k.auth ≢ Off → unit_readings_at k (sector * units k) (standing c (sector * units k) (units k)) ≡ units_read k c sector
of_one_sector k c sector on =
    let sectors : List (List ℕ) = standing c (sector * units k) (units k) in
    let count : length sectors ≡ units k = length-standing c (sector * units k) (units k) in
    let read = length-unit_readings_at k (sector * units k) sectors in
    let same : length (unit_readings_at k (sector * units k) sectors) ≡ length (unit_readings k sector sectors) = read ∙ sym (length-unit_readings-tagged k sector sectors on) in
    same_lists (unit_readings_at k (sector * units k) sectors) (unit_readings k sector sectors) same (λ j d lt.
    let within : j < length sectors = omega (arith, read) in
    let there : j < length (unit_readings k sector sectors) = omega (arith, same) in
    get_or-unit_readings_at k (sector * units k) sectors j d within
    ∙ sym (unit_reading-alone k sector j sectors on count (omega (arith, count)))
    ∙ get_or_default (unit_readings k sector sectors) j (Ok []) d there)

pub of_sectors : (k : Keying) (c : Content) (sector count : ℕ) → k.auth ≢ Off
    → unit_readings_at k (sector * units k) (standing c (sector * units k) (count * units k)) ≡ units_read_from k c sector count
of_sectors k c sector zero on = let none : zero * units k ≡ 0 = omega arith in ap (λ (m : ℕ). unit_readings_at k (sector * units k) (standing c (sector * units k) m)) none
of_sectors k c sector (suc count) on =
    let u : ℕ = units k in
    let n : ℕ = sector * u in
    let all : suc count * u ≡ u + count * u = omega arith in
    let next : n + u ≡ (sector + 1) * u = omega arith in
    ap (λ (m : ℕ). unit_readings_at k n (standing c n m)) all
    ∙ ap (unit_readings_at k n) (standing-append c n u (count * u))
    ∙ unit_readings_at-append k n (standing c n u) (standing c (n + u) (count * u))
    ∙ ap (λ (m : ℕ). unit_readings_at k n (standing c n u) ++ unit_readings_at k (n + m) (standing c (n + u) (count * u))) (length-standing c n u)
    ∙ ap (λ (m : ℕ). unit_readings_at k n (standing c n u) ++ unit_readings_at k m (standing c m (count * u))) next
    ∙ (λ i. of_one_sector k c sector on i ++ of_sectors k c (sector + 1) count on i)
