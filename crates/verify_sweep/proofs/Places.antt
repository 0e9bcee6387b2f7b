-- Where sweeps that follow each other end.
use Rattle.std.proofs.Common.{◌≡◌, ℕ, zero, suc, ◌+◌, ◌-◌, ◌/◌, ◌≤◌, min, List, [], ◌∷◌, ◌++◌, map, sum, sym, ap, ◌∙◌, arith, add-zero}
use Rattle.std.specs.List.{range_with_len}
use Rattle.std.proofs.lemmas.List.Sums.{sum_by-cons}
use Rattle.eli_base.specs.Keying.{Keying}
use Rattle.sealing.specs.Sectors.{units}
use Rattle.verify_sweep.specs.Sweeping.{sectors_swept}
use Rattle.verify_sweep.specs.Parts.{cut_count, place_after, sectors_after, sweep_at}

range-append : (a m n : ℕ) → range_with_len a (m + n) ≡ range_with_len a m ++ range_with_len (a + m) n
range-append a zero n =
    let none : zero + n ≡ n = omega arith in
    ap (range_with_len a) none ∙ ap (λ (b : ℕ). range_with_len b n) (sym (add-zero a))
range-append a (suc m) n =
    let all : suc m + n ≡ suc (m + n) = omega arith in
    let at : a + 1 + m ≡ a + suc m = omega arith in
    ap (range_with_len a) all ∙ ap (λ (l : List ℕ). a ∷ l) (range-append (a + 1) m n ∙ ap (λ (b : ℕ). range_with_len (a + 1) m ++ range_with_len b n) at)

pub goes_on : (k : Keying) (media start : ℕ) (counts : List ℕ) → start ≤ place_after k media start counts
goes_on k media start [] = omega arith
goes_on k media start (count ∷ counts) =
    let later = goes_on k media (start + sectors_swept (sweep_at k media start count)) counts in omega arith

pub stays_within : (k : Keying) (media start : ℕ) (counts : List ℕ) → start ≤ media → place_after k media start counts ≤ media
stays_within k media start [] h = h
stays_within k media start (count ∷ counts) h = stays_within k media (start + sectors_swept (sweep_at k media start count)) counts (omega arith)

pub all_sectors : (k : Keying) (media start : ℕ) (counts : List ℕ) → sectors_after k media start counts ≡ range_with_len start (place_after k media start counts - start)
all_sectors k media start [] = let none : start - start ≡ 0 = omega arith in ap (range_with_len start) (sym none)
all_sectors k media start (count ∷ counts) =
    let n : ℕ = sectors_swept (sweep_at k media start count) in
    let last : ℕ = place_after k media (start + n) counts in
    let later = goes_on k media (start + n) counts in
    let whole : n + (last - (start + n)) ≡ last - start = omega arith in
    ap (λ (l : List ℕ). range_with_len start n ++ l) (all_sectors k media (start + n) counts)
    ∙ sym (range-append start n (last - (start + n)))
    ∙ ap (range_with_len start) whole

-- what is left is reached if the cut counts reach it
pub reaches : (k : Keying) (media start : ℕ) (counts : List ℕ) → start ≤ media → media ≤ start + sum (map (cut_count k) counts) → place_after k media start counts ≡ media
reaches k media start [] h g = omega arith
reaches k media start (count ∷ counts) h g =
    let n : ℕ = min (min count (media - start)) (16384 / units k) in
    let all : sum (map (cut_count k) (count ∷ counts)) ≡ min count (16384 / units k) + sum (map (cut_count k) counts) = sum_by-cons (λ n. n) (cut_count k count) (map (cut_count k) counts) in
    reaches k media (start + n) counts (omega arith) (omega arith)
