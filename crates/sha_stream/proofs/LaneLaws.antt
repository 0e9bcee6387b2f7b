-- Vectors with four lanes, lane by lane.
use Rattle.std.proofs.Common.{◌≡◌, ℕ, zero, suc, ◌-◌, ◌*◌, ◌/◌, ◌%◌, ◌^◌, ◌<◌, List, [], ◌∷◌, length, slice_index, bit_or, bit_xor, arith, refl}
use Rattle.std.proofs.lemmas.Simd.{Each1-get_or}
use Rattle.std.specs.Int.{w32, rotate_right}
use Rattle.std.specs.Simd.Lanes.{zip2, Each1}
use mir.Val.{Fits}

-- what holds of each of the four lanes
pub below_four : (P : ℕ → Type 0) → P 0 → P 1 → P 2 → P 3 → (j : ℕ) → j < 4 → P j
below_four P p0 p1 p2 p3 zero h = p0
below_four P p0 p1 p2 p3 (suc zero) h = p1
below_four P p0 p1 p2 p3 (suc (suc zero)) h = p2
below_four P p0 p1 p2 p3 (suc (suc (suc zero))) h = p3
below_four P p0 p1 p2 p3 (suc (suc (suc (suc n)))) h = absurd (omega arith)

-- what holds of each list of four words
pub four_words : (P : List ℕ → Type 0) → ((a b c d : ℕ) → P (a ∷ b ∷ c ∷ d ∷ [])) → (xs : List ℕ) → length xs ≡ 4 → P xs
four_words P p (a ∷ b ∷ c ∷ d ∷ []) h = p a b c d
four_words P p [] h = absurd (omega arith)
four_words P p (a ∷ []) h = absurd (omega arith)
four_words P p (a ∷ b ∷ []) h = absurd (omega arith)
four_words P p (a ∷ b ∷ c ∷ []) h = absurd (omega arith)
four_words P p (a ∷ b ∷ c ∷ d ∷ e ∷ xs) h = absurd (omega arith)

-- each lane is a word
pub lane_fits : (x : List ℕ) → length x ≡ 4 → Each1 (Fits w32) x → (j : ℕ) → j < 4 → slice_index x j < 2 ^ 32
lane_fits x long fits j h = (Each1-get_or (Fits w32) x j 0 (omega arith) fits).fits

-- two shifts of each lane and an or are a rotation
abbrev IsRotated : ℕ → List ℕ → Type 0
IsRotated k x = (j : ℕ) → j < 4
    → slice_index (zip2 bit_or
    (zip2 (λ n s. n / 2 ^ s) x (k ∷ k ∷ k ∷ k ∷ []))
    (zip2 (λ n s. n * 2 ^ s % 2 ^ 32) x ((32 - k) ∷ (32 - k) ∷ (32 - k) ∷ (32 - k) ∷ []))) j
    ≡ rotate_right w32 (slice_index x j) k

pub rotated_lanes : (k : ℕ) → 0 < k → k < 32 → (x : List ℕ) → length x ≡ 4 → IsRotated k x
rotated_lanes k low high =
    let right : k % 32 ≡ k = omega arith in
    let left : (32 - k) % 32 ≡ 32 - k = omega arith in
    four_words (IsRotated k) (λ a b c d.
    below_four _ (rw (right, left) refl) (rw (right, left) refl) (rw (right, left) refl) (rw (right, left) refl))

-- a vector with the shifted lanes of another added
abbrev IsSumShifted : ℕ → List ℕ → List ℕ → Type 0
IsSumShifted k x y = (j : ℕ) → j < 4
    → slice_index (zip2 bit_xor x (zip2 (λ n s. n / 2 ^ s) y (k ∷ k ∷ k ∷ k ∷ []))) j ≡ bit_xor (slice_index x j) (slice_index y j / 2 ^ k)

pub sum_shifted_lanes : (k : ℕ) → (x : List ℕ) → length x ≡ 4 → (y : List ℕ) → length y ≡ 4 → IsSumShifted k x y
sum_shifted_lanes k =
    four_words (λ x. (y : List ℕ) → length y ≡ 4 → IsSumShifted k x y) (λ x0 x1 x2 x3.
    four_words (IsSumShifted k (x0 ∷ x1 ∷ x2 ∷ x3 ∷ [])) (λ y0 y1 y2 y3.
    below_four _ refl refl refl refl))
