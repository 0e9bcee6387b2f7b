-- Words of 64 bits in vectors with four lanes, lane by lane.
use Rattle.std.proofs.Common.{◌≡◌, ℕ, ◌+◌, ◌-◌, ◌*◌, ◌/◌, ◌%◌, ◌^◌, ◌<◌, List, [], ◌∷◌, length, map, slice_index, bit_and, bit_or, bit_xor, arith, refl}
use Rattle.std.proofs.lemmas.Simd.{Each1-get_or}
use Rattle.std.specs.Int.{w64, bit_not, rotate_right}
use Rattle.std.specs.Simd.Lanes.{zip2, Each1}
use Rattle.sha2.specs.Sha512.{ch}
use Rattle.sha_stream.proofs.LaneLaws.{below_four, four_words}
use mir.Val.{Fits}

-- each lane is a word
pub lane_fits : (x : List ℕ) → length x ≡ 4 → Each1 (Fits w64) x → (j : ℕ) → j < 4 → slice_index x j < 2 ^ 64
lane_fits x long fits j h = (Each1-get_or (Fits w64) x j 0 (omega arith) fits).fits

-- a word added to each lane
abbrev IsAdded : ℕ → List ℕ → Type 0
IsAdded k a = (j : ℕ) → j < 4 → slice_index (zip2 (λ x y. (x + y) % 2 ^ 64) a (k ∷ k ∷ k ∷ k ∷ [])) j ≡ (slice_index a j + k) % 2 ^ 64

pub added_lanes : (k : ℕ) (a : List ℕ) → length a ≡ 4 → IsAdded k a
added_lanes k = four_words (IsAdded k) (λ a b c d. below_four _ refl refl refl refl)

abbrev IsCh : List ℕ → List ℕ → List ℕ → Type 0
IsCh x y z = (j : ℕ) → j < 4
    → slice_index (zip2 bit_xor (zip2 bit_and x y) (zip2 bit_and (map (bit_not w64) x) z)) j ≡ ch (slice_index x j) (slice_index y j) (slice_index z j)

pub ch_lanes : (x : List ℕ) → length x ≡ 4 → (y : List ℕ) → length y ≡ 4 → (z : List ℕ) → length z ≡ 4 → IsCh x y z
ch_lanes =
    four_words (λ x. (y : List ℕ) → length y ≡ 4 → (z : List ℕ) → length z ≡ 4 → IsCh x y z) (λ x0 x1 x2 x3.
    four_words (λ y. (z : List ℕ) → length z ≡ 4 → IsCh (x0 ∷ x1 ∷ x2 ∷ x3 ∷ []) y z) (λ y0 y1 y2 y3.
    four_words (IsCh (x0 ∷ x1 ∷ x2 ∷ x3 ∷ []) (y0 ∷ y1 ∷ y2 ∷ y3 ∷ [])) (λ z0 z1 z2 z3.
    below_four _ refl refl refl refl)))

-- two shifts of each lane and an or are a rotation
abbrev IsRotated : ℕ → List ℕ → Type 0
IsRotated k x = (j : ℕ) → j < 4
    → slice_index (zip2 bit_or
    (zip2 (λ n s. n / 2 ^ s) x (k ∷ k ∷ k ∷ k ∷ []))
    (zip2 (λ n s. n * 2 ^ s % 2 ^ 64) x ((64 - k) ∷ (64 - k) ∷ (64 - k) ∷ (64 - k) ∷ []))) j
    ≡ rotate_right w64 (slice_index x j) k

pub rotated_lanes : (k : ℕ) → 0 < k → k < 64 → (x : List ℕ) → length x ≡ 4 → IsRotated k x
rotated_lanes k low high =
    let right : k % 64 ≡ k = omega arith in
    let left : (64 - k) % 64 ≡ 64 - k = omega arith in
    four_words (IsRotated k) (λ a b c d.
    below_four _ (rw (right, left) refl) (rw (right, left) refl) (rw (right, left) refl) (rw (right, left) refl))
