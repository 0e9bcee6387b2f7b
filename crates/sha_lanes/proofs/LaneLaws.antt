-- Vectors with four lanes, lane by lane.
use Rattle.std.proofs.Common.{◌≡◌, ℕ, zero, suc, ◌+◌, ◌%◌, ◌^◌, ◌<◌, List, [], ◌∷◌, length, map, slice_index, slice_index_or, bit_and, bit_xor, arith, refl}
use Rattle.std.specs.Int.{w32, bit_not}
use Rattle.std.specs.Simd.Lanes.{zip2}
use Rattle.sha2.specs.Sha256.{ch, maj}
use Rattle.std.specs.Borrow.{Bor}
use Rattle.sha_stream.proofs.LaneLaws.{below_four, four_words}
use Rattle.sha_stream.proofs.ShortForms.{maj_short}
use Rattle.sha_lanes.specs.Lanes.{bytes_of, lane}

-- a word added to each lane
abbrev IsAdded : ℕ → List ℕ → Type 0
IsAdded k a = (j : ℕ) → j < 4 → slice_index (zip2 (λ x y. (x + y) % 2 ^ 32) a (k ∷ k ∷ k ∷ k ∷ [])) j ≡ (slice_index a j + k) % 2 ^ 32

pub added_lanes : (k : ℕ) (a : List ℕ) → length a ≡ 4 → IsAdded k a
added_lanes k = four_words (IsAdded k) (λ a b c d. below_four _ refl refl refl refl)

abbrev IsCh : List ℕ → List ℕ → List ℕ → Type 0
IsCh x y z = (j : ℕ) → j < 4
    → slice_index (zip2 bit_xor (zip2 bit_and x y) (zip2 bit_and (map (bit_not w32) x) z)) j ≡ ch (slice_index x j) (slice_index y j) (slice_index z j)

pub ch_lanes : (x : List ℕ) → length x ≡ 4 → (y : List ℕ) → length y ≡ 4 → (z : List ℕ) → length z ≡ 4 → IsCh x y z
ch_lanes =
    four_words (λ x. (y : List ℕ) → length y ≡ 4 → (z : List ℕ) → length z ≡ 4 → IsCh x y z) (λ x0 x1 x2 x3.
    four_words (λ y. (z : List ℕ) → length z ≡ 4 → IsCh (x0 ∷ x1 ∷ x2 ∷ x3 ∷ []) y z) (λ y0 y1 y2 y3.
    four_words (IsCh (x0 ∷ x1 ∷ x2 ∷ x3 ∷ []) (y0 ∷ y1 ∷ y2 ∷ y3 ∷ [])) (λ z0 z1 z2 z3.
    below_four _ refl refl refl refl)))

abbrev IsMaj : List ℕ → List ℕ → List ℕ → Type 0
IsMaj x y z = (j : ℕ) → j < 4
    → slice_index (zip2 bit_xor y (zip2 bit_and (zip2 bit_xor x y) (zip2 bit_xor y z))) j ≡ maj (slice_index x j) (slice_index y j) (slice_index z j)

pub maj_lanes : (x : List ℕ) → length x ≡ 4 → (y : List ℕ) → length y ≡ 4 → (z : List ℕ) → length z ≡ 4 → IsMaj x y z
maj_lanes =
    four_words (λ x. (y : List ℕ) → length y ≡ 4 → (z : List ℕ) → length z ≡ 4 → IsMaj x y z) (λ x0 x1 x2 x3.
    four_words (λ y. (z : List ℕ) → length z ≡ 4 → IsMaj (x0 ∷ x1 ∷ x2 ∷ x3 ∷ []) y z) (λ y0 y1 y2 y3.
    four_words (IsMaj (x0 ∷ x1 ∷ x2 ∷ x3 ∷ []) (y0 ∷ y1 ∷ y2 ∷ y3 ∷ [])) (λ z0 z1 z2 z3.
    below_four _ (maj_short x0 y0 z0) (maj_short x1 y1 z1) (maj_short x2 y2 z2) (maj_short x3 y3 z3))))

-- word i of lane j
pub lane_word : (x : List (List ℕ)) (j i : ℕ) → slice_index (lane j x) i ≡ slice_index (slice_index_or x i []) j
lane_word [] j i = refl
lane_word (v ∷ x) j zero = refl
lane_word (v ∷ x) j (suc i) = lane_word x j i

-- a lane of eight vectors
pub lane_of_eight : (x : List (List ℕ)) (j : ℕ) → length x ≡ 8
    → slice_index (slice_index_or x 0 []) j ∷ slice_index (slice_index_or x 1 []) j ∷ slice_index (slice_index_or x 2 []) j ∷ slice_index (slice_index_or x 3 []) j
    ∷ slice_index (slice_index_or x 4 []) j ∷ slice_index (slice_index_or x 5 []) j ∷ slice_index (slice_index_or x 6 []) j ∷ slice_index (slice_index_or x 7 []) j ∷ []
    ≡ lane j x
lane_of_eight (a ∷ b ∷ c ∷ d ∷ e ∷ f ∷ g ∷ h ∷ []) j long = refl
lane_of_eight [] j long = absurd (omega arith)
lane_of_eight (a ∷ []) j long = absurd (omega arith)
lane_of_eight (a ∷ b ∷ []) j long = absurd (omega arith)
lane_of_eight (a ∷ b ∷ c ∷ []) j long = absurd (omega arith)
lane_of_eight (a ∷ b ∷ c ∷ d ∷ []) j long = absurd (omega arith)
lane_of_eight (a ∷ b ∷ c ∷ d ∷ e ∷ []) j long = absurd (omega arith)
lane_of_eight (a ∷ b ∷ c ∷ d ∷ e ∷ f ∷ []) j long = absurd (omega arith)
lane_of_eight (a ∷ b ∷ c ∷ d ∷ e ∷ f ∷ g ∷ []) j long = absurd (omega arith)
lane_of_eight (a ∷ b ∷ c ∷ d ∷ e ∷ f ∷ g ∷ h ∷ k ∷ x) j long = absurd (omega arith)

-- what stands for a slice that isn't there
abbrev pub nothing : Bor (List ℕ)
nothing = record { ref_ptr = (0, 0); now = [] }

-- the bytes of slice i, by the slice
pub bytes_of_is : (slices : List (Bor (List ℕ))) (i : ℕ) → bytes_of i slices ≡ (slice_index_or slices i nothing).now
bytes_of_is [] i = refl
bytes_of_is (s ∷ slices) zero = refl
bytes_of_is (s ∷ slices) (suc i) = bytes_of_is slices i

-- the eight words of a hash value
pub eight_words : (h : List ℕ) → length h ≡ 8
    → slice_index h 0 ∷ slice_index h 1 ∷ slice_index h 2 ∷ slice_index h 3
    ∷ slice_index h 4 ∷ slice_index h 5 ∷ slice_index h 6 ∷ slice_index h 7 ∷ [] ≡ h
eight_words (a ∷ b ∷ c ∷ d ∷ e ∷ f ∷ g ∷ h ∷ []) long = refl
eight_words [] long = absurd (omega arith)
eight_words (a ∷ []) long = absurd (omega arith)
eight_words (a ∷ b ∷ []) long = absurd (omega arith)
eight_words (a ∷ b ∷ c ∷ []) long = absurd (omega arith)
eight_words (a ∷ b ∷ c ∷ d ∷ []) long = absurd (omega arith)
eight_words (a ∷ b ∷ c ∷ d ∷ e ∷ []) long = absurd (omega arith)
eight_words (a ∷ b ∷ c ∷ d ∷ e ∷ f ∷ []) long = absurd (omega arith)
eight_words (a ∷ b ∷ c ∷ d ∷ e ∷ f ∷ g ∷ []) long = absurd (omega arith)
eight_words (a ∷ b ∷ c ∷ d ∷ e ∷ f ∷ g ∷ h ∷ k ∷ x) long = absurd (omega arith)
