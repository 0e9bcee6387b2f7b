-- Eight vectors as the planes of bits.
use Rattle.std.specs.Prelude.{ℕ, ◌+◌, ◌*◌, ◌/◌, ◌%◌, ◌≡◌, length, List, [], ◌∷◌, map, bit_xor, bit_and, bit_or, replicate, slice_index}
use Rattle.std.specs.List.{range_with_len}
use Rattle.std.specs.Simd.Lanes.{zip2}
use Rattle.aes_core.specs.Aes.{sbox, inverse_sbox, shift_rows, inverse_shift_rows}
use Rattle.aes_planes.specs.Circuit.{Ops}
use Rattle.aes_planes.specs.declared.vectors.Planes.{Planes}

abbrev pub vector_ops : Ops (List ℕ)
vector_ops = record { xor = zip2 bit_xor; and = zip2 bit_and; or = zip2 bit_or; none = replicate 16 0 }

-- the vectors as a list, that of bit 7 first
abbrev pub planes_of : Planes → List (List ℕ)
planes_of p = p.b7 ∷ p.b6 ∷ p.b5 ∷ p.b4 ∷ p.b3 ∷ p.b2 ∷ p.b1 ∷ p.b0 ∷ []

-- lane k is lane f k of v
abbrev pub lanes_by : (ℕ → ℕ) → List ℕ → List ℕ
lanes_by f v = map (λ k. slice_index v (f k)) (range_with_len 0 16)

-- ---- a state by its columns, as FIPS 197 has it

-- in the place of each byte, the next byte of its column, and the one two rows on
abbrev pub next_lane : List ℕ → List ℕ
next_lane v = lanes_by (λ k. k / 4 * 4 + (k + 1) % 4) v

abbrev pub opposite_lane : List ℕ → List ℕ
opposite_lane v = lanes_by (λ k. k / 4 * 4 + (k + 2) % 4) v

-- the sum of each byte and the next one
abbrev pub with_next : List ℕ → List ℕ
with_next v = zip2 bit_xor v (next_lane v)

-- the sum of the three other bytes of the column
abbrev pub others : List ℕ → List ℕ
others v = zip2 bit_xor (next_lane v) (opposite_lane (with_next v))

-- MixColumns on planes
abbrev pub mixed_planes : Planes → List (List ℕ)
mixed_planes q =
    let x : List ℕ → List ℕ → List ℕ = zip2 bit_xor in
    x (others q.b7) (with_next q.b6) ∷ x (others q.b6) (with_next q.b5) ∷ x (others q.b5) (with_next q.b4)
    ∷ x (x (others q.b4) (with_next q.b3)) (with_next q.b7) ∷ x (x (others q.b3) (with_next q.b2)) (with_next q.b7)
    ∷ x (others q.b2) (with_next q.b1) ∷ x (x (others q.b1) (with_next q.b0)) (with_next q.b7) ∷ x (others q.b0) (with_next q.b7) ∷ []

-- ---- a state by its rows

-- a state's bytes row by row in place of column by column, and back
abbrev pub rows : List ℕ → List ℕ
rows v = lanes_by (λ k. k % 4 * 4 + k / 4) v

-- ShiftRows: from columns to rows, from rows to rows, and from rows to columns
abbrev pub shift_in : List ℕ → List ℕ
shift_in v = rows (shift_rows v)

abbrev pub shift_between : List ℕ → List ℕ
shift_between v = rows (shift_rows (rows v))

abbrev pub shift_out : List ℕ → List ℕ
shift_out v = shift_rows (rows v)

-- InvShiftRows, from columns to rows and from rows to rows
abbrev pub unshift_in : List ℕ → List ℕ
unshift_in v = rows (inverse_shift_rows v)

abbrev pub unshift_between : List ℕ → List ℕ
unshift_between v = rows (inverse_shift_rows (rows v))

-- in the place of each byte, the one in the next row, and the one two rows on
abbrev pub next_row : List ℕ → List ℕ
next_row v = lanes_by (λ k. (k + 4) % 16) v

abbrev pub opposite_row : List ℕ → List ℕ
opposite_row v = lanes_by (λ k. (k + 8) % 16) v

abbrev pub with_next_row : List ℕ → List ℕ
with_next_row v = zip2 bit_xor v (next_row v)

abbrev pub other_rows : List ℕ → List ℕ
other_rows v = zip2 bit_xor (next_row v) (opposite_row (with_next_row v))

-- MixColumns on planes by rows
abbrev pub mixed_rows : Planes → List (List ℕ)
mixed_rows q =
    let x : List ℕ → List ℕ → List ℕ = zip2 bit_xor in
    x (other_rows q.b7) (with_next_row q.b6) ∷ x (other_rows q.b6) (with_next_row q.b5) ∷ x (other_rows q.b5) (with_next_row q.b4)
    ∷ x (x (other_rows q.b4) (with_next_row q.b3)) (with_next_row q.b7) ∷ x (x (other_rows q.b3) (with_next_row q.b2)) (with_next_row q.b7)
    ∷ x (other_rows q.b2) (with_next_row q.b1) ∷ x (x (other_rows q.b1) (with_next_row q.b0)) (with_next_row q.b7) ∷ x (other_rows q.b0) (with_next_row q.b7) ∷ []

-- ---- the constant of the S-box, which the round keys carry

-- each byte with the constant added
abbrev pub turned : List ℕ → List ℕ
turned s = map (λ b. bit_xor b 0x63) s

-- the S-box without its constant
abbrev pub half : ℕ → ℕ
half b = bit_xor (sbox b) 0x63

abbrev pub half_sub : List ℕ → List ℕ
half_sub s = map half s

-- the inverse S-box of a byte to which the constant was added
abbrev pub half_inverse : ℕ → ℕ
half_inverse b = inverse_sbox (bit_xor b 0x63)

abbrev pub half_inverse_sub : List ℕ → List ℕ
half_inverse_sub s = map half_inverse s

-- each byte times x squared
abbrev pub quadrupled_planes : Planes → List (List ℕ)
quadrupled_planes q =
    let x : List ℕ → List ℕ → List ℕ = zip2 bit_xor in
    q.b5 ∷ q.b4 ∷ x q.b3 q.b7 ∷ x q.b2 (x q.b6 q.b7) ∷ x q.b1 q.b6 ∷ x q.b0 q.b7 ∷ x q.b6 q.b7 ∷ q.b6 ∷ []

-- each plane has 16 lanes
pub record AreLong (q : Planes) : Type 0 where
  pub l7 : length q.b7 ≡ 16
  pub l6 : length q.b6 ≡ 16
  pub l5 : length q.b5 ≡ 16
  pub l4 : length q.b4 ≡ 16
  pub l3 : length q.b3 ≡ 16
  pub l2 : length q.b2 ≡ 16
  pub l1 : length q.b1 ≡ 16
  pub l0 : length q.b0 ≡ 16
