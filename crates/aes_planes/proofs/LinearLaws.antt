-- ShiftRows and MixColumns on planes.
use Rattle.std.proofs.Common.{◌≡◌, ℕ, ◌+◌, ◌*◌, ◌/◌, ◌%◌, ◌<◌, List, [], ◌∷◌, map, get_or, bit_xor, refl, sym, ap, ◌∙◌, arith, zero-add}
use lib.Bits.{xor_assoc, xor_comm, xor_lt}
use Rattle.std.proofs.lemmas.List.FromFn.{get_or-map-range_with_len}
use Rattle.std.proofs.lemmas.Nat.{xor_of_8}
use Rattle.std.proofs.lemmas.Nat.Bits.{bit_at-lt, bit_at_xor}
use Rattle.std.specs.Int.{bit_at}
use Rattle.std.specs.List.{range_with_len}
use Rattle.std.specs.Simd.Lanes.{zip2}
use Rattle.aes_core.specs.Field.{times_x, times}
use Rattle.aes_core.specs.Aes.{mix_columns, circulant_byte, bit}
use Rattle.aes_core.proofs.Boxes.{agree_at, times-one, times-two, times-three}
use Rattle.aes_core.proofs.Inverse.{IsState, IsState-xor, times-xor, sum4, IsState-bytes_by}
use Rattle.aes_planes.specs.Planes.{planes_of, next_lane, opposite_lane, with_next, others, lanes_by, mixed_planes}
use Rattle.aes_planes.specs.declared.vectors.Planes.{Planes}
use Rattle.aes_planes.proofs.Truth.{bits_of}
use Rattle.aes_planes.proofs.Hom.{Every}
use Rattle.aes_planes.proofs.SubLaw.{from_bits, bit_in, block_at, bits_back, whole_is, vector_hom, same_on_range}
use Rattle.aes_planes.proofs.Truth.{xor_of_bits}

-- ---- bytes by their bits

bit_xor_at : (x y i : ℕ) → bit (bit_xor x y) i ≡ bit_xor (bit x i) (bit y i)
bit_xor_at x y i = bit_at_xor x y i ∙ xor_of_bits (bit x i) (bit y i) (bit_at-lt x i) (bit_at-lt y i)

bits_of-xor : (x y : ℕ) → bits_of (bit_xor x y) ≡ zip2 bit_xor (bits_of x) (bits_of y)
bits_of-xor x y = (λ i. bit_xor_at x y 7 i ∷ bit_xor_at x y 6 i ∷ bit_xor_at x y 5 i ∷ bit_xor_at x y 4 i ∷ bit_xor_at x y 3 i ∷ bit_xor_at x y 2 i ∷ bit_xor_at x y 1 i ∷ bit_xor_at x y 0 i ∷ [])

-- the sum of two bytes, by their bits
pub from_bits-xor : (a7 a6 a5 a4 a3 a2 a1 a0 b7 b6 b5 b4 b3 b2 b1 b0 : ℕ) → a7 < 2 → a6 < 2 → a5 < 2 → a4 < 2 → a3 < 2 → a2 < 2 → a1 < 2 → a0 < 2 → b7 < 2 → b6 < 2 → b5 < 2 → b4 < 2 → b3 < 2 → b2 < 2 → b1 < 2 → b0 < 2
    → from_bits (bit_xor a7 b7 ∷ bit_xor a6 b6 ∷ bit_xor a5 b5 ∷ bit_xor a4 b4 ∷ bit_xor a3 b3 ∷ bit_xor a2 b2 ∷ bit_xor a1 b1 ∷ bit_xor a0 b0 ∷ []) ≡ bit_xor (from_bits (a7 ∷ a6 ∷ a5 ∷ a4 ∷ a3 ∷ a2 ∷ a1 ∷ a0 ∷ [])) (from_bits (b7 ∷ b6 ∷ b5 ∷ b4 ∷ b3 ∷ b2 ∷ b1 ∷ b0 ∷ []))
from_bits-xor a7 a6 a5 a4 a3 a2 a1 a0 b7 b6 b5 b4 b3 b2 b1 b0 la7 la6 la5 la4 la3 la2 la1 la0 lb7 lb6 lb5 lb4 lb3 lb2 lb1 lb0 =
    let x : ℕ = from_bits (a7 ∷ a6 ∷ a5 ∷ a4 ∷ a3 ∷ a2 ∷ a1 ∷ a0 ∷ []) in
    let y : ℕ = from_bits (b7 ∷ b6 ∷ b5 ∷ b4 ∷ b3 ∷ b2 ∷ b1 ∷ b0 ∷ []) in
    let lx : x < 256 = omega arith in
    let ly : y < 256 = omega arith in
    let ex = bits_back a7 a6 a5 a4 a3 a2 a1 a0 la7 la6 la5 la4 la3 la2 la1 la0 in
    let ey = bits_back b7 b6 b5 b4 b3 b2 b1 b0 lb7 lb6 lb5 lb4 lb3 lb2 lb1 lb0 in
    sym (ap from_bits (bits_of-xor x y ∙ (λ i. zip2 bit_xor (ex i) (ey i)))) ∙ agree_at (λ x. from_bits (bits_of x)) (λ x. x) 256 (bit_xor x y) whole_is (xor_of_8 x y lx ly)

-- the bits of a byte times x, bit 7 first
abbrev double : List ℕ → List ℕ
double l =
    get_or l 1 0 ∷ get_or l 2 0 ∷ get_or l 3 0 ∷ bit_xor (get_or l 4 0) (get_or l 0 0) ∷ bit_xor (get_or l 5 0) (get_or l 0 0) ∷ get_or l 6 0
    ∷ bit_xor (get_or l 7 0) (get_or l 0 0) ∷ get_or l 0 0 ∷ []

double_is : map (λ x. from_bits (double (bits_of x))) (range_with_len 0 256) ≡ map times_x (range_with_len 0 256)
double_is = refl

from_bits-double : (a7 a6 a5 a4 a3 a2 a1 a0 : ℕ) → a7 < 2 → a6 < 2 → a5 < 2 → a4 < 2 → a3 < 2 → a2 < 2 → a1 < 2 → a0 < 2 → from_bits (double (a7 ∷ a6 ∷ a5 ∷ a4 ∷ a3 ∷ a2 ∷ a1 ∷ a0 ∷ [])) ≡ times_x (from_bits (a7 ∷ a6 ∷ a5 ∷ a4 ∷ a3 ∷ a2 ∷ a1 ∷ a0 ∷ []))
from_bits-double a7 a6 a5 a4 a3 a2 a1 a0 la7 la6 la5 la4 la3 la2 la1 la0 =
    let x : ℕ = from_bits (a7 ∷ a6 ∷ a5 ∷ a4 ∷ a3 ∷ a2 ∷ a1 ∷ a0 ∷ []) in
    let lx : x < 256 = omega arith in
    let ex = bits_back a7 a6 a5 a4 a3 a2 a1 a0 la7 la6 la5 la4 la3 la2 la1 la0 in
    ap (λ (l : List ℕ). from_bits (double l)) (sym ex) ∙ agree_at (λ x. from_bits (double (bits_of x))) times_x 256 x double_is lx

-- MixColumns of a column, with one multiplication
mix_once : (a b c d : ℕ) → a < 256 → b < 256 → c < 256 → d < 256
    → sum4 (times 2 a) (times 3 b) (times 1 c) (times 1 d) ≡ bit_xor (bit_xor b (bit_xor c d)) (times_x (bit_xor a b))
mix_once a b c d la lb lc ld =
    let lab = xor_of_8 a b la lb in
    let both : bit_xor (times_x a) (times_x b) ≡ times_x (bit_xor a b) =
    (λ i. bit_xor (sym (times-two a la) i) (sym (times-two b lb) i)) ∙ sym (times-xor 2 a b) ∙ times-two (bit_xor a b) lab in
    (λ i. sum4 (times-two a la i) (times-three b lb i) (times-one c lc i) (times-one d ld i))
    ∙ ap (λ (k : ℕ). bit_xor (bit_xor k c) d) (sym (xor_assoc (times_x a) (times_x b) b) ∙ ap (λ (k : ℕ). bit_xor k b) both)
    ∙ ap (λ (k : ℕ). bit_xor k d) (xor_assoc (times_x (bit_xor a b)) b c) ∙ xor_assoc (times_x (bit_xor a b)) (bit_xor b c) d
    ∙ ap (bit_xor (times_x (bit_xor a b))) (xor_assoc b c d) ∙ xor_comm (times_x (bit_xor a b)) (bit_xor b (bit_xor c d))

-- ---- MixColumns on planes

-- the place i rows on in the column of place p
abbrev place : ℕ → ℕ → ℕ
place p i = p / 4 * 4 + (p + i) % 4

pub IsState-lanes_by : (f : ℕ → ℕ) (v : List ℕ) → IsState v → IsState (lanes_by f v)
IsState-lanes_by f v h = IsState-bytes_by (λ k. get_or v (f k) 0) (λ k. h.bytes (f k))

at_lanes_by : (f : ℕ → ℕ) (v : List ℕ) (p j : ℕ) → p < 16 → bit_in p j (lanes_by f v) ≡ bit_in (f p) j v
at_lanes_by f v p j lp = ap (λ (x : ℕ). bit_at x j) (get_or-map-range_with_len (λ k. get_or v (f k) 0) 0 16 p p 0 lp (zero-add p))

pub IsState-with_next : (v : List ℕ) → IsState v → IsState (with_next v)
IsState-with_next v h = IsState-xor v (next_lane v) h (IsState-lanes_by (λ k. place k 1) v h)

pub IsState-others : (v : List ℕ) → IsState v → IsState (others v)
IsState-others v h = IsState-xor (next_lane v) (opposite_lane (with_next v)) (IsState-lanes_by (λ k. place k 1) v h) (IsState-lanes_by (λ k. place k 2) (with_next v) (IsState-with_next v h))

at_with_next : (v : List ℕ) (p j : ℕ) → p < 16 → j < 8 → IsState v → bit_in p j (with_next v) ≡ bit_xor (bit_in p j v) (bit_in (place p 1) j v)
at_with_next v p j lp lj h =
    (vector_hom p j lp lj).at_xor v (next_lane v) h (IsState-lanes_by (λ k. place k 1) v h)
    ∙ ap (bit_xor (bit_in p j v)) (at_lanes_by (λ k. place k 1) v p j lp)

at_others : (v : List ℕ) (p j : ℕ) → p < 16 → j < 8 → IsState v
    → bit_in p j (others v) ≡ bit_xor (bit_in (place p 1) j v) (bit_xor (bit_in (place p 2) j v) (bit_in (place p 3) j v))
at_others v p j lp lj h =
    let on : place (place p 2) 1 ≡ place p 3 = omega arith in
    (vector_hom p j lp lj).at_xor (next_lane v) (opposite_lane (with_next v)) (IsState-lanes_by (λ k. place k 1) v h) (IsState-lanes_by (λ k. place k 2) (with_next v) (IsState-with_next v h))
    ∙ (λ i. bit_xor (at_lanes_by (λ k. place k 1) v p j lp i) (at_lanes_by (λ k. place k 2) (with_next v) p j lp i))
    ∙ ap (bit_xor (bit_in (place p 1) j v)) (at_with_next v (place p 2) j (omega arith) lj h ∙ ap (λ (k : ℕ). bit_xor (bit_in (place p 2) j v) (bit_in k j v)) on)

xor_bit : (x y : ℕ) → x < 2 → y < 2 → bit_xor x y < 2
xor_bit x y lx ly = xor_lt 1 x y lx ly

mix_lane : (q : Planes) (j p : ℕ) → j < 8 → p < 16 → Every IsState (planes_of q)
    → from_bits (map (bit_in p j) (mixed_planes q)) ≡ circulant_byte (2 ∷ 3 ∷ 1 ∷ 1 ∷ []) (block_at (planes_of q) j) p
mix_lane q j p lj lp states =
    let hom = vector_hom p j lp lj in
    let own : place p 0 ≡ p = omega arith in
    let s7 : IsState q.b7 = states.0 in
    let s6 : IsState q.b6 = states.1.0 in
    let s5 : IsState q.b5 = states.1.1.0 in
    let s4 : IsState q.b4 = states.1.1.1.0 in
    let s3 : IsState q.b3 = states.1.1.1.1.0 in
    let s2 : IsState q.b2 = states.1.1.1.1.1.0 in
    let s1 : IsState q.b1 = states.1.1.1.1.1.1.0 in
    let s0 : IsState q.b0 = states.1.1.1.1.1.1.1.0 in
    let a7 : ℕ = bit_in p j q.b7 in let la7 : a7 < 2 = bit_at-lt (get_or q.b7 p 0) j in
    let b7 : ℕ = bit_in (place p 1) j q.b7 in let lb7 : b7 < 2 = bit_at-lt (get_or q.b7 (place p 1) 0) j in
    let c7 : ℕ = bit_in (place p 2) j q.b7 in let lc7 : c7 < 2 = bit_at-lt (get_or q.b7 (place p 2) 0) j in
    let d7 : ℕ = bit_in (place p 3) j q.b7 in let ld7 : d7 < 2 = bit_at-lt (get_or q.b7 (place p 3) 0) j in
    let a6 : ℕ = bit_in p j q.b6 in let la6 : a6 < 2 = bit_at-lt (get_or q.b6 p 0) j in
    let b6 : ℕ = bit_in (place p 1) j q.b6 in let lb6 : b6 < 2 = bit_at-lt (get_or q.b6 (place p 1) 0) j in
    let c6 : ℕ = bit_in (place p 2) j q.b6 in let lc6 : c6 < 2 = bit_at-lt (get_or q.b6 (place p 2) 0) j in
    let d6 : ℕ = bit_in (place p 3) j q.b6 in let ld6 : d6 < 2 = bit_at-lt (get_or q.b6 (place p 3) 0) j in
    let a5 : ℕ = bit_in p j q.b5 in let la5 : a5 < 2 = bit_at-lt (get_or q.b5 p 0) j in
    let b5 : ℕ = bit_in (place p 1) j q.b5 in let lb5 : b5 < 2 = bit_at-lt (get_or q.b5 (place p 1) 0) j in
    let c5 : ℕ = bit_in (place p 2) j q.b5 in let lc5 : c5 < 2 = bit_at-lt (get_or q.b5 (place p 2) 0) j in
    let d5 : ℕ = bit_in (place p 3) j q.b5 in let ld5 : d5 < 2 = bit_at-lt (get_or q.b5 (place p 3) 0) j in
    let a4 : ℕ = bit_in p j q.b4 in let la4 : a4 < 2 = bit_at-lt (get_or q.b4 p 0) j in
    let b4 : ℕ = bit_in (place p 1) j q.b4 in let lb4 : b4 < 2 = bit_at-lt (get_or q.b4 (place p 1) 0) j in
    let c4 : ℕ = bit_in (place p 2) j q.b4 in let lc4 : c4 < 2 = bit_at-lt (get_or q.b4 (place p 2) 0) j in
    let d4 : ℕ = bit_in (place p 3) j q.b4 in let ld4 : d4 < 2 = bit_at-lt (get_or q.b4 (place p 3) 0) j in
    let a3 : ℕ = bit_in p j q.b3 in let la3 : a3 < 2 = bit_at-lt (get_or q.b3 p 0) j in
    let b3 : ℕ = bit_in (place p 1) j q.b3 in let lb3 : b3 < 2 = bit_at-lt (get_or q.b3 (place p 1) 0) j in
    let c3 : ℕ = bit_in (place p 2) j q.b3 in let lc3 : c3 < 2 = bit_at-lt (get_or q.b3 (place p 2) 0) j in
    let d3 : ℕ = bit_in (place p 3) j q.b3 in let ld3 : d3 < 2 = bit_at-lt (get_or q.b3 (place p 3) 0) j in
    let a2 : ℕ = bit_in p j q.b2 in let la2 : a2 < 2 = bit_at-lt (get_or q.b2 p 0) j in
    let b2 : ℕ = bit_in (place p 1) j q.b2 in let lb2 : b2 < 2 = bit_at-lt (get_or q.b2 (place p 1) 0) j in
    let c2 : ℕ = bit_in (place p 2) j q.b2 in let lc2 : c2 < 2 = bit_at-lt (get_or q.b2 (place p 2) 0) j in
    let d2 : ℕ = bit_in (place p 3) j q.b2 in let ld2 : d2 < 2 = bit_at-lt (get_or q.b2 (place p 3) 0) j in
    let a1 : ℕ = bit_in p j q.b1 in let la1 : a1 < 2 = bit_at-lt (get_or q.b1 p 0) j in
    let b1 : ℕ = bit_in (place p 1) j q.b1 in let lb1 : b1 < 2 = bit_at-lt (get_or q.b1 (place p 1) 0) j in
    let c1 : ℕ = bit_in (place p 2) j q.b1 in let lc1 : c1 < 2 = bit_at-lt (get_or q.b1 (place p 2) 0) j in
    let d1 : ℕ = bit_in (place p 3) j q.b1 in let ld1 : d1 < 2 = bit_at-lt (get_or q.b1 (place p 3) 0) j in
    let a0 : ℕ = bit_in p j q.b0 in let la0 : a0 < 2 = bit_at-lt (get_or q.b0 p 0) j in
    let b0 : ℕ = bit_in (place p 1) j q.b0 in let lb0 : b0 < 2 = bit_at-lt (get_or q.b0 (place p 1) 0) j in
    let c0 : ℕ = bit_in (place p 2) j q.b0 in let lc0 : c0 < 2 = bit_at-lt (get_or q.b0 (place p 2) 0) j in
    let d0 : ℕ = bit_in (place p 3) j q.b0 in let ld0 : d0 < 2 = bit_at-lt (get_or q.b0 (place p 3) 0) j in
    let n7 : bit_in p j (with_next q.b7) ≡ bit_xor a7 b7 = at_with_next q.b7 p j lp lj s7 in
    let o7 : bit_in p j (others q.b7) ≡ bit_xor b7 (bit_xor c7 d7) = at_others q.b7 p j lp lj s7 in
    let sn7 = IsState-with_next q.b7 s7 in let so7 = IsState-others q.b7 s7 in
    let n6 : bit_in p j (with_next q.b6) ≡ bit_xor a6 b6 = at_with_next q.b6 p j lp lj s6 in
    let o6 : bit_in p j (others q.b6) ≡ bit_xor b6 (bit_xor c6 d6) = at_others q.b6 p j lp lj s6 in
    let sn6 = IsState-with_next q.b6 s6 in let so6 = IsState-others q.b6 s6 in
    let n5 : bit_in p j (with_next q.b5) ≡ bit_xor a5 b5 = at_with_next q.b5 p j lp lj s5 in
    let o5 : bit_in p j (others q.b5) ≡ bit_xor b5 (bit_xor c5 d5) = at_others q.b5 p j lp lj s5 in
    let sn5 = IsState-with_next q.b5 s5 in let so5 = IsState-others q.b5 s5 in
    let n4 : bit_in p j (with_next q.b4) ≡ bit_xor a4 b4 = at_with_next q.b4 p j lp lj s4 in
    let o4 : bit_in p j (others q.b4) ≡ bit_xor b4 (bit_xor c4 d4) = at_others q.b4 p j lp lj s4 in
    let sn4 = IsState-with_next q.b4 s4 in let so4 = IsState-others q.b4 s4 in
    let n3 : bit_in p j (with_next q.b3) ≡ bit_xor a3 b3 = at_with_next q.b3 p j lp lj s3 in
    let o3 : bit_in p j (others q.b3) ≡ bit_xor b3 (bit_xor c3 d3) = at_others q.b3 p j lp lj s3 in
    let sn3 = IsState-with_next q.b3 s3 in let so3 = IsState-others q.b3 s3 in
    let n2 : bit_in p j (with_next q.b2) ≡ bit_xor a2 b2 = at_with_next q.b2 p j lp lj s2 in
    let o2 : bit_in p j (others q.b2) ≡ bit_xor b2 (bit_xor c2 d2) = at_others q.b2 p j lp lj s2 in
    let sn2 = IsState-with_next q.b2 s2 in let so2 = IsState-others q.b2 s2 in
    let n1 : bit_in p j (with_next q.b1) ≡ bit_xor a1 b1 = at_with_next q.b1 p j lp lj s1 in
    let o1 : bit_in p j (others q.b1) ≡ bit_xor b1 (bit_xor c1 d1) = at_others q.b1 p j lp lj s1 in
    let sn1 = IsState-with_next q.b1 s1 in let so1 = IsState-others q.b1 s1 in
    let n0 : bit_in p j (with_next q.b0) ≡ bit_xor a0 b0 = at_with_next q.b0 p j lp lj s0 in
    let o0 : bit_in p j (others q.b0) ≡ bit_xor b0 (bit_xor c0 d0) = at_others q.b0 p j lp lj s0 in
    let sn0 = IsState-with_next q.b0 s0 in let so0 = IsState-others q.b0 s0 in
    let e7 : bit_in p j (zip2 bit_xor (others q.b7) (with_next q.b6)) ≡ bit_xor (bit_xor b7 (bit_xor c7 d7)) (bit_xor a6 b6) = hom.at_xor (others q.b7) (with_next q.b6) so7 sn6 ∙ (λ i. bit_xor (o7 i) (n6 i)) in
    let e6 : bit_in p j (zip2 bit_xor (others q.b6) (with_next q.b5)) ≡ bit_xor (bit_xor b6 (bit_xor c6 d6)) (bit_xor a5 b5) = hom.at_xor (others q.b6) (with_next q.b5) so6 sn5 ∙ (λ i. bit_xor (o6 i) (n5 i)) in
    let e5 : bit_in p j (zip2 bit_xor (others q.b5) (with_next q.b4)) ≡ bit_xor (bit_xor b5 (bit_xor c5 d5)) (bit_xor a4 b4) = hom.at_xor (others q.b5) (with_next q.b4) so5 sn4 ∙ (λ i. bit_xor (o5 i) (n4 i)) in
    let e4 : bit_in p j (zip2 bit_xor (zip2 bit_xor (others q.b4) (with_next q.b3)) (with_next q.b7)) ≡ bit_xor (bit_xor b4 (bit_xor c4 d4)) (bit_xor (bit_xor a3 b3) (bit_xor a7 b7)) =
    hom.at_xor (zip2 bit_xor (others q.b4) (with_next q.b3)) (with_next q.b7) (IsState-xor (others q.b4) (with_next q.b3) so4 sn3) sn7
    ∙ ap (λ (x : ℕ). bit_xor x (bit_in p j (with_next q.b7))) (hom.at_xor (others q.b4) (with_next q.b3) so4 sn3)
    ∙ (λ i. bit_xor (bit_xor (o4 i) (n3 i)) (n7 i)) ∙ xor_assoc (bit_xor b4 (bit_xor c4 d4)) (bit_xor a3 b3) (bit_xor a7 b7) in
    let e3 : bit_in p j (zip2 bit_xor (zip2 bit_xor (others q.b3) (with_next q.b2)) (with_next q.b7)) ≡ bit_xor (bit_xor b3 (bit_xor c3 d3)) (bit_xor (bit_xor a2 b2) (bit_xor a7 b7)) =
    hom.at_xor (zip2 bit_xor (others q.b3) (with_next q.b2)) (with_next q.b7) (IsState-xor (others q.b3) (with_next q.b2) so3 sn2) sn7
    ∙ ap (λ (x : ℕ). bit_xor x (bit_in p j (with_next q.b7))) (hom.at_xor (others q.b3) (with_next q.b2) so3 sn2)
    ∙ (λ i. bit_xor (bit_xor (o3 i) (n2 i)) (n7 i)) ∙ xor_assoc (bit_xor b3 (bit_xor c3 d3)) (bit_xor a2 b2) (bit_xor a7 b7) in
    let e2 : bit_in p j (zip2 bit_xor (others q.b2) (with_next q.b1)) ≡ bit_xor (bit_xor b2 (bit_xor c2 d2)) (bit_xor a1 b1) = hom.at_xor (others q.b2) (with_next q.b1) so2 sn1 ∙ (λ i. bit_xor (o2 i) (n1 i)) in
    let e1 : bit_in p j (zip2 bit_xor (zip2 bit_xor (others q.b1) (with_next q.b0)) (with_next q.b7)) ≡ bit_xor (bit_xor b1 (bit_xor c1 d1)) (bit_xor (bit_xor a0 b0) (bit_xor a7 b7)) =
    hom.at_xor (zip2 bit_xor (others q.b1) (with_next q.b0)) (with_next q.b7) (IsState-xor (others q.b1) (with_next q.b0) so1 sn0) sn7
    ∙ ap (λ (x : ℕ). bit_xor x (bit_in p j (with_next q.b7))) (hom.at_xor (others q.b1) (with_next q.b0) so1 sn0)
    ∙ (λ i. bit_xor (bit_xor (o1 i) (n0 i)) (n7 i)) ∙ xor_assoc (bit_xor b1 (bit_xor c1 d1)) (bit_xor a0 b0) (bit_xor a7 b7) in
    let e0 : bit_in p j (zip2 bit_xor (others q.b0) (with_next q.b7)) ≡ bit_xor (bit_xor b0 (bit_xor c0 d0)) (bit_xor a7 b7) = hom.at_xor (others q.b0) (with_next q.b7) so0 sn7 ∙ (λ i. bit_xor (o0 i) (n7 i)) in
    let ld7' = xor_bit a7 b7 la7 lb7 in let lcd7 = xor_bit c7 d7 lc7 ld7 in let lt7 = xor_bit b7 (bit_xor c7 d7) lb7 lcd7 in
    let ld6' = xor_bit a6 b6 la6 lb6 in let lcd6 = xor_bit c6 d6 lc6 ld6 in let lt6 = xor_bit b6 (bit_xor c6 d6) lb6 lcd6 in
    let ld5' = xor_bit a5 b5 la5 lb5 in let lcd5 = xor_bit c5 d5 lc5 ld5 in let lt5 = xor_bit b5 (bit_xor c5 d5) lb5 lcd5 in
    let ld4' = xor_bit a4 b4 la4 lb4 in let lcd4 = xor_bit c4 d4 lc4 ld4 in let lt4 = xor_bit b4 (bit_xor c4 d4) lb4 lcd4 in
    let ld3' = xor_bit a3 b3 la3 lb3 in let lcd3 = xor_bit c3 d3 lc3 ld3 in let lt3 = xor_bit b3 (bit_xor c3 d3) lb3 lcd3 in
    let ld2' = xor_bit a2 b2 la2 lb2 in let lcd2 = xor_bit c2 d2 lc2 ld2 in let lt2 = xor_bit b2 (bit_xor c2 d2) lb2 lcd2 in
    let ld1' = xor_bit a1 b1 la1 lb1 in let lcd1 = xor_bit c1 d1 lc1 ld1 in let lt1 = xor_bit b1 (bit_xor c1 d1) lb1 lcd1 in
    let ld0' = xor_bit a0 b0 la0 lb0 in let lcd0 = xor_bit c0 d0 lc0 ld0 in let lt0 = xor_bit b0 (bit_xor c0 d0) lb0 lcd0 in
    let A : ℕ = from_bits (a7 ∷ a6 ∷ a5 ∷ a4 ∷ a3 ∷ a2 ∷ a1 ∷ a0 ∷ []) in let B : ℕ = from_bits (b7 ∷ b6 ∷ b5 ∷ b4 ∷ b3 ∷ b2 ∷ b1 ∷ b0 ∷ []) in let C : ℕ = from_bits (c7 ∷ c6 ∷ c5 ∷ c4 ∷ c3 ∷ c2 ∷ c1 ∷ c0 ∷ []) in let E : ℕ = from_bits (d7 ∷ d6 ∷ d5 ∷ d4 ∷ d3 ∷ d2 ∷ d1 ∷ d0 ∷ []) in
    let lA : A < 256 = omega arith in let lB : B < 256 = omega arith in let lC : C < 256 = omega arith in let lE : E < 256 = omega arith in
    let get : (k : ℕ) → k < 16 → get_or (block_at (planes_of q) j) k 0 ≡ from_bits (map (bit_in k j) (planes_of q)) = λ k lk. get_or-map-range_with_len (λ p. from_bits (map (bit_in p j) (planes_of q))) 0 16 k k 0 lk (zero-add k) in
    let g0 : get_or (block_at (planes_of q) j) (place p 0) 0 ≡ A = ap (λ (k : ℕ). get_or (block_at (planes_of q) j) k 0) own ∙ get p lp in
    let g1 : get_or (block_at (planes_of q) j) (place p 1) 0 ≡ B = get (place p 1) (omega arith) in
    let g2 : get_or (block_at (planes_of q) j) (place p 2) 0 ≡ C = get (place p 2) (omega arith) in
    let g3 : get_or (block_at (planes_of q) j) (place p 3) 0 ≡ E = get (place p 3) (omega arith) in
    (λ i. from_bits (e7 i ∷ e6 i ∷ e5 i ∷ e4 i ∷ e3 i ∷ e2 i ∷ e1 i ∷ e0 i ∷ []))
    ∙ from_bits-xor (bit_xor b7 (bit_xor c7 d7)) (bit_xor b6 (bit_xor c6 d6)) (bit_xor b5 (bit_xor c5 d5)) (bit_xor b4 (bit_xor c4 d4)) (bit_xor b3 (bit_xor c3 d3)) (bit_xor b2 (bit_xor c2 d2)) (bit_xor b1 (bit_xor c1 d1)) (bit_xor b0 (bit_xor c0 d0)) (bit_xor a6 b6) (bit_xor a5 b5) (bit_xor a4 b4) (bit_xor (bit_xor a3 b3) (bit_xor a7 b7)) (bit_xor (bit_xor a2 b2) (bit_xor a7 b7)) (bit_xor a1 b1) (bit_xor (bit_xor a0 b0) (bit_xor a7 b7)) (bit_xor a7 b7) lt7 lt6 lt5 lt4 lt3 lt2 lt1 lt0 ld6' ld5' ld4' (xor_bit (bit_xor a3 b3) (bit_xor a7 b7) ld3' ld7') (xor_bit (bit_xor a2 b2) (bit_xor a7 b7) ld2' ld7') ld1' (xor_bit (bit_xor a0 b0) (bit_xor a7 b7) ld0' ld7') ld7'
    ∙ (λ i. bit_xor
    ((from_bits-xor b7 b6 b5 b4 b3 b2 b1 b0 (bit_xor c7 d7) (bit_xor c6 d6) (bit_xor c5 d5) (bit_xor c4 d4) (bit_xor c3 d3) (bit_xor c2 d2) (bit_xor c1 d1) (bit_xor c0 d0) lb7 lb6 lb5 lb4 lb3 lb2 lb1 lb0 lcd7 lcd6 lcd5 lcd4 lcd3 lcd2 lcd1 lcd0
    ∙ ap (bit_xor B) (from_bits-xor c7 c6 c5 c4 c3 c2 c1 c0 d7 d6 d5 d4 d3 d2 d1 d0 lc7 lc6 lc5 lc4 lc3 lc2 lc1 lc0 ld7 ld6 ld5 ld4 ld3 ld2 ld1 ld0)) i)
    ((from_bits-double (bit_xor a7 b7) (bit_xor a6 b6) (bit_xor a5 b5) (bit_xor a4 b4) (bit_xor a3 b3) (bit_xor a2 b2) (bit_xor a1 b1) (bit_xor a0 b0) ld7' ld6' ld5' ld4' ld3' ld2' ld1' ld0' ∙ ap times_x (from_bits-xor a7 a6 a5 a4 a3 a2 a1 a0 b7 b6 b5 b4 b3 b2 b1 b0 la7 la6 la5 la4 la3 la2 la1 la0 lb7 lb6 lb5 lb4 lb3 lb2 lb1 lb0)) i))
    ∙ sym (mix_once A B C E lA lB lC lE)
    ∙ (λ i. sum4 (times 2 (sym g0 i)) (times 3 (sym g1 i)) (times 1 (sym g2 i)) (times 1 (sym g3 i)))

pub mix_law : (q r : Planes) (j : ℕ) → j < 8 → Every IsState (planes_of q) → planes_of r ≡ mixed_planes q → block_at (planes_of r) j ≡ mix_columns (block_at (planes_of q) j)
mix_law q r j lj states e =
    ap (λ (ps : List (List ℕ)). block_at ps j) e
    ∙ same_on_range (λ p. from_bits (map (bit_in p j) (mixed_planes q))) (circulant_byte (2 ∷ 3 ∷ 1 ∷ 1 ∷ []) (block_at (planes_of q) j)) 16 (λ p lp. mix_lane q j p lj lp states)
