-- The inverse cipher by rows.
use Rattle.std.proofs.Common.{◌≡◌, ℕ, zero, suc, ◌+◌, ◌-◌, ◌*◌, ◌%◌, ◌<◌, List, [], ◌∷◌, map, get_or, length, slice_index_or, bit_xor, refl, sym, ap, subst, ◌∙◌, arith, lit<, add-one}
use lib.Bits.{xor_assoc, xor_zero_r}
use Rattle.std.proofs.lemmas.Nat.{xor_of_8}
use Rattle.std.proofs.lemmas.Nat.Bits.{bit_at-lt}
use Rattle.std.proofs.lemmas.List.{length-map}
use Rattle.std.proofs.lemmas.Simd.{length-zip2, map-map}
use Rattle.std.specs.List.{range_with_len}
use Rattle.std.specs.Simd.Lanes.{zip2}
use Rattle.aes_core.specs.Field.{times}
use Rattle.aes_core.specs.State.{IsState}
use Rattle.aes_core.specs.Aes.{xor, bytes_by, inverse_sbox, inverse_sub_bytes, inverse_shift_rows, mix_columns, inverse_mix_columns, round_key, after_inverse_rounds, deciphered}
use Rattle.aes_core.proofs.Boxes.{agree_at, inverse_sbox_entry}
use Rattle.aes_core.proofs.Inverse.{times-xor, sum4, sum4-xor, sum4-rotated, IsState-xor, IsState-bytes_by, AreRoundKeys}
use Rattle.aes_planes.specs.Circuit.{run, outputs, inverse_sbox_gates, inverse_sbox_outputs}
use Rattle.aes_planes.specs.Planes.{vector_ops, planes_of, rows, unshift_in, unshift_between, opposite_lane, opposite_row, mixed_rows, quadrupled_planes, turned, half_inverse, half_inverse_sub}
use Rattle.aes_planes.specs.Blocks.{from_bits, bit_in, block_at, vector_at, AreStates, AreOf, AreKeys, added, key_at}
use Rattle.aes_planes.specs.declared.vectors.Planes.{Planes}
use Rattle.aes_planes.specs.declared.round_keys.KeyPlanes.{KeyPlanes}
use Rattle.aes_planes.proofs.Truth.{bit_ops, bits_of, inverse_sbox_circuit}
use Rattle.aes_planes.proofs.Hom.{Every, run-hom, outputs-hom}
use Rattle.aes_planes.proofs.SubLaw.{bits_back, vector_hom, same_on_range, IsState-zeros}
use Rattle.aes_planes.proofs.LinearLaws.{IsState-lanes_by}
use Rattle.aes_planes.proofs.TransposeLaw.{IsTransposed}
use Rattle.aes_planes.proofs.RowLaws.{explicit, rows_xor}
use Rattle.aes_planes.proofs.BlockLaws.{every_state, states_from, outputs-every, moved_states, IsState-rows, add_states, add_law, mix_rows_law, transposed_states, blocks_are_vectors, vectors_are_blocks, state_at}

-- ---- InvSubBytes

abbrev pub IsInverseSub : Planes → Planes → Type 0
IsInverseSub q r = planes_of r ≡ outputs vector_ops inverse_sbox_outputs (run vector_ops inverse_sbox_gates (planes_of q))

pub inverse_sub_states : (q r : Planes) → AreStates q → IsInverseSub q r → AreStates r
inverse_sub_states q r h e =
    let hom = vector_hom 0 0 (omega arith) (omega arith) in
    states_from r (subst (Every IsState) (sym e)
    (outputs-every IsState inverse_sbox_outputs (run vector_ops inverse_sbox_gates (planes_of q)) ((run-hom vector_ops bit_ops (bit_in 0 0) IsState hom inverse_sbox_gates (planes_of q) (every_state q h)).1) IsState-zeros))

inverse_of_bits : (a b c d e f g h : ℕ) → a < 2 → b < 2 → c < 2 → d < 2 → e < 2 → f < 2 → g < 2 → h < 2
    → from_bits (outputs bit_ops inverse_sbox_outputs (run bit_ops inverse_sbox_gates (a ∷ b ∷ c ∷ d ∷ e ∷ f ∷ g ∷ h ∷ []))) ≡ half_inverse (from_bits (a ∷ b ∷ c ∷ d ∷ e ∷ f ∷ g ∷ h ∷ []))
inverse_of_bits a b c d e f g h la lb lc ld le lf lg lh =
    let x : ℕ = h + 2 * g + 4 * f + 8 * e + 16 * d + 32 * c + 64 * b + 128 * a in
    let small : x < 256 = omega arith in
    let back = bits_back a b c d e f g h la lb lc ld le lf lg lh in
    ap (λ (l : List ℕ). from_bits (outputs bit_ops inverse_sbox_outputs (run bit_ops inverse_sbox_gates l))) (sym back)
    ∙ inverse_sbox_circuit x small
    ∙ inverse_sbox_entry (bit_xor x 0x63) (xor_of_8 x 0x63 small (lit< tt))

inverse_sub_law : (q r : Planes) (j : ℕ) → j < 8 → AreStates q → IsInverseSub q r → block_at (planes_of r) j ≡ half_inverse_sub (block_at (planes_of q) j)
inverse_sub_law q r j lj states e =
    let lane : (p : ℕ) → p < 16 → from_bits (map (bit_in p j) (planes_of r)) ≡ half_inverse (from_bits (map (bit_in p j) (planes_of q))) = λ p lp.
    let hom = vector_hom p j lp lj in
    let h : List ℕ → ℕ = bit_in p j in
    let lt : (v : List ℕ) → h v < 2 = λ v. bit_at-lt (get_or v p 0) j in
    ap (λ (l : List (List ℕ)). from_bits (map h l)) e
    ∙ ap from_bits (outputs-hom vector_ops bit_ops h IsState hom inverse_sbox_outputs (run vector_ops inverse_sbox_gates (planes_of q)) ∙ ap (outputs bit_ops inverse_sbox_outputs) (run-hom vector_ops bit_ops h IsState hom inverse_sbox_gates (planes_of q) (every_state q states)).0)
    ∙ inverse_of_bits (h q.b7) (h q.b6) (h q.b5) (h q.b4) (h q.b3) (h q.b2) (h q.b1) (h q.b0) (lt q.b7) (lt q.b6) (lt q.b5) (lt q.b4) (lt q.b3) (lt q.b2) (lt q.b1) (lt q.b0) in
    same_on_range (λ p. from_bits (map (bit_in p j) (planes_of r))) (λ p. half_inverse (from_bits (map (bit_in p j) (planes_of q)))) 16 lane
    ∙ sym (map-map half_inverse (λ p. from_bits (map (bit_in p j) (planes_of q))) (range_with_len 0 16))

-- ---- four times a state

abbrev quad : List ℕ → List ℕ
quad l =
    get_or l 2 0 ∷ get_or l 3 0 ∷ bit_xor (get_or l 4 0) (get_or l 0 0) ∷ bit_xor (get_or l 5 0) (bit_xor (get_or l 1 0) (get_or l 0 0)) ∷ bit_xor (get_or l 6 0) (get_or l 1 0)
    ∷ bit_xor (get_or l 7 0) (get_or l 0 0) ∷ bit_xor (get_or l 1 0) (get_or l 0 0) ∷ get_or l 1 0 ∷ []

quad_is : map (λ x. from_bits (quad (bits_of x))) (range_with_len 0 256) ≡ map (times 4) (range_with_len 0 256)
unfolding times
quad_is = refl

from_bits-quad : (a7 a6 a5 a4 a3 a2 a1 a0 : ℕ) → a7 < 2 → a6 < 2 → a5 < 2 → a4 < 2 → a3 < 2 → a2 < 2 → a1 < 2 → a0 < 2 → from_bits (quad (a7 ∷ a6 ∷ a5 ∷ a4 ∷ a3 ∷ a2 ∷ a1 ∷ a0 ∷ [])) ≡ times 4 (from_bits (a7 ∷ a6 ∷ a5 ∷ a4 ∷ a3 ∷ a2 ∷ a1 ∷ a0 ∷ []))
from_bits-quad a7 a6 a5 a4 a3 a2 a1 a0 la7 la6 la5 la4 la3 la2 la1 la0 =
    let x : ℕ = from_bits (a7 ∷ a6 ∷ a5 ∷ a4 ∷ a3 ∷ a2 ∷ a1 ∷ a0 ∷ []) in
    let lx : x < 256 = omega arith in
    let ex = bits_back a7 a6 a5 a4 a3 a2 a1 a0 la7 la6 la5 la4 la3 la2 la1 la0 in
    ap (λ (l : List ℕ). from_bits (quad l)) (sym ex) ∙ agree_at (λ x. from_bits (quad (bits_of x))) (times 4) 256 x quad_is lx

quadrupled_states : (q r : Planes) → AreStates q → planes_of r ≡ quadrupled_planes q → AreStates r
quadrupled_states q r h e =
    let s67 = IsState-xor q.b6 q.b7 h.s6 h.s7 in
    states_from r (subst (Every IsState) (sym e) (h.s5, (h.s4, (IsState-xor q.b3 q.b7 h.s3 h.s7, (IsState-xor q.b2 (zip2 bit_xor q.b6 q.b7) h.s2 s67, (IsState-xor q.b1 q.b6 h.s1 h.s6, (IsState-xor q.b0 q.b7 h.s0 h.s7, (s67, (h.s6, tt)))))))))

quadrupled_law : (q r : Planes) (j : ℕ) → j < 8 → AreStates q → planes_of r ≡ quadrupled_planes q → block_at (planes_of r) j ≡ map (times 4) (block_at (planes_of q) j)
quadrupled_law q r j lj h e =
    let s67 = IsState-xor q.b6 q.b7 h.s6 h.s7 in
    let lane : (p : ℕ) → p < 16 → from_bits (map (bit_in p j) (planes_of r)) ≡ times 4 (from_bits (map (bit_in p j) (planes_of q))) = λ p lp.
    let hom = vector_hom p j lp lj in
    let lt : (v : List ℕ) → bit_in p j v < 2 = λ v. bit_at-lt (get_or v p 0) j in
    let both = hom.at_xor q.b6 q.b7 h.s6 h.s7 in
    ap (λ (l : List (List ℕ)). from_bits (map (bit_in p j) l)) e
    ∙ (λ i. from_bits (bit_in p j q.b5 ∷ bit_in p j q.b4 ∷ hom.at_xor q.b3 q.b7 h.s3 h.s7 i ∷ (hom.at_xor q.b2 (zip2 bit_xor q.b6 q.b7) h.s2 s67 ∙ ap (bit_xor (bit_in p j q.b2)) both) i ∷ hom.at_xor q.b1 q.b6 h.s1 h.s6 i ∷ hom.at_xor q.b0 q.b7 h.s0 h.s7 i ∷ both i ∷ bit_in p j q.b6 ∷ []))
    ∙ from_bits-quad (bit_in p j q.b7) (bit_in p j q.b6) (bit_in p j q.b5) (bit_in p j q.b4) (bit_in p j q.b3) (bit_in p j q.b2) (bit_in p j q.b1) (bit_in p j q.b0) (lt q.b7) (lt q.b6) (lt q.b5) (lt q.b4) (lt q.b3) (lt q.b2) (lt q.b1) (lt q.b0) in
    same_on_range (λ p. from_bits (map (bit_in p j) (planes_of r))) (λ p. times 4 (from_bits (map (bit_in p j) (planes_of q)))) 16 lane
    ∙ sym (map-map (times 4) (λ p. from_bits (map (bit_in p j) (planes_of q))) (range_with_len 0 16))

-- ---- InvMixColumns by MixColumns

own_is : map (λ a. bit_xor (times 2 a) (bit_xor (times 2 (times 4 a)) (times 1 (times 4 a)))) (range_with_len 0 256) ≡ map (times 14) (range_with_len 0 256)
unfolding times
own_is = refl

next_is : map (λ a. bit_xor (times 3 a) (bit_xor (times 3 (times 4 a)) (times 1 (times 4 a)))) (range_with_len 0 256) ≡ map (times 11) (range_with_len 0 256)
unfolding times
next_is = refl

opposite_is : map (λ a. bit_xor (times 1 a) (bit_xor (times 1 (times 4 a)) (times 2 (times 4 a)))) (range_with_len 0 256) ≡ map (times 13) (range_with_len 0 256)
unfolding times
opposite_is = refl

before_is : map (λ a. bit_xor (times 1 a) (bit_xor (times 1 (times 4 a)) (times 3 (times 4 a)))) (range_with_len 0 256) ≡ map (times 9) (range_with_len 0 256)
unfolding times
before_is = refl

abbrev premixed : ℕ → ℕ → ℕ
premixed a c = bit_xor a (times 4 (bit_xor a c))

expanded_product : (k a c : ℕ) → times k (premixed a c) ≡ bit_xor (times k a) (bit_xor (times k (times 4 a)) (times k (times 4 c)))
expanded_product k a c = times-xor k a (times 4 (bit_xor a c)) ∙ ap (bit_xor (times k a)) (ap (times k) (times-xor 4 a c) ∙ times-xor k (times 4 a) (times 4 c))

unmixed_byte : (a b c d : ℕ) → a < 256 → b < 256 → c < 256 → d < 256
    → sum4 (times 2 (premixed a c)) (times 3 (premixed b d)) (times 1 (premixed c a)) (times 1 (premixed d b)) ≡ sum4 (times 14 a) (times 11 b) (times 13 c) (times 9 d)
unmixed_byte a b c d la lb lc ld =
    let q0 : ℕ = times 2 (times 4 a) in let r0 : ℕ = times 2 (times 4 c) in
    let q1 : ℕ = times 3 (times 4 b) in let r1 : ℕ = times 3 (times 4 d) in
    let q2 : ℕ = times 1 (times 4 c) in let r2 : ℕ = times 1 (times 4 a) in
    let q3 : ℕ = times 1 (times 4 d) in let r3 : ℕ = times 1 (times 4 b) in
    let own = agree_at (λ a. bit_xor (times 2 a) (bit_xor (times 2 (times 4 a)) (times 1 (times 4 a)))) (times 14) 256 a own_is la in
    let next = agree_at (λ a. bit_xor (times 3 a) (bit_xor (times 3 (times 4 a)) (times 1 (times 4 a)))) (times 11) 256 b next_is lb in
    let opposite = agree_at (λ a. bit_xor (times 1 a) (bit_xor (times 1 (times 4 a)) (times 2 (times 4 a)))) (times 13) 256 c opposite_is lc in
    let before = agree_at (λ a. bit_xor (times 1 a) (bit_xor (times 1 (times 4 a)) (times 3 (times 4 a)))) (times 9) 256 d before_is ld in
    (λ i. sum4 (expanded_product 2 a c i) (expanded_product 3 b d i) (expanded_product 1 c a i) (expanded_product 1 d b i))
    ∙ sym (sum4-xor (times 2 a) (times 3 b) (times 1 c) (times 1 d) (bit_xor q0 r0) (bit_xor q1 r1) (bit_xor q2 r2) (bit_xor q3 r3))
    ∙ ap (bit_xor (sum4 (times 2 a) (times 3 b) (times 1 c) (times 1 d)))
    (sym (sum4-xor q0 q1 q2 q3 r0 r1 r2 r3) ∙ ap (bit_xor (sum4 q0 q1 q2 q3)) (sum4-rotated r3 r0 r1 r2 ∙ sum4-rotated r2 r3 r0 r1) ∙ sum4-xor q0 q1 q2 q3 r2 r3 r0 r1)
    ∙ sum4-xor (times 2 a) (times 3 b) (times 1 c) (times 1 d) (bit_xor q0 r2) (bit_xor q1 r3) (bit_xor q2 r0) (bit_xor q3 r1)
    ∙ (λ i. sum4 (own i) (next i) (opposite i) (before i))

-- a state and four times the sum of it and of the bytes two rows on, by columns and by rows
abbrev pre : List ℕ → List ℕ
pre y = xor y (map (times 4) (xor y (opposite_lane y)))

abbrev pub pre_rows : List ℕ → List ℕ
pre_rows y = xor y (map (times 4) (xor y (opposite_row y)))

unmix_state : (y : List ℕ) → IsState y → mix_columns (pre y) ≡ inverse_mix_columns y
unmix_state y h =
    let g : ℕ → ℕ = λ k. get_or y k 0 in
    let at : (a b c d : ℕ) → sum4 (times 2 (premixed (g a) (g c))) (times 3 (premixed (g b) (g d))) (times 1 (premixed (g c) (g a))) (times 1 (premixed (g d) (g b))) ≡ sum4 (times 14 (g a)) (times 11 (g b)) (times 13 (g c)) (times 9 (g d)) =
    λ a b c d. unmixed_byte (g a) (g b) (g c) (g d) (h.bytes a) (h.bytes b) (h.bytes c) (h.bytes d) in
    explicit (λ y. mix_columns (pre y) ≡ inverse_mix_columns y) y h.long
    (λ i. at 0 1 2 3 i ∷ at 1 2 3 0 i ∷ at 2 3 0 1 i ∷ at 3 0 1 2 i ∷ at 4 5 6 7 i ∷ at 5 6 7 4 i ∷ at 6 7 4 5 i ∷ at 7 4 5 6 i
    ∷ at 8 9 10 11 i ∷ at 9 10 11 8 i ∷ at 10 11 8 9 i ∷ at 11 8 9 10 i ∷ at 12 13 14 15 i ∷ at 13 14 15 12 i ∷ at 14 15 12 13 i ∷ at 15 12 13 14 i ∷ [])

pre_by_rows : (b : List ℕ) → length b ≡ 16 → rows (pre_rows b) ≡ pre (rows b)
pre_by_rows b l = explicit (λ x. rows (pre_rows x) ≡ pre (rows x)) b l refl

-- a block of planes is a state
block_state : (q : Planes) (j : ℕ) → IsState (block_at (planes_of q) j)
block_state q j =
    IsState-bytes_by (λ p. from_bits (map (bit_in p j) (planes_of q))) (λ p.
    let l7 = bit_at-lt (get_or q.b7 p 0) j in let l6 = bit_at-lt (get_or q.b6 p 0) j in let l5 = bit_at-lt (get_or q.b5 p 0) j in let l4 = bit_at-lt (get_or q.b4 p 0) j in
    let l3 = bit_at-lt (get_or q.b3 p 0) j in let l2 = bit_at-lt (get_or q.b2 p 0) j in let l1 = bit_at-lt (get_or q.b1 p 0) j in let l0 = bit_at-lt (get_or q.b0 p 0) j in
    omega (arith, l7, l6, l5, l4, l3, l2, l1, l0))

opposite_states : (q r : Planes) → AreStates q → planes_of r ≡ map opposite_row (planes_of q) → AreStates r
opposite_states q r h e = moved_states opposite_row q r (λ v hv. IsState-lanes_by (λ k. (k + 8) % 16) v hv) h e

-- what is mixed
pub sum_states : (q o u f s : Planes) → AreStates q → planes_of o ≡ map opposite_row (planes_of q) → planes_of u ≡ added q o → planes_of f ≡ quadrupled_planes u → planes_of s ≡ added q f → AreStates s
sum_states q o u f s h eo eu ef es = add_states q f s h (quadrupled_states u f (add_states q o u h (opposite_states q o h eo) eu) ef) es

pub unmix_law : (q o u f s r : Planes) (j : ℕ) → j < 8 → AreStates q → planes_of o ≡ map opposite_row (planes_of q) → planes_of u ≡ added q o → planes_of f ≡ quadrupled_planes u → planes_of s ≡ added q f
    → planes_of r ≡ mixed_rows s → block_at (planes_of r) j ≡ rows (inverse_mix_columns (rows (block_at (planes_of q) j)))
unmix_law q o u f s r j lj h eo eu ef es er =
    let ho = opposite_states q o h eo in
    let hu = add_states q o u h ho eu in
    let hf = quadrupled_states u f hu ef in
    let hs = add_states q f s h hf es in
    let b : List ℕ = block_at (planes_of q) j in
    let bo : block_at (planes_of o) j ≡ opposite_row b = ap (λ (ps : List (List ℕ)). block_at ps j) eo in
    let bu : block_at (planes_of u) j ≡ xor b (opposite_row b) = add_law q o u j lj h ho eu ∙ ap (xor b) bo in
    let bf : block_at (planes_of f) j ≡ map (times 4) (xor b (opposite_row b)) = quadrupled_law u f j lj hu ef ∙ ap (map (times 4)) bu in
    let bs : block_at (planes_of s) j ≡ pre_rows b = add_law q f s j lj h hf es ∙ ap (xor b) bf in
    let hb = block_state q j in
    mix_rows_law s r j lj hs er
    ∙ ap (λ (x : List ℕ). rows (mix_columns (rows x))) bs
    ∙ ap (λ (x : List ℕ). rows (mix_columns x)) (pre_by_rows b hb.long)
    ∙ ap rows (unmix_state (rows b) (IsState-rows b hb))

-- ---- the constant

cancel_twice : (a : ℕ) → bit_xor (bit_xor a 0x63) 0x63 ≡ a
cancel_twice a = xor_assoc a 0x63 0x63 ∙ xor_zero_r a

xor_turned : (a b : List ℕ) → length a ≡ 16 → length b ≡ 16 → xor a (turned b) ≡ turned (xor a b)
xor_turned a b la lb =
    let f : ℕ → ℕ = λ k. get_or a k 0 in
    let g : ℕ → ℕ = λ k. get_or b k 0 in
    let at : (k : ℕ) → bit_xor (f k) (bit_xor (g k) 0x63) ≡ bit_xor (bit_xor (f k) (g k)) 0x63 = λ k. sym (xor_assoc (f k) (g k) 0x63) in
    explicit (λ x. xor x (turned b) ≡ turned (xor x b)) a la
    (explicit (λ y. xor (bytes_by 16 f) (turned y) ≡ turned (xor (bytes_by 16 f) y)) b lb
    (λ i. at 0 i ∷ at 1 i ∷ at 2 i ∷ at 3 i ∷ at 4 i ∷ at 5 i ∷ at 6 i ∷ at 7 i ∷ at 8 i ∷ at 9 i ∷ at 10 i ∷ at 11 i ∷ at 12 i ∷ at 13 i ∷ at 14 i ∷ at 15 i ∷ []))

column_of_constant : sum4 (times 14 0x63) (times 11 0x63) (times 13 0x63) (times 9 0x63) ≡ 0x63
unfolding times
column_of_constant = refl

turned_unmixed_byte : (a b c d : ℕ) → sum4 (times 14 (bit_xor a 0x63)) (times 11 (bit_xor b 0x63)) (times 13 (bit_xor c 0x63)) (times 9 (bit_xor d 0x63)) ≡ bit_xor (sum4 (times 14 a) (times 11 b) (times 13 c) (times 9 d)) 0x63
turned_unmixed_byte a b c d =
    (λ i. sum4 (times-xor 14 a 0x63 i) (times-xor 11 b 0x63 i) (times-xor 13 c 0x63 i) (times-xor 9 d 0x63 i))
    ∙ sym (sum4-xor (times 14 a) (times 11 b) (times 13 c) (times 9 d) (times 14 0x63) (times 11 0x63) (times 13 0x63) (times 9 0x63))
    ∙ ap (bit_xor (sum4 (times 14 a) (times 11 b) (times 13 c) (times 9 d))) column_of_constant

turned_unmix : (s : List ℕ) → length s ≡ 16 → inverse_mix_columns (turned s) ≡ turned (inverse_mix_columns s)
turned_unmix s l =
    let g : ℕ → ℕ = λ k. get_or s k 0 in
    let at : (a b c d : ℕ) → sum4 (times 14 (bit_xor (g a) 0x63)) (times 11 (bit_xor (g b) 0x63)) (times 13 (bit_xor (g c) 0x63)) (times 9 (bit_xor (g d) 0x63)) ≡ bit_xor (sum4 (times 14 (g a)) (times 11 (g b)) (times 13 (g c)) (times 9 (g d))) 0x63 = λ a b c d. turned_unmixed_byte (g a) (g b) (g c) (g d) in
    explicit (λ y. inverse_mix_columns (turned y) ≡ turned (inverse_mix_columns y)) s l
    (λ i. at 0 1 2 3 i ∷ at 1 2 3 0 i ∷ at 2 3 0 1 i ∷ at 3 0 1 2 i ∷ at 4 5 6 7 i ∷ at 5 6 7 4 i ∷ at 6 7 4 5 i ∷ at 7 4 5 6 i
    ∷ at 8 9 10 11 i ∷ at 9 10 11 8 i ∷ at 10 11 8 9 i ∷ at 11 8 9 10 i ∷ at 12 13 14 15 i ∷ at 13 14 15 12 i ∷ at 14 15 12 13 i ∷ at 15 12 13 14 i ∷ [])

rows_rows : (s : List ℕ) → length s ≡ 16 → rows (rows s) ≡ s
rows_rows s l = explicit (λ x. rows (rows x) ≡ x) s l refl

inverse_sub_turned : (t : List ℕ) → length t ≡ 16 → half_inverse_sub (unshift_in (turned t)) ≡ rows (inverse_sub_bytes (inverse_shift_rows t))
inverse_sub_turned t l =
    let g : ℕ → ℕ = λ k. get_or t k 0 in
    let at : (k : ℕ) → inverse_sbox (bit_xor (bit_xor (g k) 0x63) 0x63) ≡ inverse_sbox (g k) = λ k. ap inverse_sbox (cancel_twice (g k)) in
    explicit (λ x. half_inverse_sub (unshift_in (turned x)) ≡ rows (inverse_sub_bytes (inverse_shift_rows x))) t l
    (λ i. at 0 i ∷ at 4 i ∷ at 8 i ∷ at 12 i ∷ at 13 i ∷ at 1 i ∷ at 5 i ∷ at 9 i ∷ at 10 i ∷ at 14 i ∷ at 2 i ∷ at 6 i ∷ at 7 i ∷ at 11 i ∷ at 15 i ∷ at 3 i ∷ [])

-- ---- the rounds

long_after : (w b : List ℕ) (m n : ℕ) → IsState b → AreRoundKeys w m → length (after_inverse_rounds w m b n) ≡ 16
unfolding after_inverse_rounds
long_after w b m zero hb keys = (IsState-xor b (round_key w (m + 1)) hb (keys (m + 1) (omega arith))).long
long_after w b m (suc n) hb keys = refl

unshift_in_states : (q r : Planes) → AreStates q → planes_of r ≡ map unshift_in (planes_of q) → AreStates r
unshift_in_states q r h e = moved_states unshift_in q r (λ v hv. IsState-rows (inverse_shift_rows v) (IsState-lanes_by (λ k. (k + 12 * (k % 4)) % 16) v hv)) h e

unshift_between_states : (q r : Planes) → AreStates q → planes_of r ≡ map unshift_between (planes_of q) → AreStates r
unshift_between_states q r h e = moved_states unshift_between q r (λ v hv. IsState-rows (inverse_shift_rows (rows v)) (IsState-lanes_by (λ k. (k + 12 * (k % 4)) % 16) (rows v) (IsState-rows v hv))) h e

-- s is the state before the inverse S-box of inverse round n + 1
abbrev pub IsInverseAt : List ℕ → ℕ → Planes → Planes → ℕ → Type 0
IsInverseAt w m q s n = AreStates s × ((j : ℕ) → j < 8 → block_at (planes_of s) j ≡ unshift_in (turned (after_inverse_rounds w m (vector_at q j) n)))

pub inverse_start : (w : List ℕ) (m : ℕ) (q t k r s : Planes) → AreStates q → AreRoundKeys w m → IsTransposed q t → AreOf (turned (round_key w (m + 1))) k → planes_of r ≡ added t k
    → planes_of s ≡ map unshift_in (planes_of r) → IsInverseAt w m q s 0
unfolding after_inverse_rounds
inverse_start w m q t k r s h keys et hk e1 e2 =
    let ht = transposed_states q t h et in
    let h1 = add_states t k r ht hk.states e1 in (
      unshift_in_states r s h1 e2,
      λ j lj.
          let b1 = add_law t k r j lj ht hk.states e1 ∙ (λ i. xor (blocks_are_vectors q t j lj h et i) (hk.blocks j lj i)) ∙ xor_turned (vector_at q j) (round_key w (m + 1)) (state_at q j lj h).long (keys (m + 1) (omega arith)).long in
          ap (λ (ps : List (List ℕ)). block_at ps j) e2 ∙ ap unshift_in b1,
    )

pub inverse_step : (w : List ℕ) (m : ℕ) (q s a k r u s2 : Planes) (n : ℕ) → n < m → AreStates q → AreRoundKeys w m → IsInverseAt w m q s n → IsInverseSub s a
    → AreOf (rows (turned (round_key w (m - n)))) k → planes_of r ≡ added a k
    → AreStates u → ((j : ℕ) → j < 8 → block_at (planes_of u) j ≡ rows (inverse_mix_columns (rows (block_at (planes_of r) j))))
    → planes_of s2 ≡ map unshift_between (planes_of u) → IsInverseAt w m q s2 (n + 1)
unfolding after_inverse_rounds
inverse_step w m q s a k r u s2 n lt h keys at e1 hk e2 hu eu e3 =
    let ha = inverse_sub_states s a at.0 e1 in (
      unshift_between_states u s2 hu e3,
      λ j lj.
          let t : List ℕ = after_inverse_rounds w m (vector_at q j) n in
          let lt' = long_after w (vector_at q j) m n (state_at q j lj h) keys in
          let key = keys (m - n) (omega arith) in
          let y : List ℕ = inverse_sub_bytes (inverse_shift_rows t) in
          let z : List ℕ = xor y (round_key w (m - n)) in
          let lz : length z ≡ 16 = length-zip2 bit_xor y (round_key w (m - n)) (sym key.long) in
          let ltz : length (turned z) ≡ 16 = length-map z (λ b. bit_xor b 0x63) ∙ lz in
          let b1 : block_at (planes_of a) j ≡ rows y = inverse_sub_law s a j lj at.0 e1 ∙ ap half_inverse_sub (at.1 j lj) ∙ inverse_sub_turned t lt' in
          let b2 : block_at (planes_of r) j ≡ rows (turned z) =
          add_law a k r j lj ha hk.states e2 ∙ (λ i. xor (b1 i) (hk.blocks j lj i))
          ∙ rows_xor y (turned (round_key w (m - n))) refl (length-map (round_key w (m - n)) (λ b. bit_xor b 0x63) ∙ key.long)
          ∙ ap rows (xor_turned y (round_key w (m - n)) refl key.long) in
          let b3 : block_at (planes_of u) j ≡ rows (turned (inverse_mix_columns z)) =
          eu j lj ∙ ap (λ (x : List ℕ). rows (inverse_mix_columns (rows x))) b2 ∙ ap (λ (x : List ℕ). rows (inverse_mix_columns x)) (rows_rows (turned z) ltz) ∙ ap rows (turned_unmix z lz) in
          ap (λ (ps : List (List ℕ)). block_at ps j) e3 ∙ ap unshift_between b3
          ∙ sym (ap (λ (c : ℕ). unshift_in (turned (after_inverse_rounds w m (vector_at q j) c))) (add-one n)),
    )

pub inverse_end : (w : List ℕ) (m : ℕ) (q s a c k r out : Planes) → AreStates q → AreRoundKeys w m → IsInverseAt w m q s m → IsInverseSub s a
    → planes_of c ≡ map rows (planes_of a) → AreOf (round_key w 0) k → planes_of r ≡ added c k → IsTransposed r out → (j : ℕ) → j < 8 → vector_at out j ≡ deciphered w m (vector_at q j)
inverse_end w m q s a c k r out h keys at e1 e2 hk e3 eo j lj =
    let ha = inverse_sub_states s a at.0 e1 in
    let hc = moved_states rows a c IsState-rows ha e2 in
    let t : List ℕ = after_inverse_rounds w m (vector_at q j) m in
    let lt' = long_after w (vector_at q j) m m (state_at q j lj h) keys in
    let b1 : block_at (planes_of a) j ≡ rows (inverse_sub_bytes (inverse_shift_rows t)) = inverse_sub_law s a j lj at.0 e1 ∙ ap half_inverse_sub (at.1 j lj) ∙ inverse_sub_turned t lt' in
    let b2 : block_at (planes_of c) j ≡ inverse_sub_bytes (inverse_shift_rows t) = ap (λ (ps : List (List ℕ)). block_at ps j) e2 ∙ ap rows b1 in
    vectors_are_blocks r out j lj (add_states c k r hc hk.states e3) eo
    ∙ add_law c k r j lj hc hk.states e3 ∙ (λ i. xor (b2 i) (hk.blocks j lj i))

-- the round key of inverse round n + 1
pub key_from_end : (w : List ℕ) (m n : ℕ) (keys : List KeyPlanes) → n < m → AreKeys w m keys → (d : KeyPlanes) → AreOf (rows (turned (round_key w (m - n)))) (key_at (slice_index_or keys (m - n) d))
key_from_end w m n keys lt are d =
    let e : m - n - 1 + 1 ≡ m - n = omega arith in
    subst (λ (r : ℕ). AreOf (rows (turned (round_key w r))) (key_at (slice_index_or keys r d))) e (are.between (m - n - 1) (omega arith) d)
