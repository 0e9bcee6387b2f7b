-- What each function on planes does to the eight blocks.
use Rattle.std.proofs.Common.{◌≡◌, ℕ, zero, suc, ◌+◌, ◌*◌, ◌/◌, ◌%◌, ◌^◌, ◌<◌, ◌≤◌, List, [], ◌∷◌, map, get_or, bit_xor, bit_and, replicate, refl, sym, ap, subst, ◌∙◌, arith, add-one}
use Rattle.std.proofs.lemmas.Nat.{and_le_l, shr_le}
use Rattle.std.proofs.lemmas.Nat.Bits.{bit_at-lt}
use Rattle.std.proofs.lemmas.List.{get_or-replicate, length-map}
use Rattle.std.proofs.lemmas.List.FromFn.{fill_by_all}
use Rattle.std.proofs.lemmas.Simd.{length-zip2, get_or-zip2}
use Rattle.std.specs.Int.{bit_at}
use Rattle.std.specs.List.{range_with_len}
use Rattle.std.specs.Simd.Lanes.{zip2}
use Rattle.aes_core.specs.State.{IsState}
use Rattle.aes_core.specs.Aes.{xor, shift_rows, mix_columns, after_rounds, enciphered, round_key}
use Rattle.aes_core.proofs.Boxes.{agree_at}
use Rattle.aes_core.proofs.Inverse.{IsState-xor, IsState-shift_rows, IsState-mix_columns, IsState-after_rounds, AreRoundKeys}
use Rattle.aes_planes.proofs.RowLaws.{by_rows, mixed_rows_are, rows_xor, round_by_half, last_by_half}
use Rattle.aes_planes.specs.Circuit.{run, outputs, sbox_gates, sbox_outputs}
use Rattle.aes_planes.specs.Transposition.{on_vectors, transposing, transposed_places, operations_of}
use Rattle.aes_planes.specs.Planes.{vector_ops, planes_of, with_next, others, mixed_planes, mixed_rows, rows, shift_in, shift_between, shift_out, turned, half_sub, AreLong}
use Rattle.aes_planes.specs.Blocks.{from_bits, bit_in, block_at, vector_at, AreStates, added, AreOf}
use Rattle.aes_planes.specs.declared.vectors.Planes.{Planes}
use Rattle.aes_planes.proofs.Truth.{bit_ops, bits_of}
use Rattle.aes_planes.proofs.Hom.{Every, Every-get, run-hom}
use Rattle.aes_planes.proofs.SubLaw.{bits_back, whole_is, vector_hom, sub_law, same_on_range, IsState-zeros, small_get}
use Rattle.aes_planes.proofs.LinearLaws.{mix_law, IsState-lanes_by, from_bits-xor, IsState-with_next, IsState-others}
use Rattle.aes_planes.proofs.TransposeLaw.{IsLinearHom, steps-keep, places-keep, IsTransposed, lane_is, transposed_vectors}

pub every_state : (q : Planes) → AreStates q → Every IsState (planes_of q)
every_state q h = (h.s7, (h.s6, (h.s5, (h.s4, (h.s3, (h.s2, (h.s1, (h.s0, tt))))))))

long_of : (q : Planes) → AreStates q → AreLong q
long_of q h = record { l7 = h.s7.long; l6 = h.s6.long; l5 = h.s5.long; l4 = h.s4.long; l3 = h.s3.long; l2 = h.s2.long; l1 = h.s1.long; l0 = h.s0.long }

pub states_from : (q : Planes) → Every IsState (planes_of q) → AreStates q
states_from q e = record { s7 = e.0; s6 = e.1.0; s5 = e.1.1.0; s4 = e.1.1.1.0; s3 = e.1.1.1.1.0; s2 = e.1.1.1.1.1.0; s1 = e.1.1.1.1.1.1.0; s0 = e.1.1.1.1.1.1.1.0 }

pub outputs-every : (P : List ℕ → Type 0) (places : List ℕ) (env : List (List ℕ)) → Every P env → P (replicate 16 0) → Every P (outputs vector_ops places env)
outputs-every P [] env all none = tt
outputs-every P (k ∷ places) env all none = (Every-get P env k (replicate 16 0) all none, outputs-every P places env all none)

sub_states : (q r : Planes) → AreStates q → planes_of r ≡ outputs vector_ops sbox_outputs (run vector_ops sbox_gates (planes_of q)) → AreStates r
sub_states q r h e =
    let hom = vector_hom 0 0 (omega arith) (omega arith) in
    states_from r (subst (Every IsState) (sym e)
    (outputs-every IsState sbox_outputs (run vector_ops sbox_gates (planes_of q)) ((run-hom vector_ops bit_ops (bit_in 0 0) IsState hom sbox_gates (planes_of q) (every_state q h)).1) IsState-zeros))

pub IsState-rows : (v : List ℕ) → IsState v → IsState (rows v)
IsState-rows v h = IsState-lanes_by (λ k. k % 4 * 4 + k / 4) v h

pub moved_states : (f : List ℕ → List ℕ) (q r : Planes) → ((v : List ℕ) → IsState v → IsState (f v)) → AreStates q → planes_of r ≡ map f (planes_of q) → AreStates r
moved_states f q r keep h e = states_from r (subst (Every IsState) (sym e) (keep q.b7 h.s7, (keep q.b6 h.s6, (keep q.b5 h.s5, (keep q.b4 h.s4, (keep q.b3 h.s3, (keep q.b2 h.s2, (keep q.b1 h.s1, (keep q.b0 h.s0, tt)))))))))

in_states : (q r : Planes) → AreStates q → planes_of r ≡ map shift_in (planes_of q) → AreStates r
in_states q r h e = moved_states shift_in q r (λ v hv. IsState-rows (shift_rows v) (IsState-shift_rows v hv)) h e

between_states : (q r : Planes) → AreStates q → planes_of r ≡ map shift_between (planes_of q) → AreStates r
between_states q r h e = moved_states shift_between q r (λ v hv. IsState-rows (shift_rows (rows v)) (IsState-shift_rows (rows v) (IsState-rows v hv))) h e

out_states : (q r : Planes) → AreStates q → planes_of r ≡ map shift_out (planes_of q) → AreStates r
out_states q r h e = moved_states shift_out q r (λ v hv. IsState-shift_rows (rows v) (IsState-rows v hv)) h e

in_law : (q r : Planes) (j : ℕ) → planes_of r ≡ map shift_in (planes_of q) → block_at (planes_of r) j ≡ shift_in (block_at (planes_of q) j)
in_law q r j e = ap (λ (ps : List (List ℕ)). block_at ps j) e

between_law : (q r : Planes) (j : ℕ) → planes_of r ≡ map shift_between (planes_of q) → block_at (planes_of r) j ≡ shift_between (block_at (planes_of q) j)
between_law q r j e = ap (λ (ps : List (List ℕ)). block_at ps j) e

out_law : (q r : Planes) (j : ℕ) → planes_of r ≡ map shift_out (planes_of q) → block_at (planes_of r) j ≡ shift_out (block_at (planes_of q) j)
out_law q r j e = ap (λ (ps : List (List ℕ)). block_at ps j) e

mix_states : (q r : Planes) → AreStates q → planes_of r ≡ mixed_planes q → AreStates r
mix_states q r h e =
    let n7 = IsState-with_next q.b7 h.s7 in let o7 = IsState-others q.b7 h.s7 in
    let n6 = IsState-with_next q.b6 h.s6 in let o6 = IsState-others q.b6 h.s6 in
    let n5 = IsState-with_next q.b5 h.s5 in let o5 = IsState-others q.b5 h.s5 in
    let n4 = IsState-with_next q.b4 h.s4 in let o4 = IsState-others q.b4 h.s4 in
    let n3 = IsState-with_next q.b3 h.s3 in let o3 = IsState-others q.b3 h.s3 in
    let n2 = IsState-with_next q.b2 h.s2 in let o2 = IsState-others q.b2 h.s2 in
    let n1 = IsState-with_next q.b1 h.s1 in let o1 = IsState-others q.b1 h.s1 in
    let n0 = IsState-with_next q.b0 h.s0 in let o0 = IsState-others q.b0 h.s0 in
    states_from r (subst (Every IsState) (sym e) (IsState-xor (others q.b7) (with_next q.b6) o7 n6, (IsState-xor (others q.b6) (with_next q.b5) o6 n5, (IsState-xor (others q.b5) (with_next q.b4) o5 n4, (IsState-xor (zip2 bit_xor (others q.b4) (with_next q.b3)) (with_next q.b7) (IsState-xor (others q.b4) (with_next q.b3) o4 n3) n7, (IsState-xor (zip2 bit_xor (others q.b3) (with_next q.b2)) (with_next q.b7) (IsState-xor (others q.b3) (with_next q.b2) o3 n2) n7, (IsState-xor (others q.b2) (with_next q.b1) o2 n1, (IsState-xor (zip2 bit_xor (others q.b1) (with_next q.b0)) (with_next q.b7) (IsState-xor (others q.b1) (with_next q.b0) o1 n0) n7, (IsState-xor (others q.b0) (with_next q.b7) o0 n7, tt)))))))))

pub add_states : (q k r : Planes) → AreStates q → AreStates k → planes_of r ≡ added q k → AreStates r
add_states q k r h hk e = states_from r (subst (Every IsState) (sym e) (IsState-xor q.b7 k.b7 h.s7 hk.s7, (IsState-xor q.b6 k.b6 h.s6 hk.s6, (IsState-xor q.b5 k.b5 h.s5 hk.s5, (IsState-xor q.b4 k.b4 h.s4 hk.s4, (IsState-xor q.b3 k.b3 h.s3 hk.s3, (IsState-xor q.b2 k.b2 h.s2 hk.s2, (IsState-xor q.b1 k.b1 h.s1 hk.s1, (IsState-xor q.b0 k.b0 h.s0 hk.s0, tt)))))))))

zip2-maps : (f g : ℕ → ℕ) (xs : List ℕ) → zip2 bit_xor (map f xs) (map g xs) ≡ map (λ x. bit_xor (f x) (g x)) xs
zip2-maps f g [] = refl
zip2-maps f g (x ∷ xs) = ap (λ (l : List ℕ). bit_xor (f x) (g x) ∷ l) (zip2-maps f g xs)

pub add_law : (q k r : Planes) (j : ℕ) → j < 8 → AreStates q → AreStates k → planes_of r ≡ added q k
    → block_at (planes_of r) j ≡ xor (block_at (planes_of q) j) (block_at (planes_of k) j)
add_law q k r j lj hq hk e =
    let lane : (p : ℕ) → p < 16 → from_bits (map (bit_in p j) (added q k)) ≡ bit_xor (from_bits (map (bit_in p j) (planes_of q))) (from_bits (map (bit_in p j) (planes_of k))) = λ p lp.
    let hom = vector_hom p j lp lj in
    let lt : (v : List ℕ) → bit_in p j v < 2 = λ v. bit_at-lt (get_or v p 0) j in
    (λ i. from_bits (hom.at_xor q.b7 k.b7 hq.s7 hk.s7 i ∷ hom.at_xor q.b6 k.b6 hq.s6 hk.s6 i ∷ hom.at_xor q.b5 k.b5 hq.s5 hk.s5 i ∷ hom.at_xor q.b4 k.b4 hq.s4 hk.s4 i ∷ hom.at_xor q.b3 k.b3 hq.s3 hk.s3 i ∷ hom.at_xor q.b2 k.b2 hq.s2 hk.s2 i ∷ hom.at_xor q.b1 k.b1 hq.s1 hk.s1 i ∷ hom.at_xor q.b0 k.b0 hq.s0 hk.s0 i ∷ []))
    ∙ from_bits-xor (bit_in p j q.b7) (bit_in p j q.b6) (bit_in p j q.b5) (bit_in p j q.b4) (bit_in p j q.b3) (bit_in p j q.b2) (bit_in p j q.b1) (bit_in p j q.b0) (bit_in p j k.b7) (bit_in p j k.b6) (bit_in p j k.b5) (bit_in p j k.b4) (bit_in p j k.b3) (bit_in p j k.b2) (bit_in p j k.b1) (bit_in p j k.b0) (lt q.b7) (lt q.b6) (lt q.b5) (lt q.b4) (lt q.b3) (lt q.b2) (lt q.b1) (lt q.b0) (lt k.b7) (lt k.b6) (lt k.b5) (lt k.b4) (lt k.b3) (lt k.b2) (lt k.b1) (lt k.b0) in
    ap (λ (ps : List (List ℕ)). block_at ps j) e
    ∙ same_on_range (λ p. from_bits (map (bit_in p j) (added q k))) (λ p. bit_xor (from_bits (map (bit_in p j) (planes_of q))) (from_bits (map (bit_in p j) (planes_of k)))) 16 lane
    ∙ sym (zip2-maps (λ p. from_bits (map (bit_in p j) (planes_of q))) (λ p. from_bits (map (bit_in p j) (planes_of k))) (range_with_len 0 16))

-- ---- the transposition, both ways

state_hom : IsLinearHom on_vectors on_vectors (λ v. v) IsState
state_hom =
    let by : (f : ℕ → ℕ → ℕ) (k : ℕ) (v : List ℕ) → ((x : ℕ) → x < 256 → f x k < 256) → IsState v → IsState (zip2 f v (replicate 16 k)) =
    λ f k v small h.
    let lv = h.long in
    let l = length-zip2 f v (replicate 16 k) lv in
    record {
      long = l ∙ lv;
      bytes = small_get (zip2 f v (replicate 16 k)) (λ i lt.
          let e = get_or-zip2 f v (replicate 16 k) i 0 0 0 (omega arith) (omega arith) ∙ ap (f (get_or v i 0)) (get_or-replicate {A = ℕ} 16 i k 0 (omega arith)) in
          let s = small (get_or v i 0) (h.bytes i) in
          omega (arith, e, s));
    } in
    record {
      at_add = λ a b ha hb. (refl, IsState-xor a b ha hb);
      at_right = λ k a ha. (refl, by (λ x n. x / 2 ^ n) k a (λ x lt. let le = shr_le x k in omega (arith, le)) ha);
      at_left = λ k a ha. (refl, by (λ x n. x * 2 ^ n % 2 ^ 8) k a (λ x lt. omega arith) ha);
      at_keep = λ k a ha. (refl, by bit_and k a (λ x lt. let le = and_le_l x k in omega (arith, le)) ha);
      at_none = (refl, IsState-zeros);
    }

pub transposed_states : (q r : Planes) → AreStates q → IsTransposed q r → AreStates r
transposed_states q r h e =
    states_from r (subst (Every IsState) (sym e)
    (places-keep on_vectors on_vectors (λ v. v) IsState state_hom transposed_places (operations_of on_vectors transposing (planes_of q))
    (steps-keep on_vectors on_vectors (λ v. v) IsState state_hom transposing (planes_of q) (every_state q h))))

pub eight : (P : ℕ → Type 0) → P 0 → P 1 → P 2 → P 3 → P 4 → P 5 → P 6 → P 7 → (j : ℕ) → j < 8 → P j
eight P a b c d e f g h zero lt = a
eight P a b c d e f g h (suc zero) lt = b
eight P a b c d e f g h (suc (suc zero)) lt = c
eight P a b c d e f g h (suc (suc (suc zero))) lt = d
eight P a b c d e f g h (suc (suc (suc (suc zero)))) lt = e
eight P a b c d e f g h (suc (suc (suc (suc (suc zero))))) lt = f
eight P a b c d e f g h (suc (suc (suc (suc (suc (suc zero)))))) lt = g
eight P a b c d e f g h (suc (suc (suc (suc (suc (suc (suc zero))))))) lt = h
eight P a b c d e f g h (suc (suc (suc (suc (suc (suc (suc (suc n)))))))) lt = absurd (omega arith)

-- vector j of the result is block j of the planes
pub vectors_are_blocks : (q r : Planes) (j : ℕ) → j < 8 → AreStates q → IsTransposed q r → vector_at r j ≡ block_at (planes_of q) j
vectors_are_blocks q r j lj h e =
    let all = transposed_vectors q r (every_state q h) (every_state r (transposed_states q r h e)) e in
    let P : ℕ → Type 0 = λ j. vector_at r j ≡ block_at (planes_of q) j in
    eight P (ap (λ (l : List (List ℕ)). get_or l 7 []) all) (ap (λ (l : List (List ℕ)). get_or l 6 []) all) (ap (λ (l : List (List ℕ)). get_or l 5 []) all) (ap (λ (l : List (List ℕ)). get_or l 4 []) all) (ap (λ (l : List (List ℕ)). get_or l 3 []) all) (ap (λ (l : List (List ℕ)). get_or l 2 []) all) (ap (λ (l : List (List ℕ)). get_or l 1 []) all) (ap (λ (l : List (List ℕ)). get_or l 0 []) all) j lj

-- block j of the result is vector j of the planes
pub blocks_are_vectors : (q r : Planes) (j : ℕ) → j < 8 → AreStates q → IsTransposed q r → block_at (planes_of r) j ≡ vector_at q j
blocks_are_vectors q r j lj h e =
    let states = every_state q h in
    let row : ℕ → ℕ → ℕ = λ p i. from_bits (map (bit_in p i) (planes_of q)) in
    let lt : (p i : ℕ) (v : List ℕ) → bit_in p i v < 2 = λ p i v. bit_at-lt (get_or v p 0) i in
    let back : (p i : ℕ) → bits_of (row p i) ≡ map (bit_in p i) (planes_of q) = λ p i.
    bits_back (bit_in p i q.b7) (bit_in p i q.b6) (bit_in p i q.b5) (bit_in p i q.b4) (bit_in p i q.b3) (bit_in p i q.b2) (bit_in p i q.b1) (bit_in p i q.b0) (lt p i q.b7) (lt p i q.b6) (lt p i q.b5) (lt p i q.b4) (lt p i q.b3) (lt p i q.b2) (lt p i q.b1) (lt p i q.b0) in
    let c0 : block_at (planes_of r) 0 ≡ q.b0 =
    same_on_range (λ p. from_bits (map (bit_in p 0) (planes_of r))) (λ p. get_or q.b0 p 0) 16 (λ p lp.
    let l = lane_is q r p lp states e in
    (λ k. from_bits (bit_at (get_or (l k) 0 0) 0 ∷ bit_at (get_or (l k) 1 0) 0 ∷ bit_at (get_or (l k) 2 0) 0 ∷ bit_at (get_or (l k) 3 0) 0 ∷ bit_at (get_or (l k) 4 0) 0 ∷ bit_at (get_or (l k) 5 0) 0 ∷ bit_at (get_or (l k) 6 0) 0 ∷ bit_at (get_or (l k) 7 0) 0 ∷ []))
    ∙ (λ k. from_bits (get_or (back p 7 k) 7 0 ∷ get_or (back p 6 k) 7 0 ∷ get_or (back p 5 k) 7 0 ∷ get_or (back p 4 k) 7 0 ∷ get_or (back p 3 k) 7 0 ∷ get_or (back p 2 k) 7 0 ∷ get_or (back p 1 k) 7 0 ∷ get_or (back p 0 k) 7 0 ∷ []))
    ∙ agree_at (λ x. from_bits (bits_of x)) (λ x. x) 256 (get_or q.b0 p 0) whole_is (h.s0.bytes p))
    ∙ sym (fill_by_all (λ p. get_or q.b0 p 0) q.b0 16 0 h.s0.long (λ p lp. refl)) in
    let c1 : block_at (planes_of r) 1 ≡ q.b1 =
    same_on_range (λ p. from_bits (map (bit_in p 1) (planes_of r))) (λ p. get_or q.b1 p 0) 16 (λ p lp.
    let l = lane_is q r p lp states e in
    (λ k. from_bits (bit_at (get_or (l k) 0 0) 1 ∷ bit_at (get_or (l k) 1 0) 1 ∷ bit_at (get_or (l k) 2 0) 1 ∷ bit_at (get_or (l k) 3 0) 1 ∷ bit_at (get_or (l k) 4 0) 1 ∷ bit_at (get_or (l k) 5 0) 1 ∷ bit_at (get_or (l k) 6 0) 1 ∷ bit_at (get_or (l k) 7 0) 1 ∷ []))
    ∙ (λ k. from_bits (get_or (back p 7 k) 6 0 ∷ get_or (back p 6 k) 6 0 ∷ get_or (back p 5 k) 6 0 ∷ get_or (back p 4 k) 6 0 ∷ get_or (back p 3 k) 6 0 ∷ get_or (back p 2 k) 6 0 ∷ get_or (back p 1 k) 6 0 ∷ get_or (back p 0 k) 6 0 ∷ []))
    ∙ agree_at (λ x. from_bits (bits_of x)) (λ x. x) 256 (get_or q.b1 p 0) whole_is (h.s1.bytes p))
    ∙ sym (fill_by_all (λ p. get_or q.b1 p 0) q.b1 16 0 h.s1.long (λ p lp. refl)) in
    let c2 : block_at (planes_of r) 2 ≡ q.b2 =
    same_on_range (λ p. from_bits (map (bit_in p 2) (planes_of r))) (λ p. get_or q.b2 p 0) 16 (λ p lp.
    let l = lane_is q r p lp states e in
    (λ k. from_bits (bit_at (get_or (l k) 0 0) 2 ∷ bit_at (get_or (l k) 1 0) 2 ∷ bit_at (get_or (l k) 2 0) 2 ∷ bit_at (get_or (l k) 3 0) 2 ∷ bit_at (get_or (l k) 4 0) 2 ∷ bit_at (get_or (l k) 5 0) 2 ∷ bit_at (get_or (l k) 6 0) 2 ∷ bit_at (get_or (l k) 7 0) 2 ∷ []))
    ∙ (λ k. from_bits (get_or (back p 7 k) 5 0 ∷ get_or (back p 6 k) 5 0 ∷ get_or (back p 5 k) 5 0 ∷ get_or (back p 4 k) 5 0 ∷ get_or (back p 3 k) 5 0 ∷ get_or (back p 2 k) 5 0 ∷ get_or (back p 1 k) 5 0 ∷ get_or (back p 0 k) 5 0 ∷ []))
    ∙ agree_at (λ x. from_bits (bits_of x)) (λ x. x) 256 (get_or q.b2 p 0) whole_is (h.s2.bytes p))
    ∙ sym (fill_by_all (λ p. get_or q.b2 p 0) q.b2 16 0 h.s2.long (λ p lp. refl)) in
    let c3 : block_at (planes_of r) 3 ≡ q.b3 =
    same_on_range (λ p. from_bits (map (bit_in p 3) (planes_of r))) (λ p. get_or q.b3 p 0) 16 (λ p lp.
    let l = lane_is q r p lp states e in
    (λ k. from_bits (bit_at (get_or (l k) 0 0) 3 ∷ bit_at (get_or (l k) 1 0) 3 ∷ bit_at (get_or (l k) 2 0) 3 ∷ bit_at (get_or (l k) 3 0) 3 ∷ bit_at (get_or (l k) 4 0) 3 ∷ bit_at (get_or (l k) 5 0) 3 ∷ bit_at (get_or (l k) 6 0) 3 ∷ bit_at (get_or (l k) 7 0) 3 ∷ []))
    ∙ (λ k. from_bits (get_or (back p 7 k) 4 0 ∷ get_or (back p 6 k) 4 0 ∷ get_or (back p 5 k) 4 0 ∷ get_or (back p 4 k) 4 0 ∷ get_or (back p 3 k) 4 0 ∷ get_or (back p 2 k) 4 0 ∷ get_or (back p 1 k) 4 0 ∷ get_or (back p 0 k) 4 0 ∷ []))
    ∙ agree_at (λ x. from_bits (bits_of x)) (λ x. x) 256 (get_or q.b3 p 0) whole_is (h.s3.bytes p))
    ∙ sym (fill_by_all (λ p. get_or q.b3 p 0) q.b3 16 0 h.s3.long (λ p lp. refl)) in
    let c4 : block_at (planes_of r) 4 ≡ q.b4 =
    same_on_range (λ p. from_bits (map (bit_in p 4) (planes_of r))) (λ p. get_or q.b4 p 0) 16 (λ p lp.
    let l = lane_is q r p lp states e in
    (λ k. from_bits (bit_at (get_or (l k) 0 0) 4 ∷ bit_at (get_or (l k) 1 0) 4 ∷ bit_at (get_or (l k) 2 0) 4 ∷ bit_at (get_or (l k) 3 0) 4 ∷ bit_at (get_or (l k) 4 0) 4 ∷ bit_at (get_or (l k) 5 0) 4 ∷ bit_at (get_or (l k) 6 0) 4 ∷ bit_at (get_or (l k) 7 0) 4 ∷ []))
    ∙ (λ k. from_bits (get_or (back p 7 k) 3 0 ∷ get_or (back p 6 k) 3 0 ∷ get_or (back p 5 k) 3 0 ∷ get_or (back p 4 k) 3 0 ∷ get_or (back p 3 k) 3 0 ∷ get_or (back p 2 k) 3 0 ∷ get_or (back p 1 k) 3 0 ∷ get_or (back p 0 k) 3 0 ∷ []))
    ∙ agree_at (λ x. from_bits (bits_of x)) (λ x. x) 256 (get_or q.b4 p 0) whole_is (h.s4.bytes p))
    ∙ sym (fill_by_all (λ p. get_or q.b4 p 0) q.b4 16 0 h.s4.long (λ p lp. refl)) in
    let c5 : block_at (planes_of r) 5 ≡ q.b5 =
    same_on_range (λ p. from_bits (map (bit_in p 5) (planes_of r))) (λ p. get_or q.b5 p 0) 16 (λ p lp.
    let l = lane_is q r p lp states e in
    (λ k. from_bits (bit_at (get_or (l k) 0 0) 5 ∷ bit_at (get_or (l k) 1 0) 5 ∷ bit_at (get_or (l k) 2 0) 5 ∷ bit_at (get_or (l k) 3 0) 5 ∷ bit_at (get_or (l k) 4 0) 5 ∷ bit_at (get_or (l k) 5 0) 5 ∷ bit_at (get_or (l k) 6 0) 5 ∷ bit_at (get_or (l k) 7 0) 5 ∷ []))
    ∙ (λ k. from_bits (get_or (back p 7 k) 2 0 ∷ get_or (back p 6 k) 2 0 ∷ get_or (back p 5 k) 2 0 ∷ get_or (back p 4 k) 2 0 ∷ get_or (back p 3 k) 2 0 ∷ get_or (back p 2 k) 2 0 ∷ get_or (back p 1 k) 2 0 ∷ get_or (back p 0 k) 2 0 ∷ []))
    ∙ agree_at (λ x. from_bits (bits_of x)) (λ x. x) 256 (get_or q.b5 p 0) whole_is (h.s5.bytes p))
    ∙ sym (fill_by_all (λ p. get_or q.b5 p 0) q.b5 16 0 h.s5.long (λ p lp. refl)) in
    let c6 : block_at (planes_of r) 6 ≡ q.b6 =
    same_on_range (λ p. from_bits (map (bit_in p 6) (planes_of r))) (λ p. get_or q.b6 p 0) 16 (λ p lp.
    let l = lane_is q r p lp states e in
    (λ k. from_bits (bit_at (get_or (l k) 0 0) 6 ∷ bit_at (get_or (l k) 1 0) 6 ∷ bit_at (get_or (l k) 2 0) 6 ∷ bit_at (get_or (l k) 3 0) 6 ∷ bit_at (get_or (l k) 4 0) 6 ∷ bit_at (get_or (l k) 5 0) 6 ∷ bit_at (get_or (l k) 6 0) 6 ∷ bit_at (get_or (l k) 7 0) 6 ∷ []))
    ∙ (λ k. from_bits (get_or (back p 7 k) 1 0 ∷ get_or (back p 6 k) 1 0 ∷ get_or (back p 5 k) 1 0 ∷ get_or (back p 4 k) 1 0 ∷ get_or (back p 3 k) 1 0 ∷ get_or (back p 2 k) 1 0 ∷ get_or (back p 1 k) 1 0 ∷ get_or (back p 0 k) 1 0 ∷ []))
    ∙ agree_at (λ x. from_bits (bits_of x)) (λ x. x) 256 (get_or q.b6 p 0) whole_is (h.s6.bytes p))
    ∙ sym (fill_by_all (λ p. get_or q.b6 p 0) q.b6 16 0 h.s6.long (λ p lp. refl)) in
    let c7 : block_at (planes_of r) 7 ≡ q.b7 =
    same_on_range (λ p. from_bits (map (bit_in p 7) (planes_of r))) (λ p. get_or q.b7 p 0) 16 (λ p lp.
    let l = lane_is q r p lp states e in
    (λ k. from_bits (bit_at (get_or (l k) 0 0) 7 ∷ bit_at (get_or (l k) 1 0) 7 ∷ bit_at (get_or (l k) 2 0) 7 ∷ bit_at (get_or (l k) 3 0) 7 ∷ bit_at (get_or (l k) 4 0) 7 ∷ bit_at (get_or (l k) 5 0) 7 ∷ bit_at (get_or (l k) 6 0) 7 ∷ bit_at (get_or (l k) 7 0) 7 ∷ []))
    ∙ (λ k. from_bits (get_or (back p 7 k) 0 0 ∷ get_or (back p 6 k) 0 0 ∷ get_or (back p 5 k) 0 0 ∷ get_or (back p 4 k) 0 0 ∷ get_or (back p 3 k) 0 0 ∷ get_or (back p 2 k) 0 0 ∷ get_or (back p 1 k) 0 0 ∷ get_or (back p 0 k) 0 0 ∷ []))
    ∙ agree_at (λ x. from_bits (bits_of x)) (λ x. x) 256 (get_or q.b7 p 0) whole_is (h.s7.bytes p))
    ∙ sym (fill_by_all (λ p. get_or q.b7 p 0) q.b7 16 0 h.s7.long (λ p lp. refl)) in
    let P : ℕ → Type 0 = λ j. block_at (planes_of r) j ≡ vector_at q j in
    eight P c0 c1 c2 c3 c4 c5 c6 c7 j lj

-- ---- MixColumns by rows

by_rows_states : (q : Planes) → AreStates q → AreStates (by_rows q)
by_rows_states q h = record { s7 = IsState-rows q.b7 h.s7; s6 = IsState-rows q.b6 h.s6; s5 = IsState-rows q.b5 h.s5; s4 = IsState-rows q.b4 h.s4; s3 = IsState-rows q.b3 h.s3; s2 = IsState-rows q.b2 h.s2; s1 = IsState-rows q.b1 h.s1; s0 = IsState-rows q.b0 h.s0 }

abbrev by_columns : Planes → Planes
by_columns q =
    let m : List (List ℕ) = mixed_planes (by_rows q) in
    record { b7 = get_or m 0 []; b6 = get_or m 1 []; b5 = get_or m 2 []; b4 = get_or m 3 []; b3 = get_or m 4 []; b2 = get_or m 5 []; b1 = get_or m 6 []; b0 = get_or m 7 [] }

pub mix_rows_states : (q r : Planes) → AreStates q → planes_of r ≡ mixed_rows q → AreStates r
mix_rows_states q r h e = moved_states rows (by_columns q) r IsState-rows (mix_states (by_rows q) (by_columns q) (by_rows_states q h) refl) (e ∙ mixed_rows_are q (long_of q h))

pub mix_rows_law : (q r : Planes) (j : ℕ) → j < 8 → AreStates q → planes_of r ≡ mixed_rows q → block_at (planes_of r) j ≡ rows (mix_columns (rows (block_at (planes_of q) j)))
mix_rows_law q r j lj h e =
    ap (λ (ps : List (List ℕ)). block_at ps j) (e ∙ mixed_rows_are q (long_of q h))
    ∙ ap rows (mix_law (by_rows q) (by_columns q) j lj (every_state (by_rows q) (by_rows_states q h)) refl)

-- ---- the rounds

-- s is the state after the S-box of round n + 1
abbrev pub IsAt : List ℕ → Planes → Planes → ℕ → Type 0
IsAt w q s n = AreStates s × ((j : ℕ) → j < 8 → block_at (planes_of s) j ≡ half_sub (shift_in (after_rounds w (vector_at q j) n)))

abbrev pub IsSub : Planes → Planes → Type 0
IsSub q r = planes_of r ≡ outputs vector_ops sbox_outputs (run vector_ops sbox_gates (planes_of q))

pub state_at : (q : Planes) (j : ℕ) → j < 8 → AreStates q → IsState (vector_at q j)
state_at q j lj h = eight (λ j. IsState (vector_at q j)) h.s0 h.s1 h.s2 h.s3 h.s4 h.s5 h.s6 h.s7 j lj

pub rounds_start : (w : List ℕ) (q t k r1 r2 s : Planes) → AreStates q → IsTransposed q t → AreOf (round_key w 0) k → planes_of r1 ≡ added t k
    → planes_of r2 ≡ map shift_in (planes_of r1) → IsSub r2 s → IsAt w q s 0
unfolding after_rounds
rounds_start w q t k r1 r2 s h et hk e1 e2 e3 =
    let ht = transposed_states q t h et in
    let h1 = add_states t k r1 ht hk.states e1 in
    let h2 = in_states r1 r2 h1 e2 in (
      sub_states r2 s h2 e3,
      λ j lj.
          let b1 = add_law t k r1 j lj ht hk.states e1 ∙ (λ i. xor (blocks_are_vectors q t j lj h et i) (hk.blocks j lj i)) in
          sub_law r2 s j lj (every_state r2 h2) e3 ∙ ap half_sub (in_law r1 r2 j e2 ∙ ap shift_in b1),
    )

-- a round's MixColumns and key
keyed_at : (w : List ℕ) (m : ℕ) (q s t k r1 : Planes) (n j : ℕ) → j < 8 → n ≤ m → AreStates q → AreRoundKeys w m → IsAt w q s n → planes_of t ≡ mixed_rows s
    → AreOf (rows (turned (round_key w (n + 1)))) k → planes_of r1 ≡ added t k → block_at (planes_of r1) j ≡ rows (after_rounds w (vector_at q j) (n + 1))
unfolding after_rounds
keyed_at w m q s t k r1 n j lj le hq keys at e0 hk e1 =
    let state : List ℕ = after_rounds w (vector_at q j) n in
    let long = (IsState-after_rounds w (vector_at q j) m n (state_at q j lj hq) keys le).long in
    let key = keys (n + 1) (omega arith) in
    let h0 = mix_rows_states s t at.0 e0 in
    let b0 : block_at (planes_of t) j ≡ rows (mix_columns (half_sub (shift_rows state))) = mix_rows_law s t j lj at.0 e0 ∙ ap (λ (b : List ℕ). rows (mix_columns (rows b))) (at.1 j lj) in
    add_law t k r1 j lj h0 hk.states e1 ∙ (λ i. xor (b0 i) (hk.blocks j lj i))
    ∙ rows_xor (mix_columns (half_sub (shift_rows state))) (turned (round_key w (n + 1))) (IsState-mix_columns (half_sub (shift_rows state))).long (length-map (round_key w (n + 1)) (λ b. bit_xor b 0x63) ∙ key.long)
    ∙ ap rows (round_by_half state (round_key w (n + 1)) long key.long) ∙ sym (ap (λ (c : ℕ). rows (after_rounds w (vector_at q j) c)) (add-one n))

pub rounds_step : (w : List ℕ) (m : ℕ) (q s t k r1 r2 r : Planes) (n : ℕ) → n ≤ m → AreStates q → AreRoundKeys w m → IsAt w q s n → planes_of t ≡ mixed_rows s
    → AreOf (rows (turned (round_key w (n + 1)))) k → planes_of r1 ≡ added t k → planes_of r2 ≡ map shift_between (planes_of r1) → IsSub r2 r → IsAt w q r (n + 1)
rounds_step w m q s t k r1 r2 r n le hq keys at e0 hk e1 e2 e3 =
    let h1 = add_states t k r1 (mix_rows_states s t at.0 e0) hk.states e1 in
    let h2 = between_states r1 r2 h1 e2 in (
      sub_states r2 r h2 e3,
      λ j lj. sub_law r2 r j lj (every_state r2 h2) e3 ∙ ap half_sub (between_law r1 r2 j e2 ∙ ap shift_between (keyed_at w m q s t k r1 n j lj le hq keys at e0 hk e1)),
    )

pub rounds_end : (w : List ℕ) (m : ℕ) (q s t k r1 r2 r l r3 out : Planes) (n : ℕ) → n + 1 ≤ m → AreStates q → AreRoundKeys w m → IsAt w q s n → planes_of t ≡ mixed_rows s
    → AreOf (rows (turned (round_key w (n + 1)))) k → planes_of r1 ≡ added t k → planes_of r2 ≡ map shift_out (planes_of r1) → IsSub r2 r
    → AreOf (turned (round_key w (n + 1 + 1))) l → planes_of r3 ≡ added r l → IsTransposed r3 out → (j : ℕ) → j < 8 → vector_at out j ≡ enciphered w (n + 1) (vector_at q j)
rounds_end w m q s t k r1 r2 r l r3 out n le hq keys at e0 hk e1 e2 e3 hl e4 eo j lj =
    let h1 = add_states t k r1 (mix_rows_states s t at.0 e0) hk.states e1 in
    let h2 = out_states r1 r2 h1 e2 in
    let h3 = sub_states r2 r h2 e3 in
    let state : List ℕ = after_rounds w (vector_at q j) (n + 1) in
    let long = (IsState-after_rounds w (vector_at q j) m (n + 1) (state_at q j lj hq) keys le).long in
    let key = keys (n + 1 + 1) (omega arith) in
    let b : block_at (planes_of r) j ≡ half_sub (shift_rows state) = sub_law r2 r j lj (every_state r2 h2) e3 ∙ ap half_sub (out_law r1 r2 j e2 ∙ ap shift_out (keyed_at w m q s t k r1 n j lj (omega arith) hq keys at e0 hk e1)) in
    vectors_are_blocks r3 out j lj (add_states r l r3 h3 hl.states e4) eo
    ∙ add_law r l r3 j lj h3 hl.states e4 ∙ (λ i. xor (b i) (hl.blocks j lj i))
    ∙ last_by_half state (round_key w (n + 1 + 1)) long key.long

-- ---- one block eight times

pub same_states : (v : List ℕ) (q r : Planes) → IsState v → planes_of q ≡ v ∷ v ∷ v ∷ v ∷ v ∷ v ∷ v ∷ v ∷ [] → IsTransposed q r → AreStates r
same_states v q r h eq e = transposed_states q r (states_from q (subst (Every IsState) (sym eq) (h, (h, (h, (h, (h, (h, (h, (h, tt)))))))))) e

pub same_blocks : (v : List ℕ) (q r : Planes) → IsState v → planes_of q ≡ v ∷ v ∷ v ∷ v ∷ v ∷ v ∷ v ∷ v ∷ [] → IsTransposed q r → (j : ℕ) → j < 8 → block_at (planes_of r) j ≡ v
same_blocks v q r h eq e j lj =
    let hq = states_from q (subst (Every IsState) (sym eq) (h, (h, (h, (h, (h, (h, (h, (h, tt))))))))) in
    let P : ℕ → Type 0 = λ j. vector_at q j ≡ v in
    blocks_are_vectors q r j lj hq e
    ∙ eight P (ap (λ (l : List (List ℕ)). get_or l 7 []) eq) (ap (λ (l : List (List ℕ)). get_or l 6 []) eq) (ap (λ (l : List (List ℕ)). get_or l 5 []) eq) (ap (λ (l : List (List ℕ)). get_or l 4 []) eq)
    (ap (λ (l : List (List ℕ)). get_or l 3 []) eq) (ap (λ (l : List (List ℕ)). get_or l 2 []) eq) (ap (λ (l : List (List ℕ)). get_or l 1 []) eq) (ap (λ (l : List (List ℕ)). get_or l 0 []) eq) j lj

-- ---- the sum of two groups

pub summed_at : (q k r : Planes) → planes_of r ≡ added q k → (j : ℕ) → j < 8 → vector_at r j ≡ xor (vector_at q j) (vector_at k j)
summed_at q k r e j lj =
    let P : ℕ → Type 0 = λ j. vector_at r j ≡ xor (vector_at q j) (vector_at k j) in
    let at : (n : ℕ) → get_or (planes_of r) n [] ≡ get_or (added q k) n [] = λ n. ap (λ (l : List (List ℕ)). get_or l n []) e in
    eight P (at 7) (at 6) (at 5) (at 4) (at 3) (at 2) (at 1) (at 0) j lj
