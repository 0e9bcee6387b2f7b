-- The circuit of the S-box on eight planes is SubBytes on each of the eight blocks.
use Rattle.std.proofs.Common.{◌≡◌, ℕ, ◌+◌, ◌*◌, ◌/◌, ◌%◌, ◌<◌, List, [], ◌∷◌, map, get_or, length, bit_xor, bit_and, bit_or, replicate, refl, sym, ap, ◌∙◌, arith, inl, inr, zero-add, lit<}
use Rattle.std.proofs.lemmas.Bool.{cases_lt}
use Rattle.std.proofs.lemmas.Nat.{and_le_l, or_of_8, xor_of_8}
use Rattle.std.proofs.lemmas.Nat.Bits.{bit_at-zero, bit_at-lt, bit_at_and, bit_at_or, bit_at_xor}
use Rattle.std.proofs.lemmas.List.{ext_get_or, get_or_past, get_or-replicate}
use Rattle.std.proofs.lemmas.List.FromFn.{length-map-range_with_len, get_or-map-range_with_len}
use Rattle.std.proofs.lemmas.Simd.{length-zip2, get_or-zip2, map-map}
use Rattle.std.specs.Int.{bit_at}
use Rattle.std.specs.List.{range_with_len}
use Rattle.std.specs.Simd.Lanes.{zip2}
use Rattle.aes_core.specs.Aes.{sbox}
use Rattle.aes_core.proofs.Boxes.{agree_at}
use Rattle.aes_core.proofs.Inverse.{IsState, IsState-xor, sbox-lt}
pub use Rattle.aes_planes.specs.Blocks.{from_bits, bit_in, block_at}
use Rattle.aes_planes.specs.Circuit.{run, outputs, sbox_gates, sbox_outputs}
use Rattle.aes_planes.specs.Planes.{vector_ops, planes_of, half, half_sub}
use Rattle.aes_planes.specs.declared.vectors.Planes.{Planes}
use Rattle.aes_planes.proofs.Truth.{bit_ops, bits_of, sbox_circuit, xor_of_bits, and_of_bits, or_of_bits}
use Rattle.aes_planes.proofs.Hom.{IsHom, Every, run-hom, outputs-hom}

-- ---- from vectors to bits

pub small_get : (s : List ℕ) → ((k : ℕ) → k < length s → get_or s k 0 < 256) → (k : ℕ) → get_or s k 0 < 256
small_get s here k = elim (cases_lt k (length s)) [ inl lt ↦ here k lt | inr ge ↦ let none : get_or s k 0 ≡ 0 = get_or_past s k 0 ge in omega (arith, none) ]

IsState-and : (a b : List ℕ) → IsState a → IsState b → IsState (zip2 bit_and a b)
IsState-and a b ha hb =
    let la = ha.long in let lb = hb.long in
    let l = length-zip2 bit_and a b (omega arith) in
    record {
      long = l ∙ la;
      bytes = small_get (zip2 bit_and a b) (λ k lt.
          let e = get_or-zip2 bit_and a b k 0 0 0 (omega arith) (omega arith) in
          let le = and_le_l (get_or a k 0) (get_or b k 0) in
          let h = ha.bytes k in
          omega (arith, e, le, h));
    }

IsState-or : (a b : List ℕ) → IsState a → IsState b → IsState (zip2 bit_or a b)
IsState-or a b ha hb =
    let la = ha.long in let lb = hb.long in
    let l = length-zip2 bit_or a b (omega arith) in
    record {
      long = l ∙ la;
      bytes = small_get (zip2 bit_or a b) (λ k lt.
          let e = get_or-zip2 bit_or a b k 0 0 0 (omega arith) (omega arith) in
          let le = or_of_8 (get_or a k 0) (get_or b k 0) (ha.bytes k) (hb.bytes k) in
          omega (arith, e, le));
    }

pub IsState-zeros : IsState (replicate 16 0)
IsState-zeros = record {
  long = refl;
  bytes = small_get (replicate 16 0) (λ k lt. let z = get_or-replicate {A = ℕ} 16 k 0 0 lt in omega (arith, z));
}

pub vector_hom : (p j : ℕ) → p < 16 → j < 8 → IsHom vector_ops bit_ops (bit_in p j) IsState
vector_hom p j lp lj =
    let at2 : (f : ℕ → ℕ → ℕ) (a b : List ℕ) → IsState a → IsState b → get_or (zip2 f a b) p 0 ≡ f (get_or a p 0) (get_or b p 0) =
    λ f a b ha hb. let la = ha.long in let lb = hb.long in get_or-zip2 f a b p 0 0 0 (omega arith) (omega arith) in
    let xored : (a b : List ℕ) → IsState a → IsState b → bit_in p j (zip2 bit_xor a b) ≡ bit_xor (bit_in p j a) (bit_in p j b) =
    λ a b ha hb. ap (λ (x : ℕ). bit_at x j) (at2 bit_xor a b ha hb) ∙ bit_at_xor (get_or a p 0) (get_or b p 0) j ∙ xor_of_bits _ _ (bit_at-lt (get_or a p 0) j) (bit_at-lt (get_or b p 0) j) in
    record {
      at_xor = xored;
      at_and = λ a b ha hb. ap (λ (x : ℕ). bit_at x j) (at2 bit_and a b ha hb) ∙ bit_at_and (get_or a p 0) (get_or b p 0) j ∙ and_of_bits _ _ (bit_at-lt (get_or a p 0) j) (bit_at-lt (get_or b p 0) j);
      at_or = λ a b ha hb. ap (λ (x : ℕ). bit_at x j) (at2 bit_or a b ha hb) ∙ bit_at_or (get_or a p 0) (get_or b p 0) j ∙ or_of_bits _ _ (bit_at-lt (get_or a p 0) j) (bit_at-lt (get_or b p 0) j);
      at_none = ap (λ (x : ℕ). bit_at x j) (get_or-replicate {A = ℕ} 16 p 0 0 lp) ∙ bit_at-zero j;
      keeps_xor = IsState-xor;
      keeps_and = IsState-and;
      keeps_or = IsState-or;
      keeps_none = IsState-zeros;
    }

-- ---- bytes and their bits

pub whole_is : map (λ x. from_bits (bits_of x)) (range_with_len 0 256) ≡ map (λ x. x) (range_with_len 0 256)
whole_is = refl

pub bits_back : (a b c d e f g h : ℕ) → a < 2 → b < 2 → c < 2 → d < 2 → e < 2 → f < 2 → g < 2 → h < 2
    → bits_of (from_bits (a ∷ b ∷ c ∷ d ∷ e ∷ f ∷ g ∷ h ∷ [])) ≡ a ∷ b ∷ c ∷ d ∷ e ∷ f ∷ g ∷ h ∷ []
bits_back a b c d e f g h la lb lc ld le lf lg lh =
    let x : ℕ = h + 2 * g + 4 * f + 8 * e + 16 * d + 32 * c + 64 * b + 128 * a in
    let e7 : x / 128 % 2 ≡ a = omega arith in
    let e6 : x / 64 % 2 ≡ b = omega arith in
    let e5 : x / 32 % 2 ≡ c = omega arith in
    let e4 : x / 16 % 2 ≡ d = omega arith in
    let e3 : x / 8 % 2 ≡ e = omega arith in
    let e2 : x / 4 % 2 ≡ f = omega arith in
    let e1 : x / 2 % 2 ≡ g = omega arith in
    let e0 : x / 1 % 2 ≡ h = omega arith in
    (λ i. e7 i ∷ e6 i ∷ e5 i ∷ e4 i ∷ e3 i ∷ e2 i ∷ e1 i ∷ e0 i ∷ [])

half-lt : (x : ℕ) → half x < 256
half-lt x = xor_of_8 (sbox x) 0x63 (sbox-lt x) (lit< tt)

sbox_of_bits : (a b c d e f g h : ℕ) → a < 2 → b < 2 → c < 2 → d < 2 → e < 2 → f < 2 → g < 2 → h < 2
    → from_bits (outputs bit_ops sbox_outputs (run bit_ops sbox_gates (a ∷ b ∷ c ∷ d ∷ e ∷ f ∷ g ∷ h ∷ []))) ≡ half (from_bits (a ∷ b ∷ c ∷ d ∷ e ∷ f ∷ g ∷ h ∷ []))
sbox_of_bits a b c d e f g h la lb lc ld le lf lg lh =
    let x : ℕ = h + 2 * g + 4 * f + 8 * e + 16 * d + 32 * c + 64 * b + 128 * a in
    let small : x < 256 = omega arith in
    let back = bits_back a b c d e f g h la lb lc ld le lf lg lh in
    ap (λ (l : List ℕ). from_bits (outputs bit_ops sbox_outputs (run bit_ops sbox_gates l))) (sym back)
    ∙ ap from_bits (sbox_circuit x small)
    ∙ agree_at (λ x. from_bits (bits_of x)) (λ x. x) 256 (half x) whole_is (half-lt x)

-- ---- the law

pub same_on_range : (f g : ℕ → ℕ) (n : ℕ) → ((k : ℕ) → k < n → f k ≡ g k) → map f (range_with_len 0 n) ≡ map g (range_with_len 0 n)
same_on_range f g n same =
    let lf = length-map-range_with_len f 0 n in
    let lg = length-map-range_with_len g 0 n in
    ext_get_or 0 _ _ (lf ∙ sym lg) (λ i lt. get_or-map-range_with_len f 0 n i i 0 (omega arith) (zero-add i) ∙ same i (omega arith) ∙ sym (get_or-map-range_with_len g 0 n i i 0 (omega arith) (zero-add i)))

pub sub_law : (q r : Planes) (j : ℕ) → j < 8 → Every IsState (planes_of q) → planes_of r ≡ outputs vector_ops sbox_outputs (run vector_ops sbox_gates (planes_of q))
    → block_at (planes_of r) j ≡ half_sub (block_at (planes_of q) j)
sub_law q r j lj states e =
    let lane : (p : ℕ) → p < 16 → from_bits (map (bit_in p j) (planes_of r)) ≡ half (from_bits (map (bit_in p j) (planes_of q))) = λ p lp.
    let hom = vector_hom p j lp lj in
    let h : List ℕ → ℕ = bit_in p j in
    let lt : (v : List ℕ) → h v < 2 = λ v. bit_at-lt (get_or v p 0) j in
    ap (λ (l : List (List ℕ)). from_bits (map h l)) e
    ∙ ap from_bits (outputs-hom vector_ops bit_ops h IsState hom sbox_outputs (run vector_ops sbox_gates (planes_of q)) ∙ ap (outputs bit_ops sbox_outputs) (run-hom vector_ops bit_ops h IsState hom sbox_gates (planes_of q) states).0)
    ∙ sbox_of_bits (h q.b7) (h q.b6) (h q.b5) (h q.b4) (h q.b3) (h q.b2) (h q.b1) (h q.b0) (lt q.b7) (lt q.b6) (lt q.b5) (lt q.b4) (lt q.b3) (lt q.b2) (lt q.b1) (lt q.b0) in
    same_on_range (λ p. from_bits (map (bit_in p j) (planes_of r))) (λ p. half (from_bits (map (bit_in p j) (planes_of q)))) 16 lane
    ∙ sym (map-map half (λ p. from_bits (map (bit_in p j) (planes_of q))) (range_with_len 0 16))
