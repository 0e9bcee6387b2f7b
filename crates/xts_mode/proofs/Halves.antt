-- A tweak by its halves, and its bytes.
use Rattle.std.proofs.Common.{◌≡◌, ℕ, ◌+◌, ◌*◌, ◌/◌, ◌%◌, ◌^◌, ◌<◌, List, [], ◌∷◌, ◌++◌, get_or, length, bit_xor, refl, sym, ap, ◌∙◌, arith}
use lib.Bits.{xor_zero_l, xor_zero_r}
use lib.Lanes.{Each1}
use mir.Syntax.{w64}
use mir.Val.{Fits}
use Rattle.std.proofs.lemmas.Nat.{xor_block}
use Rattle.std.specs.Int.{w128, to_le_bytes}
use Rattle.std.specs.Simd.Lanes.{zip2, digits_l}
use Rattle.xts_mode.specs.Halves.{of_halves}
use Rattle.xts_mode.specs.Xts.{doubled}

-- ---- a tweak times x

-- an even number and a bit
even_and_bit : (a c : ℕ) → c < 2 → bit_xor (a * 2) c ≡ a * 2 + c
even_and_bit a c lt =
    let l : a * 2 ^ 1 + 0 ≡ a * 2 = omega arith in
    let r : 0 * 2 ^ 1 + c ≡ c = omega arith in
    (λ i. bit_xor (sym l i) (sym r i)) ∙ xor_block 1 a 0 0 c (omega arith) (omega arith) ∙ (λ i. xor_zero_r a i * 2 + xor_zero_l c i)

doubled_halves : (lo hi : ℕ) → lo < 2 ^ 64 → hi < 2 ^ 64
    → of_halves (bit_xor (lo * 2 % 2 ^ 64) (hi / 2 ^ 63 * 135 % 2 ^ 64) ∷ bit_xor (hi * 2 % 2 ^ 64) (lo / 2 ^ 63 * 1 % 2 ^ 64) ∷ []) ≡ doubled (of_halves (lo ∷ hi ∷ []))
doubled_halves lo hi llo lhi =
    let h : ℕ = hi % 2 ^ 63 in
    let c : ℕ = lo / 2 ^ 63 in
    let r : ℕ = lo * 2 % 2 ^ 64 in
    let s : ℕ = hi / 2 ^ 63 * 135 in
    let lc : c < 2 = omega arith in
    let even : hi * 2 % 2 ^ 64 ≡ h * 2 = omega arith in
    let bit : c * 1 % 2 ^ 64 ≡ c = omega arith in
    let high : bit_xor (hi * 2 % 2 ^ 64) (c * 1 % 2 ^ 64) ≡ h * 2 + c = (λ i. bit_xor (even i) (bit i)) ∙ even_and_bit h c lc in
    let ls : s < 2 ^ 64 = omega arith in
    let lr : r < 2 ^ 64 = omega arith in
    let same : s % 2 ^ 64 ≡ s = omega arith in
    let x : ℕ = bit_xor r s in
    let t : ℕ = lo + 2 ^ 64 * (hi + 2 ^ 64 * 0) in
    let left : (h * 2 + c) * 2 ^ 64 + r ≡ 2 * t % 2 ^ 128 = omega arith in
    let right : 0 * 2 ^ 64 + s ≡ t / 2 ^ 127 * 135 = omega arith in
    let block : bit_xor (2 * t % 2 ^ 128) (t / 2 ^ 127 * 135) ≡ (h * 2 + c) * 2 ^ 64 + x =
    (λ i. bit_xor (sym left i) (sym right i)) ∙ xor_block 64 (h * 2 + c) 0 r s lr ls ∙ ap (λ (k : ℕ). k * 2 ^ 64 + x) (xor_zero_r (h * 2 + c)) in
    let turned_round : x + 2 ^ 64 * (h * 2 + c + 2 ^ 64 * 0) ≡ (h * 2 + c) * 2 ^ 64 + x = omega arith in
    (λ i. bit_xor r (same i) + 2 ^ 64 * (high i + 2 ^ 64 * 0)) ∙ turned_round ∙ sym block

pub doubled_list : (t : List ℕ) → length t ≡ 2 → Each1 (Fits w64) t
    → of_halves (zip2 bit_xor (zip2 (λ x n. x * 2 ^ n % 2 ^ 64) t (1 ∷ 1 ∷ [])) (get_or (t ++ t) 1 0 / 2 ^ 63 * 135 % 2 ^ 64 ∷ get_or (t ++ t) 0 0 / 2 ^ 63 * 1 % 2 ^ 64 ∷ [])) ≡ doubled (of_halves t)
doubled_list [] l f = absurd (omega (arith, l))
doubled_list (lo ∷ []) l f = absurd (omega (arith, l))
doubled_list (lo ∷ hi ∷ []) l f = doubled_halves lo hi f.0.fits f.1.0.fits
doubled_list (lo ∷ hi ∷ x ∷ xs) l f = absurd (omega (arith, l))

-- ---- the bytes of a tweak

-- the digits of a number in base 256 are its bytes
pub digits_are_bytes : (n : ℕ) → digits_l (2 ^ 8) 16 n ≡ to_le_bytes w128 n
digits_are_bytes n =
    let d1 : n / 256 ≡ n / 256 = refl in
    let s2 : n / 256 / 256 ≡ n / 65536 = omega arith in
    let d2 : n / 256 / 256 ≡ n / 65536 = ap (λ (x : ℕ). x / 256) d1 ∙ s2 in
    let s3 : n / 65536 / 256 ≡ n / 16777216 = omega arith in
    let d3 : n / 256 / 256 / 256 ≡ n / 16777216 = ap (λ (x : ℕ). x / 256) d2 ∙ s3 in
    let s4 : n / 16777216 / 256 ≡ n / 4294967296 = omega arith in
    let d4 : n / 256 / 256 / 256 / 256 ≡ n / 4294967296 = ap (λ (x : ℕ). x / 256) d3 ∙ s4 in
    let s5 : n / 4294967296 / 256 ≡ n / 1099511627776 = omega arith in
    let d5 : n / 256 / 256 / 256 / 256 / 256 ≡ n / 1099511627776 = ap (λ (x : ℕ). x / 256) d4 ∙ s5 in
    let s6 : n / 1099511627776 / 256 ≡ n / 281474976710656 = omega arith in
    let d6 : n / 256 / 256 / 256 / 256 / 256 / 256 ≡ n / 281474976710656 = ap (λ (x : ℕ). x / 256) d5 ∙ s6 in
    let s7 : n / 281474976710656 / 256 ≡ n / 72057594037927936 = omega arith in
    let d7 : n / 256 / 256 / 256 / 256 / 256 / 256 / 256 ≡ n / 72057594037927936 = ap (λ (x : ℕ). x / 256) d6 ∙ s7 in
    let s8 : n / 72057594037927936 / 256 ≡ n / 18446744073709551616 = omega arith in
    let d8 : n / 256 / 256 / 256 / 256 / 256 / 256 / 256 / 256 ≡ n / 18446744073709551616 = ap (λ (x : ℕ). x / 256) d7 ∙ s8 in
    let s9 : n / 18446744073709551616 / 256 ≡ n / 4722366482869645213696 = omega arith in
    let d9 : n / 256 / 256 / 256 / 256 / 256 / 256 / 256 / 256 / 256 ≡ n / 4722366482869645213696 = ap (λ (x : ℕ). x / 256) d8 ∙ s9 in
    let s10 : n / 4722366482869645213696 / 256 ≡ n / 1208925819614629174706176 = omega arith in
    let d10 : n / 256 / 256 / 256 / 256 / 256 / 256 / 256 / 256 / 256 / 256 ≡ n / 1208925819614629174706176 = ap (λ (x : ℕ). x / 256) d9 ∙ s10 in
    let s11 : n / 1208925819614629174706176 / 256 ≡ n / 309485009821345068724781056 = omega arith in
    let d11 : n / 256 / 256 / 256 / 256 / 256 / 256 / 256 / 256 / 256 / 256 / 256 ≡ n / 309485009821345068724781056 = ap (λ (x : ℕ). x / 256) d10 ∙ s11 in
    let s12 : n / 309485009821345068724781056 / 256 ≡ n / 79228162514264337593543950336 = omega arith in
    let d12 : n / 256 / 256 / 256 / 256 / 256 / 256 / 256 / 256 / 256 / 256 / 256 / 256 ≡ n / 79228162514264337593543950336 = ap (λ (x : ℕ). x / 256) d11 ∙ s12 in
    let s13 : n / 79228162514264337593543950336 / 256 ≡ n / 20282409603651670423947251286016 = omega arith in
    let d13 : n / 256 / 256 / 256 / 256 / 256 / 256 / 256 / 256 / 256 / 256 / 256 / 256 / 256 ≡ n / 20282409603651670423947251286016 = ap (λ (x : ℕ). x / 256) d12 ∙ s13 in
    let s14 : n / 20282409603651670423947251286016 / 256 ≡ n / 5192296858534827628530496329220096 = omega arith in
    let d14 : n / 256 / 256 / 256 / 256 / 256 / 256 / 256 / 256 / 256 / 256 / 256 / 256 / 256 / 256 ≡ n / 5192296858534827628530496329220096 = ap (λ (x : ℕ). x / 256) d13 ∙ s14 in
    let s15 : n / 5192296858534827628530496329220096 / 256 ≡ n / 1329227995784915872903807060280344576 = omega arith in
    let d15 : n / 256 / 256 / 256 / 256 / 256 / 256 / 256 / 256 / 256 / 256 / 256 / 256 / 256 / 256 / 256 ≡ n / 1329227995784915872903807060280344576 = ap (λ (x : ℕ). x / 256) d14 ∙ s15 in
    (λ i. n % 256 ∷ d1 i % 256 ∷ d2 i % 256 ∷ d3 i % 256 ∷ d4 i % 256 ∷ d5 i % 256 ∷ d6 i % 256 ∷ d7 i % 256 ∷ d8 i % 256 ∷ d9 i % 256 ∷ d10 i % 256 ∷ d11 i % 256 ∷ d12 i % 256 ∷ d13 i % 256 ∷ d14 i % 256 ∷ d15 i % 256 ∷ [])
