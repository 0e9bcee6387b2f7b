-- How the key expansion grows in a buffer of 240 bytes, with zeros after it.
use Rattle.std.proofs.Common.{◌≡◌, ℕ, zero, suc, ◌+◌, ◌-◌, ◌*◌, ◌/◌, ◌%◌, ◌≤◌, List, ◌++◌, length, take, drop, replicate, cond, bit_xor, nat_eq, ◌&&◌, sym, ap, ◌∙◌, add-one, arith, append_assoc, length-append}
use Rattle.std.proofs.lemmas.List.{length-map, take_at, drop_at, take-append-le, drop-append-le, drop-replicate, length-drop, length-take-le}
use Rattle.std.proofs.lemmas.Simd.{length-zip2, length-chunk}
use Rattle.std.proofs.lemmas.Bool.{cond_both}
use Rattle.std.specs.Simd.Lanes.{chunk}
use Rattle.aes_core.specs.Aes.{sbox, xor, word, rotated, sub_bytes, key_term, expanded, round_constant}
use borrow.Rule.Slice.PartMut.{put_mid}

pub chunk-append : (i n : ℕ) (xs ys : List ℕ) → i + n ≤ length xs → chunk i n (xs ++ ys) ≡ chunk i n xs
chunk-append i n xs ys le =
    ap (take n) (drop-append-le i xs ys (omega arith)) ∙ take-append-le n (drop i xs) ys (omega (arith, length-drop i xs))

-- what the key expansion does to the last word
abbrev pub term_of : ℕ → List ℕ → ℕ → List ℕ
term_of nk v i =
    cond (nat_eq (i % nk) 0) (xor (sub_bytes (rotated v)) (round_constant (i / nk))) (cond (nat_eq nk 8 && nat_eq (i % 8) 4) (sub_bytes v) v)

key_term-append : (nk i : ℕ) (xs ys : List ℕ) → 1 ≤ i → 4 * i ≤ length xs → key_term nk (xs ++ ys) i ≡ key_term nk xs i
key_term-append nk i xs ys low le = ap (λ (v : List ℕ). term_of nk v i) (chunk-append (4 * (i - 1)) 4 xs ys (omega arith))

pub length-rotated : (v : List ℕ) → length v ≡ 4 → length (rotated v) ≡ 4
length-rotated v len = omega (arith, length-append (drop 1 v) (take 1 v), length-drop 1 v, length-take-le 1 v (omega arith))

length-term_of : (nk : ℕ) (v : List ℕ) (i : ℕ) → length v ≡ 4 → length (term_of nk v i) ≡ 4
length-term_of nk v i len =
    let turned = length-map (rotated v) sbox ∙ length-rotated v len in
    let first = length-zip2 bit_xor (sub_bytes (rotated v)) (round_constant (i / nk)) turned ∙ turned in
    let P : List ℕ → Type 0 = λ x. length x ≡ 4 in
    cond_both (nat_eq (i % nk) 0) _ _ P (λ h. first) (λ h. cond_both (nat_eq nk 8 && nat_eq (i % 8) 4) _ _ P (λ k. length-map v sbox ∙ len) (λ k. len))

pub length-key_term : (nk i : ℕ) (w : List ℕ) → 1 ≤ i → 4 * i ≤ length w → length (key_term nk w i) ≡ 4
length-key_term nk i w low le = length-term_of nk (word w (i - 1)) i (length-chunk (4 * (i - 1)) 4 w (omega arith))

-- the key expansion has a word more with each step
pub length-expanded : (key : List ℕ) (nk n : ℕ) → length key ≡ 4 * nk → 1 ≤ nk → length (expanded key nk n) ≡ 4 * (nk + n)
unfolding expanded
length-expanded key nk zero len low = omega arith
length-expanded key nk (suc n) len low =
    let w = expanded key nk n in
    let before = length-expanded key nk n len low in
    let last = length-chunk (4 * (nk + n - 1)) 4 w (omega arith) in
    let first = length-chunk (4 * n) 4 w (omega arith) in
    let term = length-term_of nk (word w (nk + n - 1)) (nk + n) last in
    let next = length-zip2 bit_xor (word w n) (key_term nk w (nk + n)) (first ∙ sym term) in
    omega (arith, length-append w (xor (word w n) (key_term nk w (nk + n))), before, next, first)

pub expand_start : (key mid : List ℕ) (nk : ℕ) → length key ≡ 4 * nk → mid ≡ key → mid ++ drop (4 * nk) (replicate 240 0) ≡ expanded key nk 0 ++ replicate (240 - 4 * (nk + 0)) 0
unfolding expanded
expand_start key mid nk len e =
    let zeros : ℕ → List ℕ = λ n. replicate n 0 in
    let at : 240 - 4 * nk ≡ 240 - 4 * (nk + 0) = omega arith in
    (λ i. e i ++ (drop-replicate {X = ℕ} (4 * nk) 240 0 ∙ ap zeros at) i)

pub expand_step : (key w a t next ys : List ℕ) (nk n j : ℕ) → length key ≡ 4 * nk → 1 ≤ nk → 4 * (nk + n) + 4 ≤ 240 → j ≡ 4
    → w ≡ expanded key nk n ++ replicate (240 - 4 * (nk + n)) 0
    → a ≡ word w n → t ≡ key_term nk w (nk + n) → next ≡ xor a t → ys ≡ next
    → put_mid (4 * (nk + n)) j w ys ≡ expanded key nk (n + 1) ++ replicate (240 - 4 * (nk + (n + 1))) 0
unfolding expanded
expand_step key w a t next ys nk n j len low room ej ew ea et en ey =
    let xs : List ℕ = expanded key nk n in
    let zeros : ℕ → List ℕ = λ n. replicate n 0 in
    let z : List ℕ = zeros (240 - 4 * (nk + n)) in
    let lx : length xs ≡ 4 * (nk + n) = length-expanded key nk n len low in
    let ea2 : a ≡ word xs n = ea ∙ ap (λ (v : List ℕ). word v n) ew ∙ chunk-append (4 * n) 4 xs z (omega arith) in
    let et2 : t ≡ key_term nk xs (nk + n) = et ∙ ap (λ (v : List ℕ). key_term nk v (nk + n)) ew ∙ key_term-append nk (nk + n) xs z (omega arith) (omega arith) in
    let new : ys ≡ xor (word xs n) (key_term nk xs (nk + n)) = ey ∙ en ∙ (λ i. xor (ea2 i) (et2 i)) in
    let grown : expanded key nk (n + 1) ≡ xs ++ xor (word xs n) (key_term nk xs (nk + n)) = ap (expanded key nk) (add-one n) in
    let front : take (4 * (nk + n)) w ≡ xs = ap (take (4 * (nk + n))) ew ∙ take_at xs z (4 * (nk + n)) lx in
    let back : drop j (drop (4 * (nk + n)) w) ≡ zeros (240 - 4 * (nk + (n + 1))) =
    ap (λ (v : List ℕ). drop j (drop (4 * (nk + n)) v)) ew ∙ ap (drop j) (drop_at xs z (4 * (nk + n)) lx)
    ∙ drop-replicate {X = ℕ} j (240 - 4 * (nk + n)) 0 ∙ ap zeros (omega arith) in
    (λ i. front i ++ (new i ++ back i)) ∙ sym (append_assoc xs (xor (word xs n) (key_term nk xs (nk + n))) (zeros (240 - 4 * (nk + (n + 1)))))
    ∙ ap (λ (v : List ℕ). v ++ zeros (240 - 4 * (nk + (n + 1)))) (sym grown)
