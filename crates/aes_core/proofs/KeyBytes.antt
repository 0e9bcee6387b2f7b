-- Each number of a key schedule is a byte, so the inverse cipher undoes the cipher.
use Rattle.std.proofs.Common.{◌≡◌, ℕ, zero, suc, ◌+◌, ◌-◌, ◌*◌, ◌/◌, ◌%◌, ◌<◌, ◌≤◌, inl, inr, List, [], ◌∷◌, ◌++◌, length, get_or, take, drop, replicate, nat_eq, ◌&&◌, bit_xor, refl, sym, ◌∙◌, arith, lit<}
use Rattle.std.proofs.lemmas.Nat.{xor_of_8}
use Rattle.std.proofs.lemmas.List.{length-map, get_or-map, get_or_past, get_or_append_left, get_or-append_right, get_or-drop, get_or-take, length-take, length-take-le}
use Rattle.std.proofs.lemmas.Simd.{length-zip2, get_or-zip2, length-chunk}
use Rattle.std.proofs.lemmas.Bool.{cases_lt, cond_both}
use Rattle.std.specs.Int.{byte_at}
use Rattle.std.specs.Simd.Lanes.{chunk}
use Rattle.aes_core.specs.Field.{power}
use Rattle.aes_core.specs.Aes.{sbox, xor, word, rotated, sub_bytes, key_term, expanded, round_constant, key_words, rounds, key_schedule, round_key, shift_rows, after_rounds, encrypt, decrypt}
use Rattle.aes_core.specs.Blocks.{block}
use Rattle.aes_core.specs.Schedule.{IsKeyLength, AreBytes, IsKey, IsSchedule}
use Rattle.aes_core.proofs.Inverse.{IsState, IsState-after_rounds, IsState-shift_rows, IsState-sub_bytes, IsState-xor, AreRoundKeys, get_or-small, sbox-lt, power-lt, deciphered-enciphered}
use Rattle.aes_core.proofs.KeyWords.{length-expanded, length-key_term, length-rotated}

pub AreBytes-append : (xs ys : List ℕ) → AreBytes xs → AreBytes ys → AreBytes (xs ++ ys)
AreBytes-append xs ys hx hy k = elim (cases_lt k (length xs)) [
  | inl lt ↦ let e = get_or_append_left xs ys 0 k lt in let h = hx k in omega (arith, e, h)
  | inr ge ↦ let e = get_or-append_right xs ys (length xs) k 0 refl ge in let h = hy (k - length xs) in omega (arith, e, h)
]

pub AreBytes-drop : (n : ℕ) (xs : List ℕ) → AreBytes xs → AreBytes (drop n xs)
AreBytes-drop n xs h k = let e = get_or-drop n xs k 0 in let small = h (n + k) in omega (arith, e, small)

pub AreBytes-take : (n : ℕ) (xs : List ℕ) → AreBytes xs → AreBytes (take n xs)
AreBytes-take n xs h k = elim (cases_lt k n) [
  | inl lt ↦ let e = get_or-take n xs k 0 lt in let small = h k in omega (arith, e, small)
  | inr ge ↦ let none : get_or (take n xs) k 0 ≡ 0 = get_or_past (take n xs) k 0 (omega (arith, length-take n xs)) in omega (arith, none)
]

pub AreBytes-chunk : (i n : ℕ) (xs : List ℕ) → AreBytes xs → AreBytes (chunk i n xs)
AreBytes-chunk i n xs h = AreBytes-take n (drop i xs) (AreBytes-drop i xs h)

AreBytes-xor : (xs ys : List ℕ) → length xs ≡ length ys → AreBytes xs → AreBytes ys → AreBytes (xor xs ys)
AreBytes-xor xs ys same hx hy =
    let len = length-zip2 bit_xor xs ys same in
    get_or-small (xor xs ys) (λ i lt.
    let e = get_or-zip2 bit_xor xs ys i 0 0 0 (omega arith) (omega arith) in
    let small = xor_of_8 (get_or xs i 0) (get_or ys i 0) (hx i) (hy i) in
    omega (arith, e, small))

AreBytes-sub_bytes : (xs : List ℕ) → AreBytes (sub_bytes xs)
AreBytes-sub_bytes xs =
    let len = length-map xs sbox in
    get_or-small (sub_bytes xs) (λ i lt.
    let e = get_or-map sbox xs i 0 0 (omega arith) in
    let small = sbox-lt (get_or xs i 0) in
    omega (arith, e, small))

pub byte_at-lt : (i n : ℕ) → byte_at i n < 256
byte_at-lt zero n = omega arith
byte_at-lt (suc i) n = omega arith

pub AreBytes-none : AreBytes []
AreBytes-none k = lit< tt

pub AreBytes-cons : (x : ℕ) (xs : List ℕ) → x < 256 → AreBytes xs → AreBytes (x ∷ xs)
AreBytes-cons x xs lt h zero = lt
AreBytes-cons x xs lt h (suc k) = h k

pub AreBytes-zeros : (n : ℕ) → AreBytes (replicate n 0)
AreBytes-zeros zero = AreBytes-none
AreBytes-zeros (suc n) = AreBytes-cons 0 (replicate n 0) (lit< tt) (AreBytes-zeros n)

AreBytes-constant : (j : ℕ) → AreBytes (round_constant j)
AreBytes-constant j = AreBytes-cons (power 2 (j - 1)) (replicate 3 0) (power-lt 2 (j - 1) (lit< tt)) (AreBytes-zeros 3)

AreBytes-key_term : (nk i : ℕ) (w : List ℕ) → 1 ≤ i → 4 * i ≤ length w → AreBytes w → AreBytes (key_term nk w i)
AreBytes-key_term nk i w low le h =
    let last : List ℕ = word w (i - 1) in
    let small = AreBytes-chunk (4 * (i - 1)) 4 w h in
    let long = length-chunk (4 * (i - 1)) 4 w (omega arith) in
    let turned = length-map (rotated last) sbox ∙ length-rotated last long in
    cond_both (nat_eq (i % nk) 0) _ _ AreBytes
    (λ e. AreBytes-xor (sub_bytes (rotated last)) (round_constant (i / nk)) turned (AreBytes-sub_bytes (rotated last)) (AreBytes-constant (i / nk)))
    (λ e. cond_both (nat_eq nk 8 && nat_eq (i % 8) 4) _ _ AreBytes (λ f. AreBytes-sub_bytes last) (λ f. small))

pub AreBytes-expanded : (key : List ℕ) (nk n : ℕ) → length key ≡ 4 * nk → 1 ≤ nk → AreBytes key → AreBytes (expanded key nk n)
unfolding expanded
AreBytes-expanded key nk zero len low h = h
AreBytes-expanded key nk (suc n) len low h =
    let w : List ℕ = expanded key nk n in
    let before = AreBytes-expanded key nk n len low h in
    let long = length-expanded key nk n len low in
    let first = length-chunk (4 * n) 4 w (omega arith) in
    let term = length-key_term nk (nk + n) w (omega arith) (omega arith) in
    AreBytes-append w (xor (word w n) (key_term nk w (nk + n))) before
    (AreBytes-xor (word w n) (key_term nk w (nk + n)) (first ∙ sym term) (AreBytes-chunk (4 * n) 4 w before) (AreBytes-key_term nk (nk + n) w (omega arith) (omega arith) before))

-- a key has an even number of words, from 4 to 8
pub key_words-bounds : (key : List ℕ) → IsKeyLength (length key) → (length key ≡ 4 * key_words key) × (4 ≤ key_words key) × (key_words key ≤ 8) × (key_words key % 2 ≡ 0)
key_words-bounds key h = elim h [
  | inl e ↦ (omega arith, omega arith, omega arith, omega arith)
  | inr h2 ↦ elim h2 [
    | inl e ↦ (omega arith, omega arith, omega arith, omega arith)
    | inr e ↦ (omega arith, omega arith, omega arith, omega arith)
  ]
]

key_of_words : (key : List ℕ) (nk : ℕ) → length key ≡ 4 * nk → 4 ≤ nk → nk ≤ 8 → nk % 2 ≡ 0 → IsKeyLength (length key)
key_of_words key nk len low high even = elim (cases_lt nk 5) [
  | inl lt ↦ inl (omega arith)
  | inr ge ↦ elim (cases_lt nk 7) [
    | inl lt ↦ inr (inl (omega arith))
    | inr ge2 ↦ inr (inr (omega arith))
  ]
]

round_keys : (key : List ℕ) → IsKey key → AreRoundKeys (key_schedule key) (rounds key - 1)
round_keys key h r le =
    let sizes = key_words-bounds key h.long in
    let nk : ℕ = key_words key in
    let n : ℕ = 4 * (rounds key + 1) - nk in
    let len : length key ≡ 4 * nk = sizes.0 in
    let low : 4 ≤ nk = sizes.1 in
    let one : 1 ≤ nk = omega arith in
    let long = length-expanded key nk n len one in
    record {
      long = length-chunk (16 * r) 16 (key_schedule key) (omega arith);
      bytes = AreBytes-chunk (16 * r) 16 (key_schedule key) (AreBytes-expanded key nk n len one h.bytes);
    }

pub IsState-block : (p : List ℕ) (j : ℕ) → AreBytes p → 16 * j + 16 ≤ length p → IsState (block p j)
IsState-block p j small le = record { long = length-chunk (16 * j) 16 p le; bytes = AreBytes-chunk (16 * j) 16 p small }

-- the inverse cipher takes back what the cipher did (FIPS 197, 5.3)
pub decrypt-encrypt : (key b : List ℕ) → IsKey key → length b ≡ 16 → AreBytes b → decrypt key (encrypt key b) ≡ b
unfolding encrypt decrypt
decrypt-encrypt key b h len bytes = deciphered-enciphered (key_schedule key) b (rounds key - 1) (record { long = len; bytes = bytes }) (round_keys key h)

-- the cipher gives a block of bytes
pub IsState-encrypt : (key b : List ℕ) → IsKey key → IsState b → IsState (encrypt key b)
unfolding encrypt
IsState-encrypt key b h state =
    let w : List ℕ = key_schedule key in
    let m : ℕ = rounds key - 1 in
    let keys = round_keys key h in
    let before = IsState-after_rounds w b m m state keys (omega arith) in
    let half = IsState-shift_rows (sub_bytes (after_rounds w b m)) (IsState-sub_bytes (after_rounds w b m) before.long) in
    IsState-xor (shift_rows (sub_bytes (after_rounds w b m))) (round_key w (m + 1)) half (keys (m + 1) (omega arith))

pub IsKey-front : (keys : List ℕ) (nk : ℕ) → IsSchedule keys nk → IsKey (take (4 * nk) keys)
IsKey-front keys nk h =
    let high = h.high in let low = h.low in let long = h.long in let even = h.even in
    let len : length (take (4 * nk) keys) ≡ 4 * nk = length-take-le (4 * nk) keys (omega arith) in
    record { long = key_of_words (take (4 * nk) keys) nk len low high even; bytes = AreBytes-take (4 * nk) keys h.bytes }
