-- The inverse cipher undoes the cipher: each inverse step undoes its step.
use Rattle.std.proofs.Common.{◌≡◌, ℕ, zero, suc, ◌+◌, ◌-◌, ◌*◌, ◌/◌, ◌%◌, ◌<◌, ◌≤◌, List, [], ◌∷◌, length, map, get_or, bit_xor, refl, sym, ap, ◌∙◌, arith, zero-add}
use lib.Bits.{xor_assoc, xor_comm, xor_self, xor_zero_r}
use Rattle.std.proofs.lemmas.Nat.{xor_shr, xor_of_8}
use Rattle.std.proofs.lemmas.List.{length-map, get_or-map, get_or_past, ext_get_or}
use Rattle.std.proofs.lemmas.List.FromFn.{fill_by_all, length-map-range_with_len, get_or-map-range_with_len, get_or-range_with_len}
use Rattle.std.proofs.lemmas.Simd.{length-zip2, get_or-zip2}
use Rattle.std.proofs.lemmas.Bool.{cases_lt}
use Rattle.std.proofs.Common.{inl, inr, lit<}
use Rattle.std.specs.List.{range_with_len}
pub use Rattle.aes_core.specs.State.{IsState}
pub use Rattle.aes_core.proofs.Sums.{xor_swap}
use Rattle.aes_core.proofs.Sums.{bit_times, bit_of_xor}
use Rattle.aes_core.specs.Field.{times_x, times_bits, times, power}
use Rattle.aes_core.specs.Aes.{sbox, inverse_sbox, bytes_by, xor, sub_bytes, shift_rows, mix_columns, circulant_byte, inverse_sub_bytes, inverse_shift_rows, inverse_mix_columns, round_key, after_rounds, after_inverse_rounds, enciphered, deciphered}
use Rattle.aes_core.proofs.Boxes.{agree_at, sbox_table, inverse_sbox_table, sbox_entry, inverse_sbox_entry}

-- ---- bytes

bit_times-le : (r a : ℕ) → r < 2 → r * a ≤ a
bit_times-le r a lt = elim (bit_times r a lt) [ inl l ↦ omega (arith, l.1) | inr h ↦ omega (arith, h.1) ]

small_is : map (λ a. times_x a / 256) (range_with_len 0 256) ≡ map (λ a. 0) (range_with_len 0 256)
small_is = refl

times_x-lt : (a : ℕ) → a < 256 → times_x a < 256
times_x-lt a lt = let h = agree_at (λ a. times_x a / 256) (λ a. 0) 256 a small_is lt in omega (arith, h)

times_bits-lt : (a b n : ℕ) → a < 256 → times_bits a b n < 256
times_bits-lt a b zero lt = omega arith
times_bits-lt a b (suc n) lt =
    let one : b % 2 * a ≤ a = bit_times-le (b % 2) a (omega arith) in
    xor_of_8 (b % 2 * a) (times_bits (times_x a) (b / 2) n) (omega arith) (times_bits-lt (times_x a) (b / 2) n (times_x-lt a lt))

pub times-lt : (a b : ℕ) → a < 256 → times a b < 256
unfolding times
times-lt a b lt = times_bits-lt a b 8 lt

pub power-lt : (a n : ℕ) → a < 256 → power a n < 256
unfolding power
power-lt a zero lt = omega arith
power-lt a (suc n) lt = times-lt a (power a n) lt

pub sbox-lt : (b : ℕ) → sbox b < 256
unfolding sbox
sbox-lt b = omega arith

-- ---- SubBytes

-- in the tables: what undoes each entry
sub_is : map (λ y. get_or inverse_sbox_table y 0) sbox_table ≡ range_with_len 0 256
sub_is = refl

inverse_sbox-sbox : (b : ℕ) → b < 256 → inverse_sbox (sbox b) ≡ b
inverse_sbox-sbox b lt =
    sym (inverse_sbox_entry (sbox b) (sbox-lt b)) ∙ ap (λ (y : ℕ). get_or inverse_sbox_table y 0) (sym (sbox_entry b lt))
    ∙ sym (get_or-map (λ y. get_or inverse_sbox_table y 0) sbox_table b 0 0 lt) ∙ ap (λ (l : List ℕ). get_or l b 0) sub_is
    ∙ get_or-range_with_len 0 256 b 0 lt ∙ zero-add b

inverse_sub_bytes-sub_bytes : (s : List ℕ) → IsState s → inverse_sub_bytes (sub_bytes s) ≡ s
inverse_sub_bytes-sub_bytes s state =
    ext_get_or 0 _ s (length-map (sub_bytes s) inverse_sbox ∙ length-map s sbox)
    (λ i lt.
    let ls = length-map s sbox in
    let li = length-map (sub_bytes s) inverse_sbox in
    get_or-map inverse_sbox (sub_bytes s) i 0 0 (omega arith) ∙ ap inverse_sbox (get_or-map sbox s i 0 0 (omega arith)) ∙ inverse_sbox-sbox (get_or s i 0) (state.bytes i))

-- ---- ShiftRows

pub by_index : (s : List ℕ) → length s ≡ 16 → s ≡ bytes_by 16 (λ k. get_or s k 0)
by_index s len = fill_by_all (λ k. get_or s k 0) s 16 0 len (λ k lt. refl)

inverse_shift_rows-shift_rows : (s : List ℕ) → length s ≡ 16 → inverse_shift_rows (shift_rows s) ≡ s
inverse_shift_rows-shift_rows s len = sym (by_index s len)

-- ---- MixColumns

-- a product is additive
times_bits-xor : (a x y n : ℕ) → times_bits a (bit_xor x y) n ≡ bit_xor (times_bits a x n) (times_bits a y n)
times_bits-xor a x y zero = refl
times_bits-xor a x y (suc n) =
    let half : bit_xor x y / 2 ≡ bit_xor (x / 2) (y / 2) = xor_shr x y 1 in
    let rest = times_bits-xor (times_x a) (x / 2) (y / 2) n in
    (λ i. bit_xor (bit_of_xor x y a i) (times_bits (times_x a) (half i) n))
    ∙ ap (bit_xor (bit_xor (x % 2 * a) (y % 2 * a))) rest
    ∙ xor_swap (x % 2 * a) (y % 2 * a) (times_bits (times_x a) (x / 2) n) (times_bits (times_x a) (y / 2) n)

pub times-xor : (a x y : ℕ) → times a (bit_xor x y) ≡ bit_xor (times a x) (times a y)
unfolding times
times-xor a x y = times_bits-xor a x y 8

-- the sum of four bytes
abbrev pub sum4 : ℕ → ℕ → ℕ → ℕ → ℕ
sum4 w x y z = bit_xor (bit_xor (bit_xor w x) y) z

pub sum4-xor : (a b c d p q r s : ℕ) → bit_xor (sum4 a b c d) (sum4 p q r s) ≡ sum4 (bit_xor a p) (bit_xor b q) (bit_xor c r) (bit_xor d s)
sum4-xor a b c d p q r s =
    xor_swap (bit_xor (bit_xor a b) c) d (bit_xor (bit_xor p q) r) s
    ∙ ap (λ (k : ℕ). bit_xor k (bit_xor d s)) (xor_swap (bit_xor a b) c (bit_xor p q) r ∙ ap (λ (k : ℕ). bit_xor k (bit_xor c r)) (xor_swap a b p q))

pub sum4-rotated : (w x y z : ℕ) → sum4 x y z w ≡ sum4 w x y z
sum4-rotated w x y z =
    xor_comm (bit_xor (bit_xor x y) z) w ∙ sym (xor_assoc w (bit_xor x y) z) ∙ ap (λ (k : ℕ). bit_xor k z) (sym (xor_assoc w x y))

times-sum4 : (k w x y z : ℕ) → times k (sum4 w x y z) ≡ sum4 (times k w) (times k x) (times k y) (times k z)
times-sum4 k w x y z =
    times-xor k (bit_xor (bit_xor w x) y) z
    ∙ ap (λ (n : ℕ). bit_xor n (times k z)) (times-xor k (bit_xor w x) y ∙ ap (λ (n : ℕ). bit_xor n (times k y)) (times-xor k w x))

-- four rows of four terms, added by columns
sum4-columns : (a b c d e f g h i j k l m n o p : ℕ)
    → sum4 (sum4 a b c d) (sum4 e f g h) (sum4 i j k l) (sum4 m n o p) ≡ sum4 (sum4 a e i m) (sum4 b f j n) (sum4 c g k o) (sum4 d h l p)
sum4-columns a b c d e f g h i j k l m n o p =
    ap (λ (x : ℕ). bit_xor (bit_xor x (sum4 i j k l)) (sum4 m n o p)) (sum4-xor a b c d e f g h)
    ∙ ap (λ (x : ℕ). bit_xor x (sum4 m n o p)) (sum4-xor (bit_xor a e) (bit_xor b f) (bit_xor c g) (bit_xor d h) i j k l)
    ∙ sum4-xor (bit_xor (bit_xor a e) i) (bit_xor (bit_xor b f) j) (bit_xor (bit_xor c g) k) (bit_xor (bit_xor d h) l) m n o p

-- the four entries of a row of the product of the two matrices: 1 0 0 0
own_is : map (λ a. sum4 (times 14 (times 2 a)) (times 11 (times 1 a)) (times 13 (times 1 a)) (times 9 (times 3 a))) (range_with_len 0 256) ≡ map (λ a. a) (range_with_len 0 256)
unfolding times
own_is = refl

next_is : map (λ a. sum4 (times 14 (times 3 a)) (times 11 (times 2 a)) (times 13 (times 1 a)) (times 9 (times 1 a))) (range_with_len 0 256) ≡ map (λ a. 0) (range_with_len 0 256)
unfolding times
next_is = refl

opposite_is : map (λ a. sum4 (times 14 (times 1 a)) (times 11 (times 3 a)) (times 13 (times 2 a)) (times 9 (times 1 a))) (range_with_len 0 256) ≡ map (λ a. 0) (range_with_len 0 256)
unfolding times
opposite_is = refl

before_is : map (λ a. sum4 (times 14 (times 1 a)) (times 11 (times 1 a)) (times 13 (times 3 a)) (times 9 (times 2 a))) (range_with_len 0 256) ≡ map (λ a. 0) (range_with_len 0 256)
unfolding times
before_is = refl

abbrev mixed : ℕ → ℕ → ℕ → ℕ → ℕ
mixed a b c d = sum4 (times 2 a) (times 3 b) (times 1 c) (times 1 d)

unmixed : (a b c d : ℕ) → a < 256 → b < 256 → c < 256 → d < 256
    → sum4 (times 14 (mixed a b c d)) (times 11 (mixed b c d a)) (times 13 (mixed c d a b)) (times 9 (mixed d a b c)) ≡ a
unmixed a b c d la lb lc ld =
    let r1 = times-sum4 14 (times 2 a) (times 3 b) (times 1 c) (times 1 d) in
    let r2 = times-sum4 11 (times 2 b) (times 3 c) (times 1 d) (times 1 a) ∙ sum4-rotated (times 11 (times 1 a)) (times 11 (times 2 b)) (times 11 (times 3 c)) (times 11 (times 1 d)) in
    let r3 = times-sum4 13 (times 2 c) (times 3 d) (times 1 a) (times 1 b)
    ∙ sum4-rotated (times 13 (times 1 b)) (times 13 (times 2 c)) (times 13 (times 3 d)) (times 13 (times 1 a))
    ∙ sum4-rotated (times 13 (times 1 a)) (times 13 (times 1 b)) (times 13 (times 2 c)) (times 13 (times 3 d)) in
    let r4 = times-sum4 9 (times 2 d) (times 3 a) (times 1 b) (times 1 c)
    ∙ sum4-rotated (times 9 (times 1 c)) (times 9 (times 2 d)) (times 9 (times 3 a)) (times 9 (times 1 b))
    ∙ sum4-rotated (times 9 (times 1 b)) (times 9 (times 1 c)) (times 9 (times 2 d)) (times 9 (times 3 a))
    ∙ sum4-rotated (times 9 (times 3 a)) (times 9 (times 1 b)) (times 9 (times 1 c)) (times 9 (times 2 d)) in
    let own = agree_at (λ a. sum4 (times 14 (times 2 a)) (times 11 (times 1 a)) (times 13 (times 1 a)) (times 9 (times 3 a))) (λ a. a) 256 a own_is la in
    let next = agree_at (λ a. sum4 (times 14 (times 3 a)) (times 11 (times 2 a)) (times 13 (times 1 a)) (times 9 (times 1 a))) (λ a. 0) 256 b next_is lb in
    let opposite = agree_at (λ a. sum4 (times 14 (times 1 a)) (times 11 (times 3 a)) (times 13 (times 2 a)) (times 9 (times 1 a))) (λ a. 0) 256 c opposite_is lc in
    let before = agree_at (λ a. sum4 (times 14 (times 1 a)) (times 11 (times 1 a)) (times 13 (times 3 a)) (times 9 (times 2 a))) (λ a. 0) 256 d before_is ld in
    (λ i. sum4 (r1 i) (r2 i) (r3 i) (r4 i))
    ∙ sum4-columns (times 14 (times 2 a)) (times 14 (times 3 b)) (times 14 (times 1 c)) (times 14 (times 1 d))
    (times 11 (times 1 a)) (times 11 (times 2 b)) (times 11 (times 3 c)) (times 11 (times 1 d))
    (times 13 (times 1 a)) (times 13 (times 1 b)) (times 13 (times 2 c)) (times 13 (times 3 d))
    (times 9 (times 3 a)) (times 9 (times 1 b)) (times 9 (times 1 c)) (times 9 (times 2 d))
    ∙ (λ i. sum4 (own i) (next i) (opposite i) (before i))
    ∙ xor_zero_r (bit_xor (bit_xor a 0) 0) ∙ xor_zero_r (bit_xor a 0) ∙ xor_zero_r a

inverse_mix_columns-mix_columns : (s : List ℕ) → IsState s → inverse_mix_columns (mix_columns s) ≡ s
inverse_mix_columns-mix_columns s state =
    let at : (i j k l : ℕ) → sum4 (times 14 (mixed (get_or s i 0) (get_or s j 0) (get_or s k 0) (get_or s l 0))) (times 11 (mixed (get_or s j 0) (get_or s k 0) (get_or s l 0) (get_or s i 0))) (times 13 (mixed (get_or s k 0) (get_or s l 0) (get_or s i 0) (get_or s j 0))) (times 9 (mixed (get_or s l 0) (get_or s i 0) (get_or s j 0) (get_or s k 0))) ≡ get_or s i 0 =
    λ i j k l. unmixed (get_or s i 0) (get_or s j 0) (get_or s k 0) (get_or s l 0) (state.bytes i) (state.bytes j) (state.bytes k) (state.bytes l) in
    (λ i.
    at 0 1 2 3 i ∷ at 1 2 3 0 i ∷ at 2 3 0 1 i ∷ at 3 0 1 2 i
    ∷ at 4 5 6 7 i ∷ at 5 6 7 4 i ∷ at 6 7 4 5 i ∷ at 7 4 5 6 i
    ∷ at 8 9 10 11 i ∷ at 9 10 11 8 i ∷ at 10 11 8 9 i ∷ at 11 8 9 10 i
    ∷ at 12 13 14 15 i ∷ at 13 14 15 12 i ∷ at 14 15 12 13 i ∷ at 15 12 13 14 i ∷ [])
    ∙ sym (by_index s state.long)

-- ---- AddRoundKey, and the whole

pub xor-xor : (s k : List ℕ) → length s ≡ length k → xor (xor s k) k ≡ s
xor-xor s k same =
    let l1 = length-zip2 bit_xor s k same in
    let l2 = length-zip2 bit_xor (xor s k) k (l1 ∙ same) in
    ext_get_or 0 _ s (l2 ∙ l1) (λ i lt.
    get_or-zip2 bit_xor (xor s k) k i 0 0 0 (omega arith) (omega arith)
    ∙ ap (λ (x : ℕ). bit_xor x (get_or k i 0)) (get_or-zip2 bit_xor s k i 0 0 0 (omega arith) (omega arith))
    ∙ xor_assoc (get_or s i 0) (get_or k i 0) (get_or k i 0) ∙ ap (bit_xor (get_or s i 0)) (xor_self (get_or k i 0)) ∙ xor_zero_r (get_or s i 0))

-- every round key is a state
abbrev pub AreRoundKeys : List ℕ → ℕ → Type 0
AreRoundKeys w m = (r : ℕ) → r ≤ m + 1 → IsState (round_key w r)

pub get_or-small : (s : List ℕ) → ((k : ℕ) → k < length s → get_or s k 0 < 256) → (k : ℕ) → get_or s k 0 < 256
get_or-small s here k = elim (cases_lt k (length s)) [ inl lt ↦ here k lt | inr ge ↦ let none : get_or s k 0 ≡ 0 = get_or_past s k 0 ge in omega (arith, none) ]

pub IsState-xor : (s k : List ℕ) → IsState s → IsState k → IsState (xor s k)
IsState-xor s k hs hk =
    let ls = hs.long in
    let lk = hk.long in
    let lx = length-zip2 bit_xor s k (omega arith) in
    record {
      long = lx ∙ ls;
      bytes = get_or-small (xor s k) (λ i lt.
          let e = get_or-zip2 bit_xor s k i 0 0 0 (omega arith) (omega arith) in
          let small = xor_of_8 (get_or s i 0) (get_or k i 0) (hs.bytes i) (hk.bytes i) in
          omega (arith, e, small));
    }

pub IsState-sub_bytes : (s : List ℕ) → length s ≡ 16 → IsState (sub_bytes s)
IsState-sub_bytes s len =
    let ls = length-map s sbox in
    record {
      long = ls ∙ len;
      bytes = get_or-small (sub_bytes s) (λ i lt.
          let e = get_or-map sbox s i 0 0 (omega arith) in
          let small = sbox-lt (get_or s i 0) in
          omega (arith, e, small));
    }

pub IsState-bytes_by : (f : ℕ → ℕ) → ((k : ℕ) → f k < 256) → IsState (bytes_by 16 f)
IsState-bytes_by f small = record {
  long = length-map-range_with_len f 0 16;
  bytes = get_or-small (bytes_by 16 f) (λ i lt.
      let len = length-map-range_with_len f 0 16 in
      let e = get_or-map-range_with_len f 0 16 i i 0 (omega arith) (zero-add i) in
      let h = small i in
      omega (arith, e, h));
}

pub IsState-shift_rows : (s : List ℕ) → IsState s → IsState (shift_rows s)
IsState-shift_rows s h = IsState-bytes_by (λ k. get_or s ((k + 4 * (k % 4)) % 16) 0) (λ k. h.bytes ((k + 4 * (k % 4)) % 16))

pub IsState-mix_columns : (s : List ℕ) → IsState (mix_columns s)
IsState-mix_columns s = IsState-bytes_by (circulant_byte (2 ∷ 3 ∷ 1 ∷ 1 ∷ []) s) (λ k.
    let g : ℕ → ℕ = λ i. get_or s (k / 4 * 4 + (k + i) % 4) 0 in
    let two = times-lt 2 (g 0) (lit< tt) in
    let three = times-lt 3 (g 1) (lit< tt) in
    let one = times-lt 1 (g 2) (lit< tt) in
    let last = times-lt 1 (g 3) (lit< tt) in
    let ab = xor_of_8 (times 2 (g 0)) (times 3 (g 1)) two three in
    let abc = xor_of_8 (bit_xor (times 2 (g 0)) (times 3 (g 1))) (times 1 (g 2)) ab one in
    xor_of_8 (bit_xor (bit_xor (times 2 (g 0)) (times 3 (g 1))) (times 1 (g 2))) (times 1 (g 3)) abc last)

pub IsState-after_rounds : (w b : List ℕ) (m n : ℕ) → IsState b → AreRoundKeys w m → n ≤ m → IsState (after_rounds w b n)
unfolding after_rounds
IsState-after_rounds w b m zero hb keys le = IsState-xor b (round_key w 0) hb (keys 0 (omega arith))
IsState-after_rounds w b m (suc n) hb keys le =
    IsState-xor (mix_columns (shift_rows (sub_bytes (after_rounds w b n)))) (round_key w (n + 1)) (IsState-mix_columns (shift_rows (sub_bytes (after_rounds w b n)))) (keys (n + 1) (omega arith))

-- what a round leaves before MixColumns
abbrev half_round : List ℕ → List ℕ
half_round s = shift_rows (sub_bytes s)

unhalf : (s : List ℕ) → IsState s → inverse_sub_bytes (inverse_shift_rows (half_round s)) ≡ s
unhalf s h = ap inverse_sub_bytes (inverse_shift_rows-shift_rows (sub_bytes s) ((IsState-sub_bytes s h.long).long)) ∙ inverse_sub_bytes-sub_bytes s h

-- after n inverse rounds of a block that m + 1 rounds gave: as after m - n rounds and half of the next
after_inverse_rounds-enciphered : (w b : List ℕ) (m n : ℕ) → IsState b → AreRoundKeys w m → n ≤ m
    → after_inverse_rounds w m (enciphered w m b) n ≡ half_round (after_rounds w b (m - n))
unfolding after_inverse_rounds after_rounds
after_inverse_rounds-enciphered w b m zero hb keys le =
    let st = IsState-after_rounds w b m m hb keys (omega arith) in
    let sub = IsState-sub_bytes (after_rounds w b m) st.long in
    let half = IsState-shift_rows (sub_bytes (after_rounds w b m)) sub in
    let whole : m - 0 ≡ m = omega arith in
    let lk = (keys (m + 1) (omega arith)).long in
    xor-xor (half_round (after_rounds w b m)) (round_key w (m + 1)) (half.long ∙ sym lk) ∙ ap (λ (k : ℕ). half_round (after_rounds w b k)) (sym whole)
after_inverse_rounds-enciphered w b m (suc n) hb keys le =
    let before = after_inverse_rounds-enciphered w b m n hb keys (omega arith) in
    let j : ℕ = m - suc n in
    let at : m - n ≡ suc j = omega arith in
    let st = IsState-after_rounds w b m (m - n) hb keys (omega arith) in
    let earlier = IsState-after_rounds w b m j hb keys (omega arith) in
    let half = IsState-shift_rows (sub_bytes (after_rounds w b j)) (IsState-sub_bytes (after_rounds w b j) earlier.long) in
    let mixed_state = IsState-mix_columns (half_round (after_rounds w b j)) in
    let lk = (keys (j + 1) (omega arith)).long in
    let next : j + 1 ≡ m - n = omega arith in
    let undone : inverse_sub_bytes (inverse_shift_rows (after_inverse_rounds w m (enciphered w m b) n)) ≡ after_rounds w b (suc j) =
    ap (λ (s : List ℕ). inverse_sub_bytes (inverse_shift_rows s)) before ∙ unhalf (after_rounds w b (m - n)) st ∙ ap (after_rounds w b) at in
    ap (λ (s : List ℕ). inverse_mix_columns (xor s (round_key w (m - n)))) undone
    ∙ ap (λ (k : ℕ). inverse_mix_columns (xor (after_rounds w b (suc j)) (round_key w k))) (sym next)
    ∙ ap inverse_mix_columns (xor-xor (mix_columns (half_round (after_rounds w b j))) (round_key w (j + 1)) (mixed_state.long ∙ sym lk))
    ∙ inverse_mix_columns-mix_columns (half_round (after_rounds w b j)) half

pub deciphered-enciphered : (w b : List ℕ) (m : ℕ) → IsState b → AreRoundKeys w m → deciphered w m (enciphered w m b) ≡ b
unfolding after_rounds
deciphered-enciphered w b m hb keys =
    let before = after_inverse_rounds-enciphered w b m m hb keys (omega arith) in
    let none : m - m ≡ 0 = omega arith in
    let st = IsState-after_rounds w b m 0 hb keys (omega arith) in
    let lb = hb.long in
    let lk = (keys 0 (omega arith)).long in
    ap (λ (s : List ℕ). xor (inverse_sub_bytes (inverse_shift_rows s)) (round_key w 0)) (before ∙ ap (λ (k : ℕ). half_round (after_rounds w b k)) none)
    ∙ ap (λ (s : List ℕ). xor s (round_key w 0)) (unhalf (after_rounds w b 0) st)
    ∙ xor-xor b (round_key w 0) (lb ∙ sym lk)
