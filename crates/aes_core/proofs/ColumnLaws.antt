-- Each entry of the tables of columns, a column from four of them, and a round by columns.
use Rattle.std.proofs.Common.{◌≡◌, ℕ, zero, suc, ◌^◌, ◌+◌, ◌-◌, ◌*◌, ◌<◌, ◌/◌, ◌%◌, List, [], ◌∷◌, length, map, get_or, bit_xor, bit_and, refl, sym, ap, subst, ◌∙◌, arith, lit<, zero-add}
use Rattle.std.proofs.lemmas.Nat.{xor_block, xor_of_8}
use Rattle.std.specs.Int.Bits.{xor_zero_l, xor_zero_r}
use Rattle.std.specs.List.{range_with_len}
use Rattle.std.proofs.lemmas.List.{get_or-map}
use Rattle.std.proofs.lemmas.List.FromFn.{get_or-map-range_with_len}
use Rattle.std.specs.Simd.Lanes.{digits_l, number_l}
use Rattle.aes_core.specs.Field.{times}
use Rattle.std.proofs.lemmas.Simd.{get_or-zip2, get_or-chunk}
use Rattle.aes_core.specs.Aes.{sbox, inverse_affine, inverse_sbox, after_inverse_rounds, bytes_by, xor, sub_bytes, shift_rows, mix_columns, inverse_sub_bytes, inverse_shift_rows, inverse_mix_columns, circulant_byte, round_key}
use Rattle.aes_core.proofs.Boxes.{sbox_table, sbox_entry}
use Rattle.aes_core.specs.State.{IsState}
use Rattle.aes_core.proofs.Inverse.{by_index, times-lt, power-lt, sum4, sum4-rotated, sbox-lt, IsState-sub_bytes, IsState-shift_rows, IsState-mix_columns, IsState-bytes_by, IsState-xor}
use Rattle.aes_core.specs.Columns.{word_of, word_at, words_of, mixed_word}
use Rattle.aes_core.specs.declared.column_tables.TheConstants.{ROW_0, ROW_1, ROW_2, ROW_3}

-- what a table has at x, if f makes the table from that of the S-box
row_entry : (row : List ℕ) (f : ℕ → ℕ) (x : ℕ) → map f sbox_table ≡ row → x < 256 → get_or row x 0 ≡ f (sbox x)
row_entry row f x same lt = sym (ap (λ (l : List ℕ). get_or l x 0) same) ∙ get_or-map f sbox_table x 0 0 lt ∙ ap f (sbox_entry x lt)

entries0 : map (λ y. word_of (times 2 y) (times 1 y) (times 1 y) (times 3 y)) sbox_table ≡ ROW_0
unfolding times
entries0 = refl

entry0 : (x : ℕ) → x < 256 → get_or ROW_0 x 0 ≡ word_of (times 2 (sbox x)) (times 1 (sbox x)) (times 1 (sbox x)) (times 3 (sbox x))
entry0 x lt = row_entry ROW_0 (λ y. word_of (times 2 y) (times 1 y) (times 1 y) (times 3 y)) x entries0 lt

entries1 : map (λ y. word_of (times 3 y) (times 2 y) (times 1 y) (times 1 y)) sbox_table ≡ ROW_1
unfolding times
entries1 = refl

entry1 : (x : ℕ) → x < 256 → get_or ROW_1 x 0 ≡ word_of (times 3 (sbox x)) (times 2 (sbox x)) (times 1 (sbox x)) (times 1 (sbox x))
entry1 x lt = row_entry ROW_1 (λ y. word_of (times 3 y) (times 2 y) (times 1 y) (times 1 y)) x entries1 lt

entries2 : map (λ y. word_of (times 1 y) (times 3 y) (times 2 y) (times 1 y)) sbox_table ≡ ROW_2
unfolding times
entries2 = refl

entry2 : (x : ℕ) → x < 256 → get_or ROW_2 x 0 ≡ word_of (times 1 (sbox x)) (times 3 (sbox x)) (times 2 (sbox x)) (times 1 (sbox x))
entry2 x lt = row_entry ROW_2 (λ y. word_of (times 1 y) (times 3 y) (times 2 y) (times 1 y)) x entries2 lt

entries3 : map (λ y. word_of (times 1 y) (times 1 y) (times 3 y) (times 2 y)) sbox_table ≡ ROW_3
unfolding times
entries3 = refl

entry3 : (x : ℕ) → x < 256 → get_or ROW_3 x 0 ≡ word_of (times 1 (sbox x)) (times 1 (sbox x)) (times 3 (sbox x)) (times 2 (sbox x))
entry3 x lt = row_entry ROW_3 (λ y. word_of (times 1 y) (times 1 y) (times 3 y) (times 2 y)) x entries3 lt

word_of-xor : (a b c d e f g h : ℕ) → a < 256 → b < 256 → c < 256 → e < 256 → f < 256 → g < 256
    → bit_xor (word_of a b c d) (word_of e f g h) ≡ word_of (bit_xor a e) (bit_xor b f) (bit_xor c g) (bit_xor d h)
word_of-xor a b c d e f g h la lb lc le lf lg =
    xor_block 8 ((d * 256 + c) * 256 + b) ((h * 256 + g) * 256 + f) a e la le
    ∙ ap (λ (k : ℕ). k * 256 + bit_xor a e)
    (xor_block 8 (d * 256 + c) (h * 256 + g) b f lb lf ∙ ap (λ (k : ℕ). k * 256 + bit_xor b f) (xor_block 8 d h c g lc lg))

-- the sum of the four entries
pub column_is : (a b c d : ℕ) → a < 256 → b < 256 → c < 256 → d < 256
    → bit_xor (bit_xor (bit_xor (get_or ROW_0 a 0) (get_or ROW_1 b 0)) (get_or ROW_2 c 0)) (get_or ROW_3 d 0) ≡ mixed_word (sbox a) (sbox b) (sbox c) (sbox d)
column_is a b c d la lb lc ld =
    let w = sbox a in let x = sbox b in let y = sbox c in let z = sbox d in
    let t : (k s : ℕ) → k < 256 → times k s < 256 = λ k s lt. times-lt k s lt in
    let two : 2 < 256 = lit< tt in let three : 3 < 256 = lit< tt in let one : 1 < 256 = lit< tt in
    let s2 : (p q : ℕ) → p < 256 → q < 256 → bit_xor p q < 256 = xor_of_8 in
    let ab = word_of-xor (times 2 w) (times 1 w) (times 1 w) (times 3 w) (times 3 x) (times 2 x) (times 1 x) (times 1 x)
    (t 2 w two) (t 1 w one) (t 1 w one) (t 3 x three) (t 2 x two) (t 1 x one) in
    let abc = word_of-xor (bit_xor (times 2 w) (times 3 x)) (bit_xor (times 1 w) (times 2 x)) (bit_xor (times 1 w) (times 1 x)) (bit_xor (times 3 w) (times 1 x))
    (times 1 y) (times 3 y) (times 2 y) (times 1 y)
    (s2 _ _ (t 2 w two) (t 3 x three)) (s2 _ _ (t 1 w one) (t 2 x two)) (s2 _ _ (t 1 w one) (t 1 x one)) (t 1 y one) (t 3 y three) (t 2 y two) in
    let abcd = word_of-xor (bit_xor (bit_xor (times 2 w) (times 3 x)) (times 1 y)) (bit_xor (bit_xor (times 1 w) (times 2 x)) (times 3 y)) (bit_xor (bit_xor (times 1 w) (times 1 x)) (times 2 y)) (bit_xor (bit_xor (times 3 w) (times 1 x)) (times 1 y))
    (times 1 z) (times 1 z) (times 3 z) (times 2 z)
    (s2 _ _ (s2 _ _ (t 2 w two) (t 3 x three)) (t 1 y one)) (s2 _ _ (s2 _ _ (t 1 w one) (t 2 x two)) (t 3 y three)) (s2 _ _ (s2 _ _ (t 1 w one) (t 1 x one)) (t 2 y two))
    (t 1 z one) (t 1 z one) (t 3 z three) in
    (λ i. bit_xor (bit_xor (bit_xor (entry0 a la i) (entry1 b lb i)) (entry2 c lc i)) (entry3 d ld i))
    ∙ ap (λ (k : ℕ). bit_xor (bit_xor k (word_of (times 1 y) (times 3 y) (times 2 y) (times 1 y))) (word_of (times 1 z) (times 1 z) (times 3 z) (times 2 z))) ab
    ∙ ap (λ (k : ℕ). bit_xor k (word_of (times 1 z) (times 1 z) (times 3 z) (times 2 z))) abc ∙ abcd
    ∙ (λ i. word_of (sum4 (times 2 w) (times 3 x) (times 1 y) (times 1 z))
    (sym (sum4-rotated (times 1 w) (times 2 x) (times 3 y) (times 1 z)) i)
    ((sym (sum4-rotated (times 1 w) (times 1 x) (times 2 y) (times 3 z)) ∙ sym (sum4-rotated (times 1 x) (times 2 y) (times 3 z) (times 1 w))) i)
    (sum4-rotated (times 2 z) (times 3 w) (times 1 x) (times 1 y) i))

-- ---- the S-box in the tables

-- the part of an entry under a mask, if f makes these parts from the table of the S-box
part_entry : (row : List ℕ) (mask : ℕ) (f : ℕ → ℕ) (x : ℕ) → length row ≡ 256 → map (λ w. bit_and w mask) row ≡ map f sbox_table → x < 256
    → bit_and (get_or row x 0) mask ≡ f (sbox x)
part_entry row mask f x long same lt =
    sym (get_or-map (λ w. bit_and w mask) row x 0 0 (omega arith)) ∙ ap (λ (l : List ℕ). get_or l x 0) same
    ∙ get_or-map f sbox_table x 0 0 lt ∙ ap f (sbox_entry x lt)

sbox_entries0 : map (λ w. bit_and w 0xFF) ROW_2 ≡ map (λ y. word_of y 0 0 0) sbox_table
sbox_entries0 = refl

sbox_entries1 : map (λ w. bit_and w 0xFF00) ROW_3 ≡ map (λ y. word_of 0 y 0 0) sbox_table
sbox_entries1 = refl

sbox_entries2 : map (λ w. bit_and w 0xFF0000) ROW_0 ≡ map (λ y. word_of 0 0 y 0) sbox_table
sbox_entries2 = refl

sbox_entries3 : map (λ w. bit_and w 0xFF000000) ROW_1 ≡ map (λ y. word_of 0 0 0 y) sbox_table
sbox_entries3 = refl

-- the sum of four entries, each with its S-box alone
pub substituted_is : (a b c d : ℕ) → a < 256 → b < 256 → c < 256 → d < 256
    → bit_xor (bit_xor (bit_xor (bit_and (get_or ROW_2 a 0) 0xFF) (bit_and (get_or ROW_3 b 0) 0xFF00)) (bit_and (get_or ROW_0 c 0) 0xFF0000)) (bit_and (get_or ROW_1 d 0) 0xFF000000)
    ≡ word_of (sbox a) (sbox b) (sbox c) (sbox d)
substituted_is a b c d la lb lc ld =
    let w = sbox a in let x = sbox b in let y = sbox c in let z = sbox d in
    let lw = sbox-lt a in let lx = sbox-lt b in let ly = sbox-lt c in
    let none : 0 < 256 = lit< tt in
    let e0 = part_entry ROW_2 0xFF (λ y. word_of y 0 0 0) a refl sbox_entries0 la in
    let e1 = part_entry ROW_3 0xFF00 (λ y. word_of 0 y 0 0) b refl sbox_entries1 lb in
    let e2 = part_entry ROW_0 0xFF0000 (λ y. word_of 0 0 y 0) c refl sbox_entries2 lc in
    let e3 = part_entry ROW_1 0xFF000000 (λ y. word_of 0 0 0 y) d refl sbox_entries3 ld in
    let ab : bit_xor (word_of w 0 0 0) (word_of 0 x 0 0) ≡ word_of w x 0 0 = word_of-xor w 0 0 0 0 x 0 0 lw none none none lx none ∙ (λ i. word_of (xor_zero_r w i) (xor_zero_l x i) 0 0) in
    let abc : bit_xor (word_of w x 0 0) (word_of 0 0 y 0) ≡ word_of w x y 0 = word_of-xor w x 0 0 0 0 y 0 lw lx none none none ly ∙ (λ i. word_of (xor_zero_r w i) (xor_zero_r x i) (xor_zero_l y i) 0) in
    let abcd : bit_xor (word_of w x y 0) (word_of 0 0 0 z) ≡ word_of w x y z = word_of-xor w x y 0 0 0 0 z lw lx ly none none none ∙ (λ i. word_of (xor_zero_r w i) (xor_zero_r x i) (xor_zero_r y i) (xor_zero_l z i)) in
    (λ i. bit_xor (bit_xor (bit_xor (e0 i) (e1 i)) (e2 i)) (e3 i))
    ∙ ap (λ (k : ℕ). bit_xor (bit_xor k (word_of 0 0 y 0)) (word_of 0 0 0 z)) ab
    ∙ ap (λ (k : ℕ). bit_xor k (word_of 0 0 0 z)) abc ∙ abcd

-- ---- the bytes of four words

-- bytes are the digits of their number
pub digits_number : (xs : List ℕ) → ((k : ℕ) → get_or xs k 0 < 256) → digits_l (2 ^ 8) (length xs) (number_l (2 ^ 8) xs) ≡ xs
digits_number [] h = refl
digits_number (x ∷ xs) h =
    let n : ℕ = number_l (2 ^ 8) xs in
    let small : x < 256 = h 0 in
    let e : (x + 256 * n) % 256 ≡ x = omega (arith, small) in
    let d : (x + 256 * n) / 256 ≡ n = omega (arith, small) in
    (λ i. e i ∷ (ap (digits_l (2 ^ 8) (length xs)) d ∙ digits_number xs (λ k. h (suc k))) i)

bytes_of_words : (xs : List ℕ) → length xs ≡ 16 → ((k : ℕ) → get_or xs k 0 < 256) → (let b : ℕ → ℕ = λ k. get_or xs k 0 in
    digits_l (2 ^ 8) 16 (number_l (2 ^ 32) (word_of (b 0) (b 1) (b 2) (b 3) ∷ word_of (b 4) (b 5) (b 6) (b 7) ∷ word_of (b 8) (b 9) (b 10) (b 11) ∷ word_of (b 12) (b 13) (b 14) (b 15) ∷ []))) ≡ xs
bytes_of_words xs len small =
    let b : ℕ → ℕ = λ k. get_or xs k 0 in
    let ys : List ℕ = bytes_by 16 b in
    let e : xs ≡ ys = by_index xs len in
    let whole : number_l (2 ^ 32) (word_of (b 0) (b 1) (b 2) (b 3) ∷ word_of (b 4) (b 5) (b 6) (b 7) ∷ word_of (b 8) (b 9) (b 10) (b 11) ∷ word_of (b 12) (b 13) (b 14) (b 15) ∷ []) ≡ number_l (2 ^ 8) ys = omega arith in
    ap (digits_l (2 ^ 8) 16) whole ∙ digits_number ys (subst (λ (l : List ℕ). (k : ℕ) → get_or l k 0 < 256) e small) ∙ sym e

-- one word more
word_more : (x m k : ℕ) → x < 2 ^ 32 → digits_l (2 ^ 32) (suc k) (x + 4294967296 * m) ≡ x ∷ digits_l (2 ^ 32) k m
word_more x m k small =
    let e : (x + 4294967296 * m) % 4294967296 ≡ x = omega (arith, small) in
    let d : (x + 4294967296 * m) / 4294967296 ≡ m = omega (arith, small) in
    (λ i. e i ∷ ap (digits_l (2 ^ 32) k) d i)

-- ---- a state by its words

-- the words of a state
pub words_are : (s : List ℕ) → IsState s → digits_l (2 ^ 32) 4 (number_l (2 ^ 8) s) ≡ words_of s
words_are s h =
    let b : ℕ → ℕ = λ k. get_or s k 0 in
    let w0 : ℕ = word_of (b 0) (b 1) (b 2) (b 3) in
    let w1 : ℕ = word_of (b 4) (b 5) (b 6) (b 7) in
    let w2 : ℕ = word_of (b 8) (b 9) (b 10) (b 11) in
    let w3 : ℕ = word_of (b 12) (b 13) (b 14) (b 15) in
    let b0 = h.bytes 0 in let b1 = h.bytes 1 in let b2 = h.bytes 2 in let b3 = h.bytes 3 in let b4 = h.bytes 4 in let b5 = h.bytes 5 in let b6 = h.bytes 6 in let b7 = h.bytes 7 in
    let b8 = h.bytes 8 in let b9 = h.bytes 9 in let b10 = h.bytes 10 in let b11 = h.bytes 11 in let b12 = h.bytes 12 in let b13 = h.bytes 13 in let b14 = h.bytes 14 in let b15 = h.bytes 15 in
    let whole : number_l (2 ^ 8) (bytes_by 16 b) ≡ w0 + 4294967296 * (w1 + 4294967296 * (w2 + 4294967296 * (w3 + 4294967296 * 0))) = omega arith in
    ap (λ (l : List ℕ). digits_l (2 ^ 32) 4 (number_l (2 ^ 8) l)) (by_index s h.long)
    ∙ ap (digits_l (2 ^ 32) 4) whole
    ∙ word_more w0 (w1 + 4294967296 * (w2 + 4294967296 * (w3 + 4294967296 * 0))) 3 (omega (arith, b0, b1, b2, b3))
    ∙ ap (λ (l : List ℕ). w0 ∷ l) (word_more w1 (w2 + 4294967296 * (w3 + 4294967296 * 0)) 2 (omega (arith, b4, b5, b6, b7))
    ∙ ap (λ (l : List ℕ). w1 ∷ l) (word_more w2 (w3 + 4294967296 * 0) 1 (omega (arith, b8, b9, b10, b11))
    ∙ ap (λ (l : List ℕ). w2 ∷ l) (word_more w3 0 0 (omega (arith, b12, b13, b14, b15)))))

-- the state of four words
pub state_is : (w s : List ℕ) → IsState s → w ≡ words_of s → digits_l (2 ^ 8) 16 (number_l (2 ^ 32) w) ≡ s
state_is w s state e = ap (λ (l : List ℕ). digits_l (2 ^ 8) 16 (number_l (2 ^ 32) l)) e ∙ bytes_of_words s state.long state.bytes

-- the bytes of a word
byte_0 : (a b c d : ℕ) → a < 256 → word_of a b c d % 256 ≡ a
byte_0 a b c d la = omega arith

byte_1 : (a b c d : ℕ) → a < 256 → b < 256 → word_of a b c d / 2 ^ 8 % 256 ≡ b
byte_1 a b c d la lb = omega arith

byte_2 : (a b c d : ℕ) → a < 256 → b < 256 → c < 256 → word_of a b c d / 2 ^ 16 % 256 ≡ c
byte_2 a b c d la lb lc = omega arith

byte_3 : (a b c d : ℕ) → a < 256 → b < 256 → c < 256 → word_of a b c d / 2 ^ 24 ≡ d
byte_3 a b c d la lb lc = omega arith

-- the word of a sum
word_at-xor : (x y : List ℕ) (i : ℕ) → IsState x → IsState y → i + 3 < 16 → word_at (xor x y) i ≡ bit_xor (word_at x i) (word_at y i)
word_at-xor x y i hx hy lt =
    let lx = hx.long in
    let ly = hy.long in
    let at : (k : ℕ) → k < 16 → get_or (xor x y) k 0 ≡ bit_xor (get_or x k 0) (get_or y k 0) = λ k small. get_or-zip2 bit_xor x y k 0 0 0 (omega arith) (omega arith) in
    let e0 = at i (omega arith) in
    let e1 = at (i + 1) (omega arith) in
    let e2 = at (i + 2) (omega arith) in
    let e3 = at (i + 3) lt in
    (λ j. word_of (e0 j) (e1 j) (e2 j) (e3 j))
    ∙ sym (word_of-xor (get_or x i 0) (get_or x (i + 1) 0) (get_or x (i + 2) 0) (get_or x (i + 3) 0) (get_or y i 0) (get_or y (i + 1) 0) (get_or y (i + 2) 0) (get_or y (i + 3) 0)
    (hx.bytes i) (hx.bytes (i + 1)) (hx.bytes (i + 2)) (hy.bytes i) (hy.bytes (i + 1)) (hy.bytes (i + 2)))

-- the words of a round key stand in the schedule
word_at-round_key : (keys : List ℕ) (r i : ℕ) → i + 3 < 16 → word_at (round_key keys r) i ≡ word_at keys (16 * r + i)
word_at-round_key keys r i lt =
    let at : (k : ℕ) → k < 16 → get_or (round_key keys r) k 0 ≡ get_or keys (16 * r + k) 0 = λ k small. get_or-chunk (16 * r) 16 keys k 0 small in
    let e0 = at i (omega arith) in
    let p1 : 16 * r + (i + 1) ≡ 16 * r + i + 1 = omega arith in
    let p2 : 16 * r + (i + 2) ≡ 16 * r + i + 2 = omega arith in
    let p3 : 16 * r + (i + 3) ≡ 16 * r + i + 3 = omega arith in
    let e1 = at (i + 1) (omega arith) ∙ ap (λ k. get_or keys k 0) p1 in
    let e2 = at (i + 2) (omega arith) ∙ ap (λ k. get_or keys k 0) p2 in
    let e3 = at (i + 3) lt ∙ ap (λ k. get_or keys k 0) p3 in
    (λ j. word_of (e0 j) (e1 j) (e2 j) (e3 j))

-- ---- a round

-- a column of which row 0 stands at place i, row 1 at place j + 1, and so on
rows_at : (f : ℕ → ℕ → ℕ → ℕ → ℕ) (s : List ℕ) (i j k l : ℕ) → IsState s
    → f (sbox (word_at s i % 256)) (sbox (word_at s j / 2 ^ 8 % 256)) (sbox (word_at s k / 2 ^ 16 % 256)) (sbox (word_at s l / 2 ^ 24))
    ≡ f (sbox (get_or s i 0)) (sbox (get_or s (j + 1) 0)) (sbox (get_or s (k + 2) 0)) (sbox (get_or s (l + 3) 0))
rows_at f s i j k l h =
    let g : ℕ → ℕ = λ n. get_or s n 0 in
    let e0 = byte_0 (g i) (g (i + 1)) (g (i + 2)) (g (i + 3)) (h.bytes i) in
    let e1 = byte_1 (g j) (g (j + 1)) (g (j + 2)) (g (j + 3)) (h.bytes j) (h.bytes (j + 1)) in
    let e2 = byte_2 (g k) (g (k + 1)) (g (k + 2)) (g (k + 3)) (h.bytes k) (h.bytes (k + 1)) (h.bytes (k + 2)) in
    let e3 = byte_3 (g l) (g (l + 1)) (g (l + 2)) (g (l + 3)) (h.bytes l) (h.bytes (l + 1)) (h.bytes (l + 2)) in
    (λ n. f (sbox (e0 n)) (sbox (e1 n)) (sbox (e2 n)) (sbox (e3 n)))

-- the words of the state m, each of which f makes of the S-boxes of a column after ShiftRows
abbrev IsByRows : (f : ℕ → ℕ → ℕ → ℕ → ℕ) (s m : List ℕ) → Type 0
IsByRows f s m = (let b : ℕ → ℕ = λ k. sbox (get_or s k 0) in
    f (b 0) (b 5) (b 10) (b 15) ∷ f (b 4) (b 9) (b 14) (b 3) ∷ f (b 8) (b 13) (b 2) (b 7) ∷ f (b 12) (b 1) (b 6) (b 11) ∷ [] ≡ words_of m)

mixed_words : (s : List ℕ) → length s ≡ 16 → IsByRows (λ a b c d. mixed_word a b c d) s (mix_columns (shift_rows (sub_bytes s)))
mixed_words s len = sym (ap (λ (l : List ℕ). words_of (mix_columns (shift_rows (sub_bytes l)))) (by_index s len))

substituted_words : (s : List ℕ) → length s ≡ 16 → IsByRows (λ a b c d. word_of a b c d) s (shift_rows (sub_bytes s))
substituted_words s len = sym (ap (λ (l : List ℕ). words_of (shift_rows (sub_bytes l))) (by_index s len))

-- the words of a state after a round that makes the words of m of those of s, with the sum with a round key
sum_is : (f : ℕ → ℕ → ℕ → ℕ → ℕ) (w s m key k : List ℕ) (m0 m1 m2 m3 : ℕ) → IsState s → IsState m → IsState key → w ≡ words_of s → IsByRows f s m → k ≡ words_of key
    → m0 ≡ f (sbox (get_or w 0 0 % 256)) (sbox (get_or w 1 0 / 2 ^ 8 % 256)) (sbox (get_or w 2 0 / 2 ^ 16 % 256)) (sbox (get_or w 3 0 / 2 ^ 24))
    → m1 ≡ f (sbox (get_or w 1 0 % 256)) (sbox (get_or w 2 0 / 2 ^ 8 % 256)) (sbox (get_or w 3 0 / 2 ^ 16 % 256)) (sbox (get_or w 0 0 / 2 ^ 24))
    → m2 ≡ f (sbox (get_or w 2 0 % 256)) (sbox (get_or w 3 0 / 2 ^ 8 % 256)) (sbox (get_or w 0 0 / 2 ^ 16 % 256)) (sbox (get_or w 1 0 / 2 ^ 24))
    → m3 ≡ f (sbox (get_or w 3 0 % 256)) (sbox (get_or w 0 0 / 2 ^ 8 % 256)) (sbox (get_or w 1 0 / 2 ^ 16 % 256)) (sbox (get_or w 2 0 / 2 ^ 24))
    → bit_xor m0 (get_or k 0 0) ∷ bit_xor m1 (get_or k 1 0) ∷ bit_xor m2 (get_or k 2 0) ∷ bit_xor m3 (get_or k 3 0) ∷ [] ≡ words_of (xor m key)
sum_is f w s m key k m0 m1 m2 m3 h hm hk e by ek em0 em1 em2 em3 =
    let at : (p : ℕ) → get_or w p 0 ≡ get_or (words_of s) p 0 = λ p. ap (λ (l : List ℕ). get_or l p 0) e in
    let c0 = em0 ∙ (λ i. f (sbox (at 0 i % 256)) (sbox (at 1 i / 2 ^ 8 % 256)) (sbox (at 2 i / 2 ^ 16 % 256)) (sbox (at 3 i / 2 ^ 24))) ∙ rows_at f s 0 4 8 12 h in
    let c1 = em1 ∙ (λ i. f (sbox (at 1 i % 256)) (sbox (at 2 i / 2 ^ 8 % 256)) (sbox (at 3 i / 2 ^ 16 % 256)) (sbox (at 0 i / 2 ^ 24))) ∙ rows_at f s 4 8 12 0 h in
    let c2 = em2 ∙ (λ i. f (sbox (at 2 i % 256)) (sbox (at 3 i / 2 ^ 8 % 256)) (sbox (at 0 i / 2 ^ 16 % 256)) (sbox (at 1 i / 2 ^ 24))) ∙ rows_at f s 8 12 0 4 h in
    let c3 = em3 ∙ (λ i. f (sbox (at 3 i % 256)) (sbox (at 0 i / 2 ^ 8 % 256)) (sbox (at 1 i / 2 ^ 16 % 256)) (sbox (at 2 i / 2 ^ 24))) ∙ rows_at f s 12 0 4 8 h in
    let ms : m0 ∷ m1 ∷ m2 ∷ m3 ∷ [] ≡ words_of m = (λ i. c0 i ∷ c1 i ∷ c2 i ∷ c3 i ∷ []) ∙ by in
    let of : (p : ℕ) → get_or (m0 ∷ m1 ∷ m2 ∷ m3 ∷ []) p 0 ≡ get_or (words_of m) p 0 = λ p. ap (λ (l : List ℕ). get_or l p 0) ms in
    let r : (p : ℕ) → get_or k p 0 ≡ get_or (words_of key) p 0 = λ p. ap (λ (l : List ℕ). get_or l p 0) ek in
    (λ i. bit_xor (of 0 i) (r 0 i) ∷ bit_xor (of 1 i) (r 1 i) ∷ bit_xor (of 2 i) (r 2 i) ∷ bit_xor (of 3 i) (r 3 i) ∷ [])
    ∙ sym (λ i. word_at-xor m key 0 hm hk (lit< tt) i ∷ word_at-xor m key 4 hm hk (lit< tt) i ∷ word_at-xor m key 8 hm hk (lit< tt) i ∷ word_at-xor m key 12 hm hk (lit< tt) i ∷ [])

-- the words of a state after a round, from those before it
pub round_is : (w s key k : List ℕ) (m0 m1 m2 m3 : ℕ) → IsState s → IsState key → w ≡ words_of s → k ≡ words_of key
    → m0 ≡ mixed_word (sbox (get_or w 0 0 % 256)) (sbox (get_or w 1 0 / 2 ^ 8 % 256)) (sbox (get_or w 2 0 / 2 ^ 16 % 256)) (sbox (get_or w 3 0 / 2 ^ 24))
    → m1 ≡ mixed_word (sbox (get_or w 1 0 % 256)) (sbox (get_or w 2 0 / 2 ^ 8 % 256)) (sbox (get_or w 3 0 / 2 ^ 16 % 256)) (sbox (get_or w 0 0 / 2 ^ 24))
    → m2 ≡ mixed_word (sbox (get_or w 2 0 % 256)) (sbox (get_or w 3 0 / 2 ^ 8 % 256)) (sbox (get_or w 0 0 / 2 ^ 16 % 256)) (sbox (get_or w 1 0 / 2 ^ 24))
    → m3 ≡ mixed_word (sbox (get_or w 3 0 % 256)) (sbox (get_or w 0 0 / 2 ^ 8 % 256)) (sbox (get_or w 1 0 / 2 ^ 16 % 256)) (sbox (get_or w 2 0 / 2 ^ 24))
    → bit_xor m0 (get_or k 0 0) ∷ bit_xor m1 (get_or k 1 0) ∷ bit_xor m2 (get_or k 2 0) ∷ bit_xor m3 (get_or k 3 0) ∷ [] ≡ words_of (xor (mix_columns (shift_rows (sub_bytes s))) key)
round_is w s key k m0 m1 m2 m3 h hk e ek =
    sum_is (λ a b c d. mixed_word a b c d) w s (mix_columns (shift_rows (sub_bytes s))) key k m0 m1 m2 m3 h (IsState-mix_columns (shift_rows (sub_bytes s))) hk e (mixed_words s h.long) ek

-- the words of a state after the last round, from those before it
pub last_round_is : (w s key k : List ℕ) (m0 m1 m2 m3 : ℕ) → IsState s → IsState key → w ≡ words_of s → k ≡ words_of key
    → m0 ≡ word_of (sbox (get_or w 0 0 % 256)) (sbox (get_or w 1 0 / 2 ^ 8 % 256)) (sbox (get_or w 2 0 / 2 ^ 16 % 256)) (sbox (get_or w 3 0 / 2 ^ 24))
    → m1 ≡ word_of (sbox (get_or w 1 0 % 256)) (sbox (get_or w 2 0 / 2 ^ 8 % 256)) (sbox (get_or w 3 0 / 2 ^ 16 % 256)) (sbox (get_or w 0 0 / 2 ^ 24))
    → m2 ≡ word_of (sbox (get_or w 2 0 % 256)) (sbox (get_or w 3 0 / 2 ^ 8 % 256)) (sbox (get_or w 0 0 / 2 ^ 16 % 256)) (sbox (get_or w 1 0 / 2 ^ 24))
    → m3 ≡ word_of (sbox (get_or w 3 0 % 256)) (sbox (get_or w 0 0 / 2 ^ 8 % 256)) (sbox (get_or w 1 0 / 2 ^ 16 % 256)) (sbox (get_or w 2 0 / 2 ^ 24))
    → bit_xor m0 (get_or k 0 0) ∷ bit_xor m1 (get_or k 1 0) ∷ bit_xor m2 (get_or k 2 0) ∷ bit_xor m3 (get_or k 3 0) ∷ [] ≡ words_of (xor (shift_rows (sub_bytes s)) key)
last_round_is w s key k m0 m1 m2 m3 h hk e ek =
    sum_is (λ a b c d. word_of a b c d) w s (shift_rows (sub_bytes s)) key k m0 m1 m2 m3 h (IsState-shift_rows (sub_bytes s) (IsState-sub_bytes s h.long)) hk e (substituted_words s h.long) ek
