-- The steps by rows, by what those by columns do; and the constant of the S-box, which the round keys carry.
use Rattle.std.proofs.Common.{◌≡◌, ℕ, List, [], ◌∷◌, map, get_or, length, bit_xor, refl, sym, ap, subst, ◌∙◌}
use lib.Bits.{xor_zero_r}
use Rattle.std.proofs.lemmas.Simd.{map-map}
use Rattle.std.specs.Simd.Lanes.{zip2}
use Rattle.aes_core.specs.Field.{times}
use Rattle.aes_core.specs.Aes.{xor, sbox, bytes_by, sub_bytes, shift_rows, mix_columns}
use Rattle.aes_core.proofs.Inverse.{by_index, times-xor, sum4, sum4-xor, xor_swap, IsState-sub_bytes, IsState-mix_columns}
use Rattle.aes_planes.specs.Planes.{rows, with_next, others, mixed_planes, with_next_row, other_rows, mixed_rows, turned, half_sub, AreLong}
use Rattle.aes_planes.specs.declared.vectors.Planes.{Planes}

-- a property of every list of 16 bytes by its places
pub explicit : (P : List ℕ → Type 0) (s : List ℕ) → length s ≡ 16 → P (bytes_by 16 (λ k. get_or s k 0)) → P s
explicit P s l here = subst P (sym (by_index s l)) here

-- ---- by rows

with_next_rows : (v : List ℕ) → length v ≡ 16 → with_next_row v ≡ rows (with_next (rows v))
with_next_rows v l = explicit (λ x. with_next_row x ≡ rows (with_next (rows x))) v l refl

other_rows_are : (v : List ℕ) → length v ≡ 16 → other_rows v ≡ rows (others (rows v))
other_rows_are v l = explicit (λ x. other_rows x ≡ rows (others (rows x))) v l refl

pub rows_xor : (a b : List ℕ) → length a ≡ 16 → length b ≡ 16 → xor (rows a) (rows b) ≡ rows (xor a b)
rows_xor a b la lb =
    explicit (λ x. xor (rows x) (rows b) ≡ rows (xor x b)) a la
    (explicit (λ y. xor (rows (bytes_by 16 (λ k. get_or a k 0))) (rows y) ≡ rows (xor (bytes_by 16 (λ k. get_or a k 0)) y)) b lb refl)

abbrev pub by_rows : Planes → Planes
by_rows q = record { b7 = rows q.b7; b6 = rows q.b6; b5 = rows q.b5; b4 = rows q.b4; b3 = rows q.b3; b2 = rows q.b2; b1 = rows q.b1; b0 = rows q.b0 }

abbrev x : List ℕ → List ℕ → List ℕ
x = zip2 bit_xor

pub mixed_rows_are : (q : Planes) → AreLong q → mixed_rows q ≡ map rows (mixed_planes (by_rows q))
mixed_rows_are q l =
    let o7 = other_rows_are q.b7 l.l7 in let w7 = with_next_rows q.b7 l.l7 in
    let o6 = other_rows_are q.b6 l.l6 in let w6 = with_next_rows q.b6 l.l6 in
    let o5 = other_rows_are q.b5 l.l5 in let w5 = with_next_rows q.b5 l.l5 in
    let o4 = other_rows_are q.b4 l.l4 in let w4 = with_next_rows q.b4 l.l4 in
    let o3 = other_rows_are q.b3 l.l3 in let w3 = with_next_rows q.b3 l.l3 in
    let o2 = other_rows_are q.b2 l.l2 in let w2 = with_next_rows q.b2 l.l2 in
    let o1 = other_rows_are q.b1 l.l1 in let w1 = with_next_rows q.b1 l.l1 in
    let o0 = other_rows_are q.b0 l.l0 in let w0 = with_next_rows q.b0 l.l0 in
    (λ i. x (o7 i) (w6 i) ∷ x (o6 i) (w5 i) ∷ x (o5 i) (w4 i) ∷ x (x (o4 i) (w3 i)) (w7 i) ∷ x (x (o3 i) (w2 i)) (w7 i) ∷ x (o2 i) (w1 i) ∷ x (x (o1 i) (w0 i)) (w7 i) ∷ x (o0 i) (w7 i) ∷ [])

-- ---- the constant

cancel : (a b : ℕ) → bit_xor (bit_xor a 0x63) (bit_xor b 0x63) ≡ bit_xor a b
cancel a b = xor_swap a 0x63 b 0x63 ∙ xor_zero_r (bit_xor a b)

turned_xor : (a b : List ℕ) → length a ≡ 16 → length b ≡ 16 → xor (turned a) (turned b) ≡ xor a b
turned_xor a b la lb =
    let f : ℕ → ℕ = λ k. get_or a k 0 in
    let g : ℕ → ℕ = λ k. get_or b k 0 in
    explicit (λ x. xor (turned x) (turned b) ≡ xor x b) a la
    (explicit (λ y. xor (turned (bytes_by 16 f)) (turned y) ≡ xor (bytes_by 16 f) y) b lb
    (λ i. cancel (f 0) (g 0) i ∷ cancel (f 1) (g 1) i ∷ cancel (f 2) (g 2) i ∷ cancel (f 3) (g 3) i ∷ cancel (f 4) (g 4) i ∷ cancel (f 5) (g 5) i ∷ cancel (f 6) (g 6) i ∷ cancel (f 7) (g 7) i
    ∷ cancel (f 8) (g 8) i ∷ cancel (f 9) (g 9) i ∷ cancel (f 10) (g 10) i ∷ cancel (f 11) (g 11) i ∷ cancel (f 12) (g 12) i ∷ cancel (f 13) (g 13) i ∷ cancel (f 14) (g 14) i ∷ cancel (f 15) (g 15) i ∷ []))

column_of_constant : sum4 (times 2 0x63) (times 3 0x63) (times 1 0x63) (times 1 0x63) ≡ 0x63
unfolding times
column_of_constant = refl

turned_byte : (a b c d : ℕ) → sum4 (times 2 (bit_xor a 0x63)) (times 3 (bit_xor b 0x63)) (times 1 (bit_xor c 0x63)) (times 1 (bit_xor d 0x63)) ≡ bit_xor (sum4 (times 2 a) (times 3 b) (times 1 c) (times 1 d)) 0x63
turned_byte a b c d =
    (λ i. sum4 (times-xor 2 a 0x63 i) (times-xor 3 b 0x63 i) (times-xor 1 c 0x63 i) (times-xor 1 d 0x63 i))
    ∙ sym (sum4-xor (times 2 a) (times 3 b) (times 1 c) (times 1 d) (times 2 0x63) (times 3 0x63) (times 1 0x63) (times 1 0x63))
    ∙ ap (bit_xor (sum4 (times 2 a) (times 3 b) (times 1 c) (times 1 d))) column_of_constant

turned_mix : (s : List ℕ) → length s ≡ 16 → mix_columns (turned s) ≡ turned (mix_columns s)
turned_mix s l =
    let g : ℕ → ℕ = λ k. get_or s k 0 in
    let at : (a b c d : ℕ) → sum4 (times 2 (bit_xor (g a) 0x63)) (times 3 (bit_xor (g b) 0x63)) (times 1 (bit_xor (g c) 0x63)) (times 1 (bit_xor (g d) 0x63)) ≡ bit_xor (sum4 (times 2 (g a)) (times 3 (g b)) (times 1 (g c)) (times 1 (g d))) 0x63 = λ a b c d. turned_byte (g a) (g b) (g c) (g d) in
    explicit (λ y. mix_columns (turned y) ≡ turned (mix_columns y)) s l
    (λ i. at 0 1 2 3 i ∷ at 1 2 3 0 i ∷ at 2 3 0 1 i ∷ at 3 0 1 2 i ∷ at 4 5 6 7 i ∷ at 5 6 7 4 i ∷ at 6 7 4 5 i ∷ at 7 4 5 6 i
    ∷ at 8 9 10 11 i ∷ at 9 10 11 8 i ∷ at 10 11 8 9 i ∷ at 11 8 9 10 i ∷ at 12 13 14 15 i ∷ at 13 14 15 12 i ∷ at 14 15 12 13 i ∷ at 15 12 13 14 i ∷ [])

half_turned : (s : List ℕ) → half_sub s ≡ turned (sub_bytes s)
half_turned s = sym (map-map (λ b. bit_xor b 0x63) sbox s)

sub_shift : (t : List ℕ) → length t ≡ 16 → sub_bytes (shift_rows t) ≡ shift_rows (sub_bytes t)
sub_shift t l = explicit (λ s. sub_bytes (shift_rows s) ≡ shift_rows (sub_bytes s)) t l refl

-- a round with the constant in the key
pub round_by_half : (t k : List ℕ) → length t ≡ 16 → length k ≡ 16
    → xor (mix_columns (half_sub (shift_rows t))) (turned k) ≡ xor (mix_columns (shift_rows (sub_bytes t))) k
round_by_half t k lt lk =
    let long = (IsState-sub_bytes (shift_rows t) refl).long in
    (λ i. xor ((ap mix_columns (half_turned (shift_rows t)) ∙ turned_mix (sub_bytes (shift_rows t)) long ∙ ap (λ (s : List ℕ). turned (mix_columns s)) (sub_shift t lt)) i) (turned k))
    ∙ turned_xor (mix_columns (shift_rows (sub_bytes t))) k (IsState-mix_columns (shift_rows (sub_bytes t))).long lk

-- the last round with the constant in the key
pub last_by_half : (t k : List ℕ) → length t ≡ 16 → length k ≡ 16 → xor (half_sub (shift_rows t)) (turned k) ≡ xor (shift_rows (sub_bytes t)) k
last_by_half t k lt lk =
    (λ i. xor ((half_turned (shift_rows t) ∙ ap turned (sub_shift t lt)) i) (turned k))
    ∙ turned_xor (shift_rows (sub_bytes t)) k refl lk
