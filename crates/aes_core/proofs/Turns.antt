-- One turn of each loop.
use Rattle.std.proofs.Common.{◌≡◌, ℕ, suc, ◌+◌, ◌-◌, ◌*◌, ◌/◌, ◌%◌, ◌<◌, ◌≤◌, ◌≢◌, List, [], ◌∷◌, nat_eq, true, eq-eqb, bit_xor, refl, sym, ap, ◌∙◌, add-one, arith, lit<}
use Rattle.aes_core.proofs.Boxes.{times-two}
use Rattle.aes_core.proofs.Inverse.{power-lt}
use lib.Bits.{xor_assoc, xor_zero_r}
use Rattle.aes_core.specs.Columns.{words_of}
use Rattle.aes_core.specs.State.{IsState}
use Rattle.aes_core.specs.Field.{times_x, times_bits, times, power}
use Rattle.aes_core.specs.Aes.{xor, word, rotated, key_term, sub_bytes, shift_rows, mix_columns, inverse_sub_bytes, inverse_shift_rows, inverse_mix_columns, round_key, after_rounds, after_inverse_rounds}

pub after_rounds_start : (w b : List ℕ) → after_rounds w b 0 ≡ xor b (round_key w 0)
unfolding after_rounds
after_rounds_start w b = refl

pub after_rounds_step : (w b s s1 s2 s3 r : List ℕ) (n : ℕ) → s ≡ after_rounds w b n → s1 ≡ sub_bytes s → s2 ≡ shift_rows s1 → s3 ≡ mix_columns s2
    → r ≡ xor s3 (round_key w (n + 1)) → r ≡ after_rounds w b (n + 1)
unfolding after_rounds
after_rounds_step w b s s1 s2 s3 r n e e1 e2 e3 e4 =
    let next : after_rounds w b (n + 1) ≡ xor (mix_columns (shift_rows (sub_bytes (after_rounds w b n)))) (round_key w (n + 1)) = ap (after_rounds w b) (add-one n) in
    e4 ∙ ap (λ (x : List ℕ). xor x (round_key w (n + 1))) (e3 ∙ ap mix_columns (e2 ∙ ap shift_rows (e1 ∙ ap sub_bytes e))) ∙ sym next

-- the columns after round r, by those after the round before it
pub behind_round : (keys b : List ℕ) (w next : List ℕ) (n r : ℕ) → r ≡ n + 1 → ((s : List ℕ) → IsState s → w ≡ words_of s → next ≡ words_of (xor (mix_columns (shift_rows (sub_bytes s))) (round_key keys r)))
    → IsState (after_rounds keys b n) → w ≡ words_of (after_rounds keys b n) → next ≡ words_of (after_rounds keys b r)
behind_round keys b w next n r is round state held =
    let before : List ℕ = after_rounds keys b n in
    let after : List ℕ = xor (mix_columns (shift_rows (sub_bytes before))) (round_key keys (n + 1)) in
    let step = after_rounds_step keys b before (sub_bytes before) (shift_rows (sub_bytes before)) (mix_columns (shift_rows (sub_bytes before))) after n refl refl refl refl refl in
    let here : next ≡ words_of after = round before state held ∙ ap (λ (m : ℕ). words_of (xor (mix_columns (shift_rows (sub_bytes before))) (round_key keys m))) is in
    here ∙ ap words_of step ∙ ap (λ (m : ℕ). words_of (after_rounds keys b m)) (sym is)

pub after_inverse_rounds_start : (w b : List ℕ) (m : ℕ) → after_inverse_rounds w m b 0 ≡ xor b (round_key w (m + 1))
unfolding after_inverse_rounds
after_inverse_rounds_start w b m = refl

pub after_inverse_rounds_step : (w b s s1 s2 s3 r : List ℕ) (m n : ℕ) → s ≡ after_inverse_rounds w m b n → s1 ≡ inverse_shift_rows s → s2 ≡ inverse_sub_bytes s1
    → s3 ≡ xor s2 (round_key w (m - n)) → r ≡ inverse_mix_columns s3 → r ≡ after_inverse_rounds w m b (n + 1)
unfolding after_inverse_rounds
after_inverse_rounds_step w b s s1 s2 s3 r m n e e1 e2 e3 e4 =
    let next : after_inverse_rounds w m b (n + 1) ≡ inverse_mix_columns (xor (inverse_sub_bytes (inverse_shift_rows (after_inverse_rounds w m b n))) (round_key w (m - n))) = ap (after_inverse_rounds w m b) (add-one n) in
    e4 ∙ ap inverse_mix_columns (e3 ∙ ap (λ (x : List ℕ). xor x (round_key w (m - n))) (e2 ∙ ap inverse_sub_bytes (e1 ∙ ap inverse_shift_rows e))) ∙ sym next

pub times_start : (a b : ℕ) → bit_xor 0 (times_bits a b 8) ≡ times a b
unfolding times
times_start a b = refl

-- one bit of b more: x is what it adds
times_step : (s x p b k t : ℕ) → bit_xor s (times_bits p b (suc k)) ≡ t → b % 2 * p ≡ x → bit_xor (bit_xor s x) (times_bits (times_x p) (b / 2) k) ≡ t
times_step s x p b k t held e =
    let rest : ℕ = times_bits (times_x p) (b / 2) k in
    xor_assoc s x rest ∙ ap (λ (y : ℕ). bit_xor s (bit_xor y rest)) (sym e) ∙ held

-- one bit of b more, at places that count up: x is what it adds
pub times_more : (s x p b i t : ℕ) → i < 8 → bit_xor s (times_bits p b (8 - i)) ≡ t → b % 2 * p ≡ x → bit_xor (bit_xor s x) (times_bits (times_x p) (b / 2) (8 - (i + 1))) ≡ t
times_more s x p b i t lt held e =
    let left : 8 - i ≡ suc (8 - (i + 1)) = omega arith in
    times_step s x p b (8 - (i + 1)) t (rw left at held) e

pub times_done : (s p b i t : ℕ) → 8 ≤ i → bit_xor s (times_bits p b (8 - i)) ≡ t → s ≡ t
times_done s p b i t le held =
    let none : 8 - i ≡ 0 = omega arith in
    let h : bit_xor s (times_bits p b 0) ≡ t = rw none at held in
    sym (xor_zero_r s) ∙ h

pub times_odd : (b p : ℕ) → b % 2 ≡ 1 → b % 2 * p ≡ p
times_odd b p e = let one : 1 * p ≡ p = omega arith in ap (λ (k : ℕ). k * p) e ∙ one

pub times_even : (b p : ℕ) → b % 2 ≢ 1 → b % 2 * p ≡ 0
times_even b p e = let none : b % 2 ≡ 0 = omega arith in let zero_times : 0 * p ≡ 0 = omega arith in ap (λ (k : ℕ). k * p) none ∙ zero_times

-- the powers of x, one after the other
pub power_start : power 2 0 ≡ 1
unfolding power
power_start = refl

pub power_more : (c d n : ℕ) → c ≡ power 2 n → d ≡ times_x c → d ≡ power 2 (n + 1)
unfolding power
power_more c d n e ed =
    let small : power 2 n < 256 = power-lt 2 n (lit< tt) in
    let next : power 2 (n + 1) ≡ times 2 (power 2 n) = ap (power 2) (add-one n) in
    ed ∙ ap times_x e ∙ sym (times-two (power 2 n) small) ∙ sym next

pub key_term_first : (nk i : ℕ) (w last turned subbed r : List ℕ) (x : ℕ) → i % nk ≡ 0 → last ≡ word w (i - 1) → turned ≡ rotated last → subbed ≡ sub_bytes turned
    → x ≡ power 2 (i / nk - 1) → r ≡ xor subbed (x ∷ 0 ∷ 0 ∷ 0 ∷ []) → r ≡ key_term nk w i
key_term_first nk i w last turned subbed r x at e1 e2 e3 ex er =
    let test : nat_eq (i % nk) 0 ≡ true = eq-eqb (i % nk) 0 at in
    rw test (er ∙ (λ j. xor ((e3 ∙ ap sub_bytes (e2 ∙ ap rotated e1)) j) (ex j ∷ 0 ∷ 0 ∷ 0 ∷ [])))
