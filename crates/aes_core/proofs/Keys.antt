-- The cipher reads only the round keys, and the key expansion begins with the key.
use Rattle.std.proofs.Common.{◌≡◌, ℕ, zero, suc, ◌+◌, ◌-◌, ◌*◌, ◌%◌, ◌≤◌, List, ◌++◌, length, take, replicate, sym, ap, subst, ◌∙◌, arith, length-append}
use Rattle.std.proofs.lemmas.List.{take-append-le, take_all, length-take-le, length-replicate}
use Rattle.aes_core.specs.Aes.{xor, sub_bytes, shift_rows, mix_columns, inverse_sub_bytes, inverse_shift_rows, inverse_mix_columns, key_words, rounds, key_schedule, expanded, key_term, word, after_rounds, after_inverse_rounds, enciphered, deciphered, encrypt, decrypt}
use Rattle.aes_core.specs.Schedule.{AreBytes, IsKey, IsSchedule, padded_schedule}
use Rattle.aes_core.proofs.KeyBytes.{AreBytes-append, AreBytes-zeros, AreBytes-expanded, key_words-bounds}
use Rattle.aes_core.proofs.KeyWords.{chunk-append, length-expanded}

after_rounds-append : (w z b : List ℕ) (n : ℕ) → 16 * (n + 1) ≤ length w → after_rounds (w ++ z) b n ≡ after_rounds w b n
unfolding after_rounds
after_rounds-append w z b zero le = ap (xor b) (chunk-append 0 16 w z (omega arith))
after_rounds-append w z b (suc n) le =
    let before = after_rounds-append w z b n (omega arith) in
    let key = chunk-append (16 * (n + 1)) 16 w z (omega arith) in
    (λ i. xor (mix_columns (shift_rows (sub_bytes (before i)))) (key i))

enciphered-append : (w z b : List ℕ) (m : ℕ) → 16 * (m + 2) ≤ length w → enciphered (w ++ z) m b ≡ enciphered w m b
enciphered-append w z b m le =
    let before = after_rounds-append w z b m (omega arith) in
    let key = chunk-append (16 * (m + 1)) 16 w z (omega arith) in
    (λ i. xor (shift_rows (sub_bytes (before i))) (key i))

after_inverse_rounds-append : (w z b : List ℕ) (m n : ℕ) → n ≤ m → 16 * (m + 2) ≤ length w → after_inverse_rounds (w ++ z) m b n ≡ after_inverse_rounds w m b n
unfolding after_inverse_rounds
after_inverse_rounds-append w z b m zero low le = ap (xor b) (chunk-append (16 * (m + 1)) 16 w z (omega arith))
after_inverse_rounds-append w z b m (suc n) low le =
    let before = after_inverse_rounds-append w z b m n (omega arith) le in
    let key = chunk-append (16 * (m - n)) 16 w z (omega arith) in
    (λ i. inverse_mix_columns (xor (inverse_sub_bytes (inverse_shift_rows (before i))) (key i)))

deciphered-append : (w z b : List ℕ) (m : ℕ) → 16 * (m + 2) ≤ length w → deciphered (w ++ z) m b ≡ deciphered w m b
deciphered-append w z b m le =
    let before = after_inverse_rounds-append w z b m m (omega arith) le in
    let key = chunk-append 0 16 w z (omega arith) in
    (λ i. xor (inverse_sub_bytes (inverse_shift_rows (before i))) (key i))

length-key_schedule : (key : List ℕ) (nk : ℕ) → length key ≡ 4 * nk → 4 ≤ nk → length (key_schedule key) ≡ 16 * (nk + 7)
length-key_schedule key nk len low =
    let words : key_words key ≡ nk = omega arith in
    let h = length-expanded key (key_words key) (4 * (rounds key + 1) - key_words key) (omega arith) (omega arith) in
    omega (arith, h, words)

-- what the code computes, and the definition
pub encrypt_from : (keys key b r : List ℕ) (nk : ℕ) → IsSchedule keys nk → take (4 * nk) keys ≡ key → r ≡ enciphered keys (nk + 5) b → r ≡ encrypt key b
unfolding encrypt padded_schedule
encrypt_from keys key b r nk h e er =
    let high = h.high in let low = h.low in let long = h.long in
    let len : length key ≡ 4 * nk = ap length (sym e) ∙ length-take-le (4 * nk) keys (omega arith) in
    let z : List ℕ = replicate (240 - 16 * (key_words key + 7)) 0 in
    let is : keys ≡ key_schedule key ++ z = h.expanded ∙ ap padded_schedule e in
    let ls = length-key_schedule key nk len low in
    let count : nk + 5 ≡ rounds key - 1 = omega arith in
    er ∙ ap (λ (w : List ℕ). enciphered w (nk + 5) b) is ∙ enciphered-append (key_schedule key) z b (nk + 5) (omega arith) ∙ ap (λ (m : ℕ). enciphered (key_schedule key) m b) count

pub decrypt_from : (keys key b r : List ℕ) (nk : ℕ) → IsSchedule keys nk → take (4 * nk) keys ≡ key → r ≡ deciphered keys (nk + 5) b → r ≡ decrypt key b
unfolding decrypt padded_schedule
decrypt_from keys key b r nk h e er =
    let high = h.high in let low = h.low in let long = h.long in
    let len : length key ≡ 4 * nk = ap length (sym e) ∙ length-take-le (4 * nk) keys (omega arith) in
    let z : List ℕ = replicate (240 - 16 * (key_words key + 7)) 0 in
    let is : keys ≡ key_schedule key ++ z = h.expanded ∙ ap padded_schedule e in
    let ls = length-key_schedule key nk len low in
    let count : nk + 5 ≡ rounds key - 1 = omega arith in
    er ∙ ap (λ (w : List ℕ). deciphered w (nk + 5) b) is ∙ deciphered-append (key_schedule key) z b (nk + 5) (omega arith) ∙ ap (λ (m : ℕ). deciphered (key_schedule key) m b) count

-- the key stands at the front of the key expansion
take-expanded : (key : List ℕ) (nk n : ℕ) → length key ≡ 4 * nk → 1 ≤ nk → take (length key) (expanded key nk n) ≡ key
unfolding expanded
take-expanded key nk zero len low = take_all (length key) key (omega arith)
take-expanded key nk (suc n) len low =
    let w : List ℕ = expanded key nk n in
    take-append-le (length key) w (xor (word w n) (key_term nk w (nk + n))) (omega (arith, length-expanded key nk n len low)) ∙ take-expanded key nk n len low

pub key_first : (key keys : List ℕ) (nk : ℕ) → length key ≡ 4 * nk → 4 ≤ nk → nk ≤ 8 → keys ≡ key_schedule key ++ replicate (240 - 16 * (nk + 7)) 0 → take (4 * nk) keys ≡ key
key_first key keys nk len low high e =
    let ls = length-key_schedule key nk len low in
    let z : List ℕ = replicate (240 - 16 * (nk + 7)) 0 in
    ap (take (4 * nk)) e ∙ take-append-le (4 * nk) (key_schedule key) z (omega arith) ∙ ap (λ (k : ℕ). take k (key_schedule key)) (sym len)
    ∙ take-expanded key (key_words key) (4 * (rounds key + 1) - key_words key) (omega arith) (omega arith)

AreBytes-schedule : (key : List ℕ) (nk : ℕ) → length key ≡ 4 * nk → 4 ≤ nk → AreBytes key → AreBytes (key_schedule key)
AreBytes-schedule key nk len low small = AreBytes-expanded key (key_words key) (4 * (rounds key + 1) - key_words key) (omega arith) (omega arith) small

pub IsSchedule_new : (key keys : List ℕ) (nk : ℕ) → length key ≡ 4 * nk → nk % 2 ≡ 0 → 4 ≤ nk → nk ≤ 8 → AreBytes key → keys ≡ key_schedule key ++ replicate (240 - 16 * (nk + 7)) 0 → IsSchedule keys nk
unfolding padded_schedule
IsSchedule_new key keys nk len even low high small e =
    let ls = length-key_schedule key nk len low in
    let z : List ℕ = replicate (240 - 16 * (nk + 7)) 0 in
    let words : nk ≡ key_words key = omega arith in
    let front = key_first key keys nk len low high e in
    record {
      even = even;
      low = low;
      high = high;
      long = ap length e ∙ omega (arith, length-append (key_schedule key) z, length-replicate {A = ℕ} (240 - 16 * (nk + 7)) 0);
      bytes = subst AreBytes (sym e) (AreBytes-append (key_schedule key) z (AreBytes-schedule key nk len low small) (AreBytes-zeros (240 - 16 * (nk + 7))));
      expanded = e ∙ ap (λ (k : ℕ). key_schedule key ++ replicate (240 - 16 * (k + 7)) 0) words ∙ ap padded_schedule (sym front);
    }

-- the zeros after the round keys change nothing
pub enciphered-padded : (key b : List ℕ) → IsKey key → enciphered (padded_schedule key) (rounds key - 1) b ≡ encrypt key b
unfolding encrypt padded_schedule
enciphered-padded key b h =
    let sizes = key_words-bounds key h.long in
    let ls = length-key_schedule key (key_words key) sizes.0 sizes.1 in
    enciphered-append (key_schedule key) (replicate (240 - 16 * (key_words key + 7)) 0) b (rounds key - 1) (omega (arith, ls))

pub deciphered-padded : (key b : List ℕ) → IsKey key → deciphered (padded_schedule key) (rounds key - 1) b ≡ decrypt key b
unfolding decrypt padded_schedule
deciphered-padded key b h =
    let sizes = key_words-bounds key h.long in
    let ls = length-key_schedule key (key_words key) sizes.0 sizes.1 in
    deciphered-append (key_schedule key) (replicate (240 - 16 * (key_words key + 7)) 0) b (rounds key - 1) (omega (arith, ls))
