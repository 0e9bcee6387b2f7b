-- A list whose bytes are those of one or two lists, by index.
use Rattle.std.proofs.Common.{◌≡◌, ℕ, ◌<◌, List, length, map, get_or, bit_xor, sym, ◌∙◌, arith}
use Rattle.std.proofs.lemmas.List.{length-map, get_or-map}
use Rattle.std.proofs.lemmas.List.FromFn.{fill_by_all}
use Rattle.std.proofs.lemmas.Simd.{get_or-zip2, length-zip2}
use Rattle.hmac_kdf.specs.Hmac.{masked}
use Rattle.hmac_kdf.specs.Pbkdf2.{xor_lists}

pub masked_by_index : (pad n : ℕ) (out block : List ℕ) → length out ≡ n → length block ≡ n
    → ((k : ℕ) → k < n → get_or out k 0 ≡ bit_xor pad (get_or block k 0)) → out ≡ masked pad block
masked_by_index pad n out block lo lb each =
    fill_by_all (λ k. bit_xor pad (get_or block k 0)) out n 0 lo each
    ∙ sym (fill_by_all (λ k. bit_xor pad (get_or block k 0)) (map (bit_xor pad) block) n 0 (length-map block (bit_xor pad) ∙ lb) (λ k lt. get_or-map (bit_xor pad) block k 0 0 (omega arith)))

pub xor_by_index : (n : ℕ) (sum a b : List ℕ) → length sum ≡ n → length a ≡ n → length b ≡ n
    → ((k : ℕ) → k < n → get_or sum k 0 ≡ bit_xor (get_or a k 0) (get_or b k 0)) → sum ≡ xor_lists a b
xor_by_index n sum a b ls la lb each =
    fill_by_all (λ k. bit_xor (get_or a k 0) (get_or b k 0)) sum n 0 ls each
    ∙ sym (fill_by_all (λ k. bit_xor (get_or a k 0) (get_or b k 0)) (xor_lists a b) n 0 (length-zip2 bit_xor a b (omega arith) ∙ la)
    (λ k lt. get_or-zip2 bit_xor a b k 0 0 0 (omega arith) (omega arith)))
