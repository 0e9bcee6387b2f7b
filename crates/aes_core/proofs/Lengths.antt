-- How long what the cipher gives is, and a list of as many blocks as another has.
use Rattle.std.proofs.Common.{◌≡◌, ℕ, ◌+◌, ◌-◌, ◌*◌, ◌/◌, ◌%◌, ◌≤◌, List, length, bit_xor, sym, ◌∙◌, arith}
use Rattle.std.proofs.lemmas.Simd.{length-zip2, length-chunk}
use Rattle.aes_core.specs.Aes.{encrypt, decrypt, rounds, key_words, key_schedule, round_key, sub_bytes, shift_rows, after_rounds, inverse_sub_bytes, inverse_shift_rows, after_inverse_rounds}
use Rattle.aes_core.specs.Blocks.{blocks}
use Rattle.aes_core.specs.Schedule.{IsKeyLength}
use Rattle.aes_core.proofs.BlockLists.{AreBlocks, length-blocks}
use Rattle.aes_core.proofs.KeyBytes.{key_words-bounds}
use Rattle.aes_core.proofs.KeyWords.{length-expanded}

length-round_key : (key : List ℕ) (r : ℕ) → IsKeyLength (length key) → r ≤ rounds key → length (round_key (key_schedule key) r) ≡ 16
length-round_key key r long le =
    let sizes = key_words-bounds key long in
    let nk : ℕ = key_words key in
    let low : 4 ≤ nk = sizes.1 in
    let one : 1 ≤ nk = omega arith in
    let all = length-expanded key nk (4 * (rounds key + 1) - nk) sizes.0 one in
    length-chunk (16 * r) 16 (key_schedule key) (omega arith)

-- the cipher gives a block, and so does its inverse, also of no block
pub length-encrypt : (key b : List ℕ) → IsKeyLength (length key) → length (encrypt key b) ≡ 16
unfolding encrypt
length-encrypt key b long =
    let w : List ℕ = key_schedule key in
    let m : ℕ = rounds key - 1 in
    let last = length-round_key key (m + 1) long (omega arith) in
    length-zip2 bit_xor (shift_rows (sub_bytes (after_rounds w b m))) (round_key w (m + 1)) (sym last)

pub length-decrypt : (key b : List ℕ) → IsKeyLength (length key) → length (decrypt key b) ≡ 16
unfolding decrypt
length-decrypt key b long =
    let w : List ℕ = key_schedule key in
    let m : ℕ = rounds key - 1 in
    let last = length-round_key key 0 long (omega arith) in
    length-zip2 bit_xor (inverse_sub_bytes (inverse_shift_rows (after_inverse_rounds w m b m))) (round_key w 0) (sym last)

-- a list of as many blocks as another has
pub length-as_blocks : (f : ℕ → List ℕ) (p : List ℕ) → AreBlocks f (length p / 16) → length p % 16 ≡ 0 → length (blocks f (length p / 16)) ≡ length p
length-as_blocks f p are whole = length-blocks f (length p / 16) are ∙ omega arith
