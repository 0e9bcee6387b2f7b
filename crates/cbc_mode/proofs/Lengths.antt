-- How long what CBC gives is, and each block of a plaintext.
use Rattle.std.proofs.Common.{◌≡◌, ℕ, ◌+◌, ◌*◌, ◌/◌, ◌%◌, ◌<◌, ◌≤◌, List, ◌++◌, length, length-append, bit_xor, sym, ap, ◌∙◌, arith, add-one}
use Rattle.std.proofs.lemmas.Simd.{length-zip2, length-chunk}
use Rattle.aes_core.specs.Aes.{xor, decrypt}
use Rattle.aes_core.specs.Blocks.{block}
use Rattle.aes_core.specs.Schedule.{IsKeyLength}
use Rattle.aes_core.proofs.BlockLists.{block-blocks}
use Rattle.aes_core.proofs.Lengths.{length-as_blocks, length-decrypt, length-encrypt}
use Rattle.cbc_mode.specs.Cbc.{chained, sealed, cbc_seal, opened_block, cbc_open}
use Rattle.cbc_mode.proofs.Chain.{block_before-start, block_before-more}

length-sealed : (key iv p : List ℕ) (j : ℕ) → IsKeyLength (length key) → length (sealed key iv p j) ≡ 16
unfolding chained
length-sealed key iv p j long =
    ap (λ (i : ℕ). length (chained key iv p i)) (add-one j) ∙ length-encrypt key (xor (block p j) (chained key iv p j)) long

pub length-cbc_seal : (key iv p : List ℕ) → IsKeyLength (length key) → length p % 16 ≡ 0 → length (cbc_seal key iv p) ≡ length p
length-cbc_seal key iv p long whole = length-as_blocks (sealed key iv p) p (λ j lt. length-sealed key iv p j long) whole

length-opened : (key iv c : List ℕ) (n j : ℕ) → IsKeyLength (length key) → length iv ≡ 16 → 16 * n ≤ length c → j < n → length (opened_block key iv c j) ≡ 16
length-opened key iv c n j long leniv fits lt =
    let all = length-append iv c in
    let a = length-decrypt key (block c j) long in
    let b : length (block (iv ++ c) j) ≡ 16 = length-chunk (16 * j) 16 (iv ++ c) (omega arith) in
    length-zip2 bit_xor (decrypt key (block c j)) (block (iv ++ c) j) (a ∙ sym b) ∙ a

pub length-cbc_open : (key iv c : List ℕ) → IsKeyLength (length key) → length iv ≡ 16 → length c % 16 ≡ 0 → length (cbc_open key iv c) ≡ length c
length-cbc_open key iv c long leniv whole = length-as_blocks (opened_block key iv c) c (λ j lt. length-opened key iv c (length c / 16) j long leniv (omega arith) lt) whole

-- block j of a plaintext depends on blocks j - 1 and j of the ciphertext alone
block-cbc_open : (key iv c : List ℕ) (j : ℕ) → IsKeyLength (length key) → length iv ≡ 16 → 16 * j + 16 ≤ length c → block (cbc_open key iv c) j ≡ opened_block key iv c j
block-cbc_open key iv c j long leniv fits =
    block-blocks (opened_block key iv c) (length c / 16) j (λ i lt. length-opened key iv c (length c / 16) i long leniv (omega arith) lt) (omega arith)

pub block-cbc_open-first : (key iv c : List ℕ) → IsKeyLength (length key) → length iv ≡ 16 → 16 ≤ length c → block (cbc_open key iv c) 0 ≡ xor (decrypt key (block c 0)) iv
block-cbc_open-first key iv c long leniv fits =
    block-cbc_open key iv c 0 long leniv (omega arith) ∙ ap (xor (decrypt key (block c 0))) (block_before-start iv c leniv)

pub block-cbc_open-next : (key iv c : List ℕ) (j : ℕ) → IsKeyLength (length key) → length iv ≡ 16 → 16 * (j + 1) + 16 ≤ length c
    → block (cbc_open key iv c) (j + 1) ≡ xor (decrypt key (block c (j + 1))) (block c j)
block-cbc_open-next key iv c j long leniv fits =
    block-cbc_open key iv c (j + 1) long leniv fits ∙ ap (xor (decrypt key (block c (j + 1)))) (block_before-more iv c j leniv)
