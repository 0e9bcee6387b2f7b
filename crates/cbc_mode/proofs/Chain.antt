-- Cipher block chaining, block by block, and that opening undoes sealing.
use Rattle.std.proofs.Common.{◌≡◌, ℕ, zero, suc, ◌+◌, ◌*◌, ◌/◌, ◌%◌, ◌<◌, ◌≤◌, List, ◌++◌, length, take, drop, refl, sym, ap, ◌∙◌, arith, add-one}
use Rattle.std.proofs.lemmas.List.{take_at}
use Rattle.std.proofs.Math.Seq.{drop-append-add}
use Rattle.aes_core.specs.Aes.{xor, encrypt, decrypt}
use Rattle.aes_core.specs.Blocks.{block, blocks}
use Rattle.aes_core.specs.Schedule.{AreBytes, IsKey}
use Rattle.aes_core.proofs.Inverse.{IsState, IsState-xor, xor-xor}
use Rattle.aes_core.proofs.KeyBytes.{IsState-block, IsState-encrypt, decrypt-encrypt}
use Rattle.aes_core.proofs.BlockLists.{AreBlocks, length-blocks, block-blocks, blocks-same, blocks-block}
use Rattle.cbc_mode.specs.Cbc.{chained, sealed, cbc_seal, opened_block, cbc_open}

pub chained_start : (key iv p : List ℕ) → chained key iv p 0 ≡ iv
unfolding chained
chained_start key iv p = refl

chained-more : (key iv p : List ℕ) (j : ℕ) → chained key iv p (j + 1) ≡ encrypt key (xor (block p j) (chained key iv p j))
unfolding chained
chained-more key iv p j = ap (chained key iv p) (add-one j)

pub chained_step : (key iv p b before r : List ℕ) (j : ℕ) → before ≡ chained key iv p j → b ≡ block p j → r ≡ encrypt key (xor b before) → r ≡ chained key iv p (j + 1)
chained_step key iv p b before r j e eb er = er ∙ (λ i. encrypt key (xor (eb i) (e i))) ∙ sym (chained-more key iv p j)

-- the block before block 0 is the initialization vector, and that before block j + 1 is block j
pub block_before-start : (iv c : List ℕ) → length iv ≡ 16 → block (iv ++ c) 0 ≡ iv
block_before-start iv c len = take_at iv c 16 len

pub block_before-more : (iv c : List ℕ) (j : ℕ) → length iv ≡ 16 → block (iv ++ c) (j + 1) ≡ block c j
block_before-more iv c j len =
    let at : 16 * (j + 1) ≡ length iv + 16 * j = omega arith in
    ap (take 16) (ap (λ (k : ℕ). drop k (iv ++ c)) at ∙ drop-append-add iv c (16 * j))

-- block i of a part that begins with block j, if `before` is the block before the part
pub opened_block-part : (key iv p before part : List ℕ) (j i : ℕ) → length iv ≡ 16 → length before ≡ 16 → before ≡ block (iv ++ p) j → ((n : ℕ) → n ≤ i → block part n ≡ block p (j + n))
    → opened_block key before part i ≡ opened_block key iv p (j + i)
opened_block-part key iv p before part j zero len lb e same =
    let here : j + zero ≡ j = omega arith in
    let mask : block (before ++ part) 0 ≡ block (iv ++ p) (j + zero) = block_before-start before part lb ∙ e ∙ sym (ap (block (iv ++ p)) here) in
    (λ k. xor (decrypt key (same 0 (omega arith) k)) (mask k))
opened_block-part key iv p before part j (suc n) len lb e same =
    let at : suc n ≡ n + 1 = omega arith in
    let here : j + n + 1 ≡ j + suc n = omega arith in
    let mask : block (before ++ part) (suc n) ≡ block (iv ++ p) (j + suc n) =
    ap (block (before ++ part)) at ∙ block_before-more before part n lb ∙ same n (omega arith) ∙ sym (block_before-more iv p (j + n) len) ∙ ap (block (iv ++ p)) here in
    (λ k. xor (decrypt key (same (suc n) (omega arith) k)) (mask k))

IsState-chained : (key iv p : List ℕ) (j : ℕ) → IsKey key → IsState iv → AreBytes p → 16 * j ≤ length p → IsState (chained key iv p j)
unfolding chained
IsState-chained key iv p zero hk hiv small le = hiv
IsState-chained key iv p (suc j) hk hiv small le =
    IsState-encrypt key (xor (block p j) (chained key iv p j)) hk
    (IsState-xor (block p j) (chained key iv p j) (IsState-block p j small (omega arith)) (IsState-chained key iv p j hk hiv small (omega arith)))

-- the block before block j of the ciphertext
block_before-sealed : (key iv p : List ℕ) (n j : ℕ) → length iv ≡ 16 → AreBlocks (sealed key iv p) n → j < n
    → block (iv ++ blocks (sealed key iv p) n) j ≡ chained key iv p j
unfolding chained
block_before-sealed key iv p n zero len are lt = block_before-start iv (blocks (sealed key iv p) n) len
block_before-sealed key iv p n (suc j) len are lt =
    let c : List ℕ = blocks (sealed key iv p) n in
    let at : suc j ≡ j + 1 = sym (add-one j) in
    ap (block (iv ++ c)) at ∙ block_before-more iv c j len ∙ block-blocks (sealed key iv p) n j are (omega arith) ∙ ap (chained key iv p) (sym at)

opened_block-sealed : (key iv p : List ℕ) (n j : ℕ) → IsKey key → IsState iv → AreBytes p → length p ≡ 16 * n → j < n
    → opened_block key iv (blocks (sealed key iv p) n) j ≡ block p j
opened_block-sealed key iv p n j hk hiv small len lt =
    let are : AreBlocks (sealed key iv p) n = λ i below. (IsState-chained key iv p (i + 1) hk hiv small (omega arith)).long in
    let plain = IsState-block p j small (omega arith) in
    let before = IsState-chained key iv p j hk hiv small (omega arith) in
    let mixed = IsState-xor (block p j) (chained key iv p j) plain before in
    let lp = plain.long in
    let lb = before.long in
    (λ i. xor (decrypt key (block-blocks (sealed key iv p) n j are lt i)) (block_before-sealed key iv p n j hiv.long are lt i))
    ∙ ap (λ (b : List ℕ). xor (decrypt key b) (chained key iv p j)) (chained-more key iv p j)
    ∙ ap (λ (b : List ℕ). xor b (chained key iv p j)) (decrypt-encrypt key (xor (block p j) (chained key iv p j)) hk mixed.long mixed.bytes)
    ∙ xor-xor (block p j) (chained key iv p j) (lp ∙ sym lb)

-- what is sealed opens to what it was
pub cbc_open-cbc_seal : (key iv p : List ℕ) → IsKey key → length iv ≡ 16 → AreBytes iv → AreBytes p → length p % 16 ≡ 0 → cbc_open key iv (cbc_seal key iv p) ≡ p
cbc_open-cbc_seal key iv p hk len iv_bytes small whole =
    let n : ℕ = length p / 16 in
    let f : ℕ → List ℕ = sealed key iv p in
    let hiv : IsState iv = record { long = len; bytes = iv_bytes } in
    let lp : length p ≡ 16 * n = omega arith in
    let are : AreBlocks f n = λ i below. (IsState-chained key iv p (i + 1) hk hiv small (omega arith)).long in
    let lc = length-blocks f n are in
    let count : length (blocks f n) / 16 ≡ n = omega arith in
    ap (λ (m : ℕ). blocks (opened_block key iv (blocks f n)) m) count
    ∙ blocks-same (opened_block key iv (blocks f n)) (block p) n (λ j lt. opened_block-sealed key iv p n j hk hiv small lp lt)
    ∙ blocks-block p n lp

-- the ciphertext is as long as the plaintext
pub length-cbc_seal : (key iv p : List ℕ) → IsKey key → IsState iv → AreBytes p → length p % 16 ≡ 0 → length (cbc_seal key iv p) ≡ length p
length-cbc_seal key iv p hk hiv small whole =
    let n : ℕ = length p / 16 in
    let len : length p ≡ 16 * n = omega arith in
    let are : AreBlocks (sealed key iv p) n = λ j lt. (IsState-chained key iv p (j + 1) hk hiv small (omega arith)).long in
    length-blocks (sealed key iv p) n are ∙ sym len
