-- How long what XTS gives is, and each block of it.
use Rattle.std.proofs.Common.{◌≡◌, ℕ, ◌+◌, ◌*◌, ◌/◌, ◌%◌, ◌≤◌, List, length, bit_xor, ◌∙◌, arith}
use Rattle.std.proofs.lemmas.Simd.{length-zip2}
use Rattle.std.specs.Int.{w128, to_le_bytes}
use Rattle.aes_core.specs.Aes.{xor, encrypt, decrypt}
use Rattle.aes_core.specs.Blocks.{block}
use Rattle.aes_core.specs.Schedule.{IsKeyLength}
use Rattle.aes_core.proofs.BlockLists.{block-blocks}
use Rattle.aes_core.proofs.Lengths.{length-as_blocks, length-decrypt, length-encrypt}
use Rattle.xts_mode.specs.Xts.{tweak_at, first_tweak, tweaked_block, xts_seal, xts_open}

pub length-masked : (f : List ℕ → List ℕ) (t : ℕ) (p : List ℕ) (j : ℕ) → ((b : List ℕ) → length (f b) ≡ 16) → length (tweaked_block f t p j) ≡ 16
length-masked f t p j long =
    let mask : List ℕ = to_le_bytes w128 (tweak_at t j) in
    length-zip2 bit_xor (f (xor (block p j) mask)) mask (long (xor (block p j) mask)) ∙ long (xor (block p j) mask)

pub length-xts_seal : (key1 key2 : List ℕ) (unit : ℕ) (p : List ℕ) → IsKeyLength (length key1) → length p % 16 ≡ 0 → length (xts_seal key1 key2 unit p) ≡ length p
length-xts_seal key1 key2 unit p long whole =
    length-as_blocks (tweaked_block (encrypt key1) (first_tweak key2 unit) p) p (λ j lt. length-masked (encrypt key1) (first_tweak key2 unit) p j (λ b. length-encrypt key1 b long)) whole

pub length-xts_open : (key1 key2 : List ℕ) (unit : ℕ) (p : List ℕ) → IsKeyLength (length key1) → length p % 16 ≡ 0 → length (xts_open key1 key2 unit p) ≡ length p
length-xts_open key1 key2 unit p long whole =
    length-as_blocks (tweaked_block (decrypt key1) (first_tweak key2 unit) p) p (λ j lt. length-masked (decrypt key1) (first_tweak key2 unit) p j (λ b. length-decrypt key1 b long)) whole

-- block j of one text depends on block j of the other alone
pub block-xts_seal : (key1 key2 : List ℕ) (unit j : ℕ) (p : List ℕ) → IsKeyLength (length key1) → 16 * j + 16 ≤ length p
    → block (xts_seal key1 key2 unit p) j ≡ tweaked_block (encrypt key1) (first_tweak key2 unit) p j
block-xts_seal key1 key2 unit j p long fits =
    block-blocks (tweaked_block (encrypt key1) (first_tweak key2 unit) p) (length p / 16) j
    (λ i lt. length-masked (encrypt key1) (first_tweak key2 unit) p i (λ b. length-encrypt key1 b long)) (omega arith)

pub block-xts_open : (key1 key2 : List ℕ) (unit j : ℕ) (c : List ℕ) → IsKeyLength (length key1) → 16 * j + 16 ≤ length c
    → block (xts_open key1 key2 unit c) j ≡ tweaked_block (decrypt key1) (first_tweak key2 unit) c j
block-xts_open key1 key2 unit j c long fits =
    block-blocks (tweaked_block (decrypt key1) (first_tweak key2 unit) c) (length c / 16) j
    (λ i lt. length-masked (decrypt key1) (first_tweak key2 unit) c i (λ b. length-decrypt key1 b long)) (omega arith)
