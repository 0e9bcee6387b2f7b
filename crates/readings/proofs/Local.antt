-- What part of the plaintext of a run depends on what part of its ciphertext.
use Rattle.std.proofs.Common.{◌≡◌, ℕ, zero, suc, ◌+◌, ◌-◌, ◌*◌, ◌/◌, ◌<◌, ◌≤◌, List, ◌++◌, length, drop, bit_xor, sym, ap, ◌∙◌, arith, lit<, length-append}
use Rattle.std.proofs.lemmas.Simd.{length-zip2, length-chunk}
use Rattle.std.specs.Int.{w128, to_le_bytes}
use Rattle.aes_core.specs.Aes.{xor, decrypt}
use Rattle.aes_core.specs.Blocks.{block, blocks}
use Rattle.aes_core.specs.Schedule.{IsKeyLength}
use Rattle.aes_core.proofs.BlockLists.{AreBlocks, blocks-same}
use Rattle.block_traits.proofs.PartLists.{part}
use Rattle.xts_mode.specs.Xts.{tweak_at, first_tweak, tweaked_block, xts_open}
use Rattle.sealing.proofs.Runs.{length-decrypt, length-masked}
use Rattle.cbc_mode.specs.Cbc.{opened_block, cbc_open}
use Rattle.cbc_mode.proofs.Chain.{block_before-start, block_before-more}
use Rattle.readings.proofs.PartLists.{same_block, part-blocks, part-blocks_rest}

-- if two lists have the same blocks in a part, f of their blocks gives the same part
same_part : (f g : ℕ → List ℕ) (n j : ℕ) → AreBlocks f n → AreBlocks g n → 32 * j + 32 ≤ n → ((i : ℕ) → i < 32 → f (32 * j + i) ≡ g (32 * j + i))
    → part 512 j (blocks f n) ≡ part 512 j (blocks g n)
same_part f g n j hf hg fits same =
    part-blocks f n j hf fits ∙ blocks-same (λ i. f (32 * j + i)) (λ i. g (32 * j + i)) 32 same ∙ sym (part-blocks g n j hg fits)

-- under XTS each part depends on itself alone
pub xts_open-part : (key1 key2 : List ℕ) (unit j : ℕ) (xs ys : List ℕ) → IsKeyLength (length key1) → length xs ≡ length ys → 512 * j + 512 ≤ length xs
    → part 512 j xs ≡ part 512 j ys → part 512 j (xts_open key1 key2 unit xs) ≡ part 512 j (xts_open key1 key2 unit ys)
xts_open-part key1 key2 unit j xs ys long len fits same =
    let t : ℕ = first_tweak key2 unit in
    let n : ℕ = length xs / 16 in
    let f : ℕ → List ℕ = tweaked_block (decrypt key1) t xs in
    let g : ℕ → List ℕ = tweaked_block (decrypt key1) t ys in
    let short = λ (b : List ℕ). length-decrypt key1 b long in
    same_part f g n j (λ i lt. length-masked (decrypt key1) t xs i short) (λ i lt. length-masked (decrypt key1) t ys i short) (omega arith)
    (λ i lt. ap (λ (b : List ℕ). let mask = to_le_bytes w128 (tweak_at t (32 * j + i)) in xor (decrypt key1 (xor b mask)) mask) (same_block j i xs ys lt same))
    ∙ ap (λ (m : ℕ). part 512 j (blocks g (m / 16))) len

-- ---- cipher block chaining

length-opened : (key iv c : List ℕ) (n j : ℕ) → IsKeyLength (length key) → length iv ≡ 16 → 16 * n ≤ length c → j < n → length (opened_block key iv c j) ≡ 16
length-opened key iv c n j long len fits lt =
    let all = length-append iv c in
    let a = length-decrypt key (block c j) long in
    let b : length (block (iv ++ c) j) ≡ 16 = length-chunk (16 * j) 16 (iv ++ c) (omega arith) in
    length-zip2 bit_xor (decrypt key (block c j)) (block (iv ++ c) j) (a ∙ sym b) ∙ a

-- the block before block i of part j, if the part is the same, and so is the part before it
before-same : (iv xs ys : List ℕ) (j i : ℕ) → length iv ≡ 16 → i < 32 → part 512 j xs ≡ part 512 j ys → (0 < j → part 512 (j - 1) xs ≡ part 512 (j - 1) ys)
    → block (iv ++ xs) (32 * j + i) ≡ block (iv ++ ys) (32 * j + i)
before-same iv xs ys zero zero len lt same left =
    let at : 32 * 0 + 0 ≡ 0 = omega arith in
    ap (block (iv ++ xs)) at ∙ block_before-start iv xs len ∙ sym (ap (block (iv ++ ys)) at ∙ block_before-start iv ys len)
before-same iv xs ys (suc j) zero len lt same left =
    let at : 32 * suc j + 0 ≡ 32 * j + 31 + 1 = omega arith in
    let one : suc j - 1 ≡ j = omega arith in
    let there : part 512 j xs ≡ part 512 j ys = ap (λ (m : ℕ). part 512 m xs) (sym one) ∙ left (omega arith) ∙ ap (λ (m : ℕ). part 512 m ys) one in
    ap (block (iv ++ xs)) at ∙ block_before-more iv xs (32 * j + 31) len
    ∙ same_block j 31 xs ys (lit< tt) there
    ∙ sym (ap (block (iv ++ ys)) at ∙ block_before-more iv ys (32 * j + 31) len)
before-same iv xs ys j (suc i) len lt same left =
    let at : 32 * j + suc i ≡ 32 * j + i + 1 = omega arith in
    ap (block (iv ++ xs)) at ∙ block_before-more iv xs (32 * j + i) len
    ∙ same_block j i xs ys (omega arith) same
    ∙ sym (ap (block (iv ++ ys)) at ∙ block_before-more iv ys (32 * j + i) len)

-- a part depends on itself and on the part before it
pub cbc_open-part : (key iv : List ℕ) (j : ℕ) (xs ys : List ℕ) → IsKeyLength (length key) → length iv ≡ 16 → length xs ≡ length ys → 512 * j + 512 ≤ length xs
    → part 512 j xs ≡ part 512 j ys → (0 < j → part 512 (j - 1) xs ≡ part 512 (j - 1) ys) → part 512 j (cbc_open key iv xs) ≡ part 512 j (cbc_open key iv ys)
cbc_open-part key iv j xs ys long leniv len fits same left =
    let n : ℕ = length xs / 16 in
    let f : ℕ → List ℕ = opened_block key iv xs in
    let g : ℕ → List ℕ = opened_block key iv ys in
    same_part f g n j (λ i lt. length-opened key iv xs n i long leniv (omega arith) lt) (λ i lt. length-opened key iv ys n i long leniv (omega arith) lt) (omega arith)
    (λ i lt. λ t. xor (decrypt key (same_block j i xs ys lt same t)) (before-same iv xs ys j i leniv lt same left t))
    ∙ ap (λ (m : ℕ). part 512 j (blocks g (m / 16))) len

-- but for its first block a part depends on itself alone
pub cbc_open-rest : (key iv : List ℕ) (j : ℕ) (xs ys : List ℕ) → IsKeyLength (length key) → length iv ≡ 16 → length xs ≡ length ys → 512 * j + 512 ≤ length xs
    → part 512 j xs ≡ part 512 j ys → drop 16 (part 512 j (cbc_open key iv xs)) ≡ drop 16 (part 512 j (cbc_open key iv ys))
cbc_open-rest key iv j xs ys long leniv len fits same =
    let n : ℕ = length xs / 16 in
    let f : ℕ → List ℕ = opened_block key iv xs in
    let g : ℕ → List ℕ = opened_block key iv ys in
    part-blocks_rest f n j (λ i lt. length-opened key iv xs n i long leniv (omega arith) lt) (omega arith)
    ∙ blocks-same (λ i. f (32 * j + (i + 1))) (λ i. g (32 * j + (i + 1))) 31 (λ i lt.
    let at : 32 * j + (i + 1) ≡ 32 * j + i + 1 = omega arith in
    let before : block (iv ++ xs) (32 * j + (i + 1)) ≡ block (iv ++ ys) (32 * j + (i + 1)) =
    ap (block (iv ++ xs)) at ∙ block_before-more iv xs (32 * j + i) leniv
    ∙ same_block j i xs ys (omega arith) same
    ∙ sym (ap (block (iv ++ ys)) at ∙ block_before-more iv ys (32 * j + i) leniv) in
    (λ t. xor (decrypt key (same_block j (i + 1) xs ys (omega arith) same t)) (before t)))
    ∙ sym (part-blocks_rest g n j (λ i lt. length-opened key iv ys n i long leniv (omega arith) lt) (omega arith))
    ∙ ap (λ (m : ℕ). drop 16 (part 512 j (blocks g (m / 16)))) len
