-- Lists in parts of 512 bytes, and each part as 32 blocks.
use Rattle.std.proofs.Common.{◌≡◌, ℕ, zero, suc, ◌+◌, ◌-◌, ◌*◌, ◌<◌, ◌≤◌, List, [], ◌∷◌, ◌++◌, length, get_or, take, drop, refl, sym, ap, ◌∙◌, arith, All, length-append}
use Rattle.std.proofs.lemmas.List.{take-take, drop-take, drop-drop, take_at, drop_at, length-drop}
use Rattle.std.proofs.lemmas.List.Elements.{All-head, All-tail}
use Rattle.std.specs.List.{concat}
use Rattle.aes_core.specs.Blocks.{block, blocks}
use Rattle.aes_core.proofs.BlockLists.{AreBlocks, length-blocks, block-blocks, blocks-same, blocks-block}
use Rattle.block_traits.specs.Content.{IsSector}
use Rattle.block_traits.proofs.PartLists.{part, length-part}

-- sectors one after the other, of which each is a part again
pub length-concat_sectors : (sectors : List (List ℕ)) → All IsSector sectors → length (concat sectors) ≡ 512 * length sectors
length-concat_sectors [] all = refl
length-concat_sectors (sector ∷ sectors) all =
    let first : length sector ≡ 512 = All-head IsSector sector sectors all in
    let rest = length-concat_sectors sectors (All-tail IsSector sector sectors all) in
    omega (arith, length-append sector (concat sectors), first, rest)

pub part-concat : (sectors : List (List ℕ)) (j : ℕ) → All IsSector sectors → j < length sectors → part 512 j (concat sectors) ≡ get_or sectors j []
part-concat [] j all lt = absurd (omega arith)
part-concat (sector ∷ sectors) zero all lt = take_at sector (concat sectors) 512 (All-head IsSector sector sectors all)
part-concat (sector ∷ sectors) (suc j) all lt =
    let more : 512 * suc j ≡ 512 + 512 * j = omega arith in
    ap (λ (m : ℕ). take 512 (drop m (sector ++ concat sectors))) more
    ∙ ap (take 512) (sym (drop-drop (512 * j) 512 (sector ++ concat sectors))
    ∙ ap (drop (512 * j)) (drop_at sector (concat sectors) 512 (All-head IsSector sector sectors all)))
    ∙ part-concat sectors j (All-tail IsSector sector sectors all) (omega arith)

-- a block of a part is a block of the list
block-part : (j i : ℕ) (bytes : List ℕ) → i < 32 → block (part 512 j bytes) i ≡ block bytes (32 * j + i)
block-part j i bytes lt =
    let rest : ℕ = 512 - 16 * i in
    let both : 512 ≡ 16 * i + rest = omega arith in
    let fits : 16 ≤ rest = omega arith in
    let at : 512 * j + 16 * i ≡ 16 * (32 * j + i) = omega arith in
    ap (λ (m : ℕ). take 16 (drop (16 * i) (take m (drop (512 * j) bytes)))) both
    ∙ ap (take 16) (drop-take (16 * i) rest (drop (512 * j) bytes))
    ∙ take-take 16 rest (drop (16 * i) (drop (512 * j) bytes)) fits
    ∙ ap (take 16) (drop-drop (16 * i) (512 * j) bytes ∙ ap (λ (m : ℕ). drop m bytes) at)

-- lists that agree in a part agree in the blocks of that part
pub same_block : (j i : ℕ) (xs ys : List ℕ) → i < 32 → part 512 j xs ≡ part 512 j ys → block xs (32 * j + i) ≡ block ys (32 * j + i)
same_block j i xs ys lt same = sym (block-part j i xs lt) ∙ ap (λ (p : List ℕ). block p i) same ∙ block-part j i ys lt

-- a part of a list of blocks is its 32 blocks
pub part-blocks : (f : ℕ → List ℕ) (n j : ℕ) → AreBlocks f n → 32 * j + 32 ≤ n → part 512 j (blocks f n) ≡ blocks (λ i. f (32 * j + i)) 32
part-blocks f n j are fits =
    let long = length-blocks f n are in
    let all : List ℕ = blocks f n in
    let len : length (part 512 j all) ≡ 16 * 32 = length-part 512 j all (omega arith) in
    sym (blocks-block (part 512 j all) 32 len)
    ∙ blocks-same (block (part 512 j all)) (λ i. f (32 * j + i)) 32 (λ i lt. block-part j i all lt ∙ block-blocks f n (32 * j + i) are (omega arith))

-- a part of a list of blocks without its first block is 31 blocks
pub part-blocks_rest : (f : ℕ → List ℕ) (n j : ℕ) → AreBlocks f n → 32 * j + 32 ≤ n → drop 16 (part 512 j (blocks f n)) ≡ blocks (λ i. f (32 * j + (i + 1))) 31
part-blocks_rest f n j are fits =
    let long = length-blocks f n are in
    let all : List ℕ = blocks f n in
    let p : List ℕ = part 512 j all in
    let len : length p ≡ 512 = length-part 512 j all (omega arith) in
    let less : length (drop 16 p) ≡ 16 * 31 = omega (arith, length-drop 16 p) in
    sym (blocks-block (drop 16 p) 31 less)
    ∙ blocks-same (block (drop 16 p)) (λ i. f (32 * j + (i + 1))) 31 (λ i lt.
    let at : 16 + 16 * i ≡ 16 * (i + 1) = omega arith in
    ap (take 16) (drop-drop (16 * i) 16 p ∙ ap (λ (m : ℕ). drop m p) at)
    ∙ block-part j (i + 1) all (omega arith) ∙ block-blocks f n (32 * j + (i + 1)) are (omega arith))
