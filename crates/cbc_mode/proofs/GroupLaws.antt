-- Groups of eight and of sixteen blocks of a chain, and the run of groups over a text.
use Rattle.std.proofs.Common.{◌≡◌, ℕ, ◌+◌, ◌-◌, ◌*◌, ◌/◌, ◌%◌, ◌<◌, ◌≤◌, List, [], ◌∷◌, ◌++◌, get_or, length, take, drop, sym, ap, subst, ◌∙◌, arith}
use Rattle.std.proofs.lemmas.Simd.{length-chunk}
use borrow.Rule.Slice.PartMut.{put_mid}
use Rattle.aes_core.specs.Aes.{xor, decrypt}
use Rattle.aes_core.specs.Blocks.{block}
use Rattle.aes_core.proofs.InPlace.{IsDone, IsDone-part, IsDone-more, block-take}
use Rattle.aes_core.proofs.KeyWords.{chunk-append}
use Rattle.aes_planes.specs.Planes.{planes_of}
use Rattle.aes_planes.specs.Blocks.{vector_at, added}
use Rattle.aes_planes.specs.Wide.{side}
use Rattle.aes_planes.specs.declared.vectors.Planes.{Planes}
use Rattle.aes_planes.specs.declared.vectors.WidePlanes.{WidePlanes}
use Rattle.aes_planes.proofs.BlockLaws.{eight, summed_at}
use Rattle.aes_planes.proofs.WideLaws.{two}
use Rattle.cbc_mode.specs.Cbc.{opened_block}
use Rattle.cbc_mode.proofs.Chain.{block_before-start, block_before-more, opened_block-part}

-- the vectors moved on by one, after the block before them
pub group_opened : (key before : List ℕ) (q m r s : Planes) (out old : List ℕ) → length before ≡ 16
    → planes_of m ≡ q.b6 ∷ q.b5 ∷ q.b4 ∷ q.b3 ∷ q.b2 ∷ q.b1 ∷ q.b0 ∷ before ∷ [] → ((j : ℕ) → j < 8 → vector_at q j ≡ block old j)
    → ((j : ℕ) → j < 8 → vector_at r j ≡ decrypt key (vector_at q j)) → planes_of s ≡ added r m → ((j : ℕ) → j < 8 → block out j ≡ vector_at s j)
    → (j : ℕ) → j < 8 → block out j ≡ opened_block key before old j
group_opened key before q m r s out old lb em load ef es eo j lj =
    let P : ℕ → Type 0 = λ j. vector_at m j ≡ block (before ++ old) j in
    let at : (n : ℕ) → get_or (planes_of m) n [] ≡ get_or (q.b6 ∷ q.b5 ∷ q.b4 ∷ q.b3 ∷ q.b2 ∷ q.b1 ∷ q.b0 ∷ before ∷ []) n [] = λ n. ap (λ (l : List (List ℕ)). get_or l n []) em in
    let next : (n : ℕ) → n < 7 → vector_at q n ≡ block (before ++ old) (n + 1) = λ n lt. load n (omega arith) ∙ sym (block_before-more before old n lb) in
    let masks = eight P (at 7 ∙ sym (block_before-start before old lb)) (at 6 ∙ next 0 (omega arith)) (at 5 ∙ next 1 (omega arith)) (at 4 ∙ next 2 (omega arith)) (at 3 ∙ next 3 (omega arith))
    (at 2 ∙ next 4 (omega arith)) (at 1 ∙ next 5 (omega arith)) (at 0 ∙ next 6 (omega arith)) j lj in
    let inner = ef j lj ∙ ap (decrypt key) (load j lj) in
    eo j lj ∙ summed_at r m s es j lj ∙ (λ i. xor (inner i) (masks i))

-- the vectors of two blocks moved on by one, after the block before them
pub wide_opened : (key before : List ℕ) (q m r s : WidePlanes) (out old : List ℕ) → length before ≡ 16 → block m.b0 0 ≡ before
    → ((j : ℕ) → j < 7 → vector_at (side 0 m) (j + 1) ≡ vector_at (side 1 q) j) → ((j : ℕ) → j < 8 → vector_at (side 1 m) j ≡ vector_at (side 0 q) j)
    → ((i : ℕ) → i < 2 → (j : ℕ) → j < 8 → vector_at (side i q) j ≡ block old (2 * j + i))
    → ((i : ℕ) → i < 2 → (j : ℕ) → j < 8 → vector_at (side i r) j ≡ decrypt key (vector_at (side i q) j)) → ((i : ℕ) → i < 2 → planes_of (side i s) ≡ added (side i r) (side i m))
    → ((i : ℕ) → i < 2 → (j : ℕ) → j < 8 → block out (2 * j + i) ≡ vector_at (side i s) j)
    → (n : ℕ) → n < 16 → block out n ≡ opened_block key before old n
wide_opened key before q m r s out old lb first even odd load ef es eo n ln =
    let i : ℕ = n % 2 in
    let j : ℕ = n / 2 in
    let li : i < 2 = omega arith in
    let lj : j < 8 = omega arith in
    let at : 2 * j + i ≡ n = omega arith in
    let P : ℕ → ℕ → Type 0 = λ i j. vector_at (side i m) j ≡ block (before ++ old) (2 * j + i) in
    let later : (j : ℕ) → j < 7 → P 0 (j + 1) = λ j lj.
    let to : 2 * j + 1 + 1 ≡ 2 * (j + 1) + 0 = omega arith in
    even j lj ∙ load 1 (omega arith) j (omega arith) ∙ sym (block_before-more before old (2 * j + 1) lb) ∙ ap (block (before ++ old)) to in
    let evens : (j : ℕ) → j < 8 → P 0 j = λ j lj.
    eight (P 0) (first ∙ sym (block_before-start before old lb)) (later 0 (omega arith)) (later 1 (omega arith)) (later 2 (omega arith)) (later 3 (omega arith)) (later 4 (omega arith)) (later 5 (omega arith)) (later 6 (omega arith)) j lj in
    let odds : (j : ℕ) → j < 8 → P 1 j = λ j lj.
    let to : 2 * j + 0 + 1 ≡ 2 * j + 1 = omega arith in
    odd j lj ∙ load 0 (omega arith) j lj ∙ sym (block_before-more before old (2 * j + 0) lb) ∙ ap (block (before ++ old)) to in
    let masks : P i j = two (λ i. P i j) (evens j lj) (odds j lj) i li in
    let inner = ef i li j lj ∙ ap (decrypt key) (load i li j lj) in
    subst (λ (b : ℕ). block out b ≡ opened_block key before old b) at
    (eo i li j lj ∙ summed_at (side i r) (side i m) (side i s) (es i li) j lj ∙ (λ k. xor (inner k) (masks k)))

-- blocks in a group, with other bytes after them
pub rest_opened : (key before rest behind group plain out : List ℕ) (j m : ℕ) → length before ≡ 16 → group ≡ rest ++ behind → out ≡ take (length rest) plain
    → ((j : ℕ) → j < m → block plain j ≡ opened_block key before group j) → length rest ≤ 16 * m → 16 * j + 16 ≤ length rest → block out j ≡ opened_block key before rest j
rest_opened key before rest behind group plain out j m lb eg eo es few le =
    let none : (n : ℕ) → 0 + n ≡ n = λ n. omega arith in
    let same : (n : ℕ) → n ≤ j → block group n ≡ block rest (0 + n) = λ n ln.
    ap (λ (l : List ℕ). block l n) eg ∙ chunk-append (16 * n) 16 rest behind (omega arith) ∙ sym (ap (block rest) (none n)) in
    ap (λ (l : List ℕ). block l j) eo ∙ block-take plain j (length rest) le ∙ es j (omega arith)
    ∙ opened_block-part key before rest before group 0 j lb lb (sym (block_before-start before rest lb)) same ∙ ap (opened_block key before rest) (none j)

-- the last of n + 1 blocks from block j on stands before what comes next
pub part_chain : (key iv p now last : List ℕ) (s k j n : ℕ) → length iv ≡ 16 → IsDone (opened_block key iv p) p now j → s ≡ 16 * j → 16 * n + 16 ≤ k → last ≡ block (take k (drop s now)) n
    → last ≡ block (iv ++ p) (j + n + 1)
part_chain key iv p now last s k j n len done es fits e =
    e ∙ IsDone-part (opened_block key iv p) p now s k j n done es fits ∙ sym (block_before-more iv p (j + n) len)

-- m blocks of a text, from block j on
pub part_same : (key iv p now ys before : List ℕ) (s k j m : ℕ) → length iv ≡ 16 → length before ≡ 16 → before ≡ block (iv ++ p) j → IsDone (opened_block key iv p) p now j → s ≡ 16 * j → k ≡ 16 * m
    → ((i : ℕ) → i < m → block ys i ≡ opened_block key before (take k (drop s now)) i) → (i : ℕ) → i < m → block ys i ≡ opened_block key iv p (j + i)
part_same key iv p now ys before s k j m len lb chain done es ek new i li =
    new i li ∙ opened_block-part key iv p before (take k (drop s now)) j i len lb chain (λ n ln. IsDone-part (opened_block key iv p) p now s k j n done es (omega arith))

pub part_step : (key iv p now ys before : List ℕ) (s k j m : ℕ) → length iv ≡ 16 → length before ≡ 16 → before ≡ block (iv ++ p) j → IsDone (opened_block key iv p) p now j → s ≡ 16 * j → k ≡ 16 * m
    → length ys ≡ 16 * m → ((i : ℕ) → i < m → block ys i ≡ opened_block key before (take k (drop s now)) i) → IsDone (opened_block key iv p) p (put_mid s k now ys) (j + m)
part_step key iv p now ys before s k j m len lb chain done es ek ly new =
    IsDone-more (opened_block key iv p) p now ys s k j m done es ek ly (part_same key iv p now ys before s k j m len lb chain done es ek new)

-- the last block of a group stands before the next group
pub group_chain : (key iv p now last : List ℕ) (s k g : ℕ) → length iv ≡ 16 → IsDone (opened_block key iv p) p now (16 * g) → s ≡ 256 * g → k ≡ 256 → last ≡ block (take k (drop s now)) 15
    → last ≡ block (iv ++ p) (16 * (g + 1))
group_chain key iv p now last s k g len done es ek e =
    let at : s ≡ 16 * (16 * g) = omega arith in
    let more : 16 * g + 15 + 1 ≡ 16 * (g + 1) = omega arith in
    part_chain key iv p now last s k (16 * g) 15 len done at (omega arith) e ∙ ap (block (iv ++ p)) more

-- the next sixteen blocks of a text
pub group_step : (key iv p now ys before : List ℕ) (s k g : ℕ) → length iv ≡ 16 → length before ≡ 16 → before ≡ block (iv ++ p) (16 * g) → IsDone (opened_block key iv p) p now (16 * g) → s ≡ 256 * g → k ≡ 256
    → length ys ≡ 256 → ((j : ℕ) → j < 16 → block ys j ≡ opened_block key before (take k (drop s now)) j) → IsDone (opened_block key iv p) p (put_mid s k now ys) (16 * (g + 1))
group_step key iv p now ys before s k g len lb chain done es ek ly new =
    let at : s ≡ 16 * (16 * g) = omega arith in
    let more : 16 * g + 16 ≡ 16 * (g + 1) = omega arith in
    subst (IsDone (opened_block key iv p) p (put_mid s k now ys)) more (part_step key iv p now ys before s k (16 * g) 16 len lb chain done at ek ly new)

-- the blocks after the last whole group
pub rest_step : (key iv p now ys before : List ℕ) (s k g : ℕ) → length iv ≡ 16 → length before ≡ 16 → before ≡ block (iv ++ p) (16 * g) → IsDone (opened_block key iv p) p now (16 * g) → s ≡ 256 * g → s ≤ length p
    → k ≡ length p - s → length p % 16 ≡ 0 → s + k ≤ length now → length ys ≡ k
    → ((j : ℕ) → 16 * j + 16 ≤ length (take k (drop s now)) → block ys j ≡ opened_block key before (take k (drop s now)) j) → IsDone (opened_block key iv p) p (put_mid s k now ys) (length p / 16)
rest_step key iv p now ys before s k g len lb chain done es low ek whole fits ly new =
    let m : ℕ = length p / 16 - 16 * g in
    let at : s ≡ 16 * (16 * g) = omega arith in
    let size : k ≡ 16 * m = omega arith in
    let more : 16 * g + m ≡ length p / 16 = omega arith in
    let long = length-chunk s k now fits in
    subst (IsDone (opened_block key iv p) p (put_mid s k now ys)) more
    (part_step key iv p now ys before s k (16 * g) m len lb chain done at size (ly ∙ size) (λ i li. new i (omega (arith, long))))
