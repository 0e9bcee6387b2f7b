-- A slice whose blocks are replaced one after the other.
use Rattle.std.proofs.Common.{◌≡◌, ℕ, zero, suc, ◌+◌, ◌-◌, ◌*◌, ◌<◌, ◌≤◌, List, ◌++◌, length, take, drop, inl, inr, refl, sym, ap, ◌∙◌, arith, add-one, append_assoc, length-append}
use Rattle.std.proofs.lemmas.List.{take_at, drop_at, drop_all, append-nil, drop-drop, drop-take, take-take}
use Rattle.std.proofs.lemmas.Bool.{cases_lt}
use Rattle.std.proofs.lemmas.Simd.{length-chunk}
use Rattle.std.specs.Simd.Lanes.{chunk}
use Rattle.aes_core.specs.Blocks.{block, blocks}
use Rattle.aes_core.proofs.BlockLists.{AreBlocks, block-blocks, blocks-block, blocks-same}
use borrow.Rule.Slice.PartMut.{put_mid}

-- the first j blocks of p are replaced by f 0, …, f (j - 1)
pub record IsDone (f : ℕ → List ℕ) (p now : List ℕ) (j : ℕ) : Type 0 where
  pub long : length (blocks f j) ≡ 16 * j
  pub is : now ≡ blocks f j ++ drop (16 * j) p

pub IsDone-start : (f : ℕ → List ℕ) (p : List ℕ) → IsDone f p p 0
unfolding blocks
IsDone-start f p = record { long = refl; is = refl }

-- the next block has not changed yet
pub IsDone-block : (f : ℕ → List ℕ) (p now : List ℕ) (j : ℕ) → IsDone f p now j → chunk (16 * j) 16 now ≡ block p j
IsDone-block f p now j h =
    ap (λ (l : List ℕ). take 16 (drop (16 * j) l)) h.is ∙ ap (take 16) (drop_at (blocks f j) (drop (16 * j) p) (16 * j) h.long)

pub IsDone-next : (f : ℕ → List ℕ) (p now ys : List ℕ) (j k : ℕ) → IsDone f p now j → k ≡ 16 → length ys ≡ 16 → ys ≡ f j
    → IsDone f p (put_mid (16 * j) k now ys) (j + 1)
unfolding blocks
IsDone-next f p now ys j k h ek ly e =
    let more : blocks f (j + 1) ≡ blocks f j ++ f j = ap (blocks f) (add-one j) in
    let long = h.long in
    let front : take (16 * j) now ≡ blocks f j = ap (take (16 * j)) h.is ∙ take_at (blocks f j) (drop (16 * j) p) (16 * j) h.long in
    let at : 16 * j + 16 ≡ 16 * (j + 1) = omega arith in
    let back : drop k (drop (16 * j) now) ≡ drop (16 * (j + 1)) p =
    ap (λ (l : List ℕ). drop k (drop (16 * j) l)) h.is ∙ ap (drop k) (drop_at (blocks f j) (drop (16 * j) p) (16 * j) h.long)
    ∙ ap (λ (i : ℕ). drop i (drop (16 * j) p)) ek ∙ drop-drop 16 (16 * j) p ∙ ap (λ (i : ℕ). drop i p) at in
    record {
      long = ap length more ∙ omega (arith, length-append (blocks f j) (f j), long, ap length e, ly);
      is = (λ i. front i ++ (e i ++ back i)) ∙ sym (append_assoc (blocks f j) (f j) (drop (16 * (j + 1)) p)) ∙ ap (λ (l : List ℕ). l ++ drop (16 * (j + 1)) p) (sym more);
    }

pub IsDone-end : (f : ℕ → List ℕ) (p now : List ℕ) (j : ℕ) → length p ≡ 16 * j → IsDone f p now j → now ≡ blocks f j
IsDone-end f p now j len h =
    h.is ∙ ap (λ (l : List ℕ). blocks f j ++ l) (drop_all (16 * j) p (omega arith)) ∙ append-nil (blocks f j)

-- ---- several blocks at a time

-- the blocks from block j on, after those before it
blocks-add : (f : ℕ → List ℕ) (j m : ℕ) → blocks f (j + m) ≡ blocks f j ++ blocks (λ i. f (j + i)) m
unfolding blocks
blocks-add f j zero =
    let same : j + zero ≡ j = omega arith in
    ap (blocks f) same ∙ sym (append-nil (blocks f j))
blocks-add f j (suc m) =
    let more : j + suc m ≡ suc (j + m) = omega arith in
    ap (blocks f) more ∙ ap (λ (l : List ℕ). l ++ f (j + m)) (blocks-add f j m) ∙ append_assoc (blocks f j) (blocks (λ i. f (j + i)) m) (f (j + m))

-- a block at the front of a list
pub block-take : (l : List ℕ) (j n : ℕ) → 16 * j + 16 ≤ n → block (take n l) j ≡ block l j
block-take l j n le =
    let rest : ℕ = n - 16 * j in
    let whole : 16 * j + rest ≡ n = omega arith in
    ap (λ (k : ℕ). take 16 (drop (16 * j) (take k l))) (sym whole) ∙ ap (take 16) (drop-take (16 * j) rest l) ∙ take-take 16 rest (drop (16 * j) l) (omega arith)

-- the next k / 16 blocks have not changed yet
pub IsDone-part : (f : ℕ → List ℕ) (p now : List ℕ) (s k j i : ℕ) → IsDone f p now j → s ≡ 16 * j → 16 * i + 16 ≤ k → block (take k (drop s now)) i ≡ block p (j + i)
IsDone-part f p now s k j i h es le =
    let at : 16 * j + 16 * i ≡ 16 * (j + i) = omega arith in
    block-take (drop s now) i k le
    ∙ ap (λ (n : ℕ). block (drop n now) i) es
    ∙ ap (λ (l : List ℕ). block (drop (16 * j) l) i) h.is ∙ ap (λ (l : List ℕ). block l i) (drop_at (blocks f j) (drop (16 * j) p) (16 * j) h.long)
    ∙ ap (take 16) (drop-drop (16 * i) (16 * j) p ∙ ap (λ (n : ℕ). drop n p) at)

-- the next m blocks are replaced, by those of ys
pub IsDone-more : (f : ℕ → List ℕ) (p now ys : List ℕ) (s k j m : ℕ) → IsDone f p now j → s ≡ 16 * j → k ≡ 16 * m → length ys ≡ 16 * m
    → ((i : ℕ) → i < m → block ys i ≡ f (j + i)) → IsDone f p (put_mid s k now ys) (j + m)
IsDone-more f p now ys s k j m h es ek ly same =
    let e : ys ≡ blocks (λ i. f (j + i)) m = sym (blocks-block ys m ly) ∙ blocks-same (block ys) (λ i. f (j + i)) m same in
    let more : blocks f (j + m) ≡ blocks f j ++ blocks (λ i. f (j + i)) m = blocks-add f j m in
    let long = h.long in
    let front : take s now ≡ blocks f j = (λ i. take (es i) (h.is i)) ∙ take_at (blocks f j) (drop (16 * j) p) (16 * j) h.long in
    let at : 16 * j + k ≡ 16 * (j + m) = omega arith in
    let back : drop k (drop s now) ≡ drop (16 * (j + m)) p =
    (λ i. drop k (drop (es i) (h.is i))) ∙ ap (drop k) (drop_at (blocks f j) (drop (16 * j) p) (16 * j) h.long)
    ∙ drop-drop k (16 * j) p ∙ ap (λ (i : ℕ). drop i p) at in
    record {
      long = ap length more ∙ omega (arith, length-append (blocks f j) (blocks (λ i. f (j + i)) m), long, ap length e, ly);
      is = (λ i. front i ++ (e i ++ back i)) ∙ sym (append_assoc (blocks f j) (blocks (λ i. f (j + i)) m) (drop (16 * (j + m)) p)) ∙ ap (λ (l : List ℕ). l ++ drop (16 * (j + m)) p) (sym more);
    }

-- blocks that were written have 16 bytes
pub part_blocks : (g : ℕ → List ℕ) (ys : List ℕ) (j m : ℕ) → length ys ≡ 16 * m → ((i : ℕ) → i < m → block ys i ≡ g (j + i)) → AreBlocks g j → AreBlocks g (j + m)
part_blocks g ys j m ly same before n ln =
    elim (cases_lt n j) [
      | inl below ↦ before n below
      | inr behind ↦
          let at : j + (n - j) ≡ n = omega arith in
          ap (λ (i : ℕ). length (g i)) (sym at) ∙ ap length (sym (same (n - j) (omega arith))) ∙ length-chunk (16 * (n - j)) 16 ys (omega arith)
    ]

-- all of sixteen blocks
pub sixteen_done : (g : ℕ → List ℕ) (p now : List ℕ) → length p ≡ 256 → IsDone g p now 16 → AreBlocks g 16 → (j : ℕ) → j < 16 → block now j ≡ g j
sixteen_done g p now len done are j lj = ap (λ (l : List ℕ). block l j) (IsDone-end g p now 16 len done) ∙ block-blocks g 16 j are lj
