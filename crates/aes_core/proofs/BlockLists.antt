-- Lists of blocks: their length, and each block of them.
use Rattle.std.proofs.Common.{◌≡◌, ℕ, zero, suc, ◌+◌, ◌*◌, ◌<◌, List, ◌++◌, length, take, take-add, inl, inr, refl, sym, ap, ◌∙◌, arith, length-append}
use Rattle.std.proofs.lemmas.List.{take_all, drop_at}
use Rattle.std.proofs.lemmas.Bool.{cases_lt}
use Rattle.aes_core.specs.Blocks.{block, blocks}
use Rattle.aes_core.proofs.KeyWords.{chunk-append}

-- each of the first n is a block
abbrev pub AreBlocks : (ℕ → List ℕ) → ℕ → Type 0
AreBlocks f n = (j : ℕ) → j < n → length (f j) ≡ 16

pub length-blocks : (f : ℕ → List ℕ) (n : ℕ) → AreBlocks f n → length (blocks f n) ≡ 16 * n
unfolding blocks
length-blocks f zero len = refl
length-blocks f (suc n) len =
    let before = length-blocks f n (λ j lt. len j (omega arith)) in
    let last = len n (omega arith) in
    omega (arith, length-append (blocks f n) (f n), before, last)

-- block j of a list made of blocks
pub block-blocks : (f : ℕ → List ℕ) (n j : ℕ) → AreBlocks f n → j < n → block (blocks f n) j ≡ f j
unfolding blocks
block-blocks f zero j len lt = absurd (omega arith)
block-blocks f (suc n) j len lt =
    let long = length-blocks f n (λ i below. len i (omega arith)) in
    let last = len n (omega arith) in
    elim (cases_lt j n) [
      | inl below ↦ chunk-append (16 * j) 16 (blocks f n) (f n) (omega arith) ∙ block-blocks f n j (λ i h. len i (omega arith)) below
      | inr ge ↦
          let is : n ≡ j = omega arith in
          ap (take 16) (drop_at (blocks f n) (f n) (16 * j) (long ∙ ap (λ (k : ℕ). 16 * k) is)) ∙ take_all 16 (f n) (omega arith) ∙ ap f is
    ]

pub blocks-same : (f g : ℕ → List ℕ) (n : ℕ) → ((j : ℕ) → j < n → f j ≡ g j) → blocks f n ≡ blocks g n
unfolding blocks
blocks-same f g zero same = refl
blocks-same f g (suc n) same =
    let before = blocks-same f g n (λ j lt. same j (omega arith)) in
    let last = same n (omega arith) in
    (λ i. before i ++ last i)

blocks-front : (p : List ℕ) (n : ℕ) → blocks (block p) n ≡ take (16 * n) p
unfolding blocks
blocks-front p zero = refl
blocks-front p (suc n) =
    let more : 16 * n + 16 ≡ 16 * suc n = omega arith in
    ap (λ (l : List ℕ). l ++ block p n) (blocks-front p n) ∙ sym (take-add (16 * n) 16 p) ∙ ap (λ (k : ℕ). take k p) more

-- a list of whole blocks is its blocks, one after the other
pub blocks-block : (p : List ℕ) (n : ℕ) → length p ≡ 16 * n → blocks (block p) n ≡ p
blocks-block p n len = blocks-front p n ∙ take_all (16 * n) p (omega arith)
