use Rattle.std.proofs.Common.{◌≡◌, ℕ, ◌+◌, ◌*◌, ◌/◌, ◌%◌, ◌<◌, List, length, refl, sym, ap, ◌∙◌, subst, arith}
use Rattle.aes_core.specs.Blocks.{block}
use Rattle.aes_core.proofs.BlockLists.{block-blocks}
use Rattle.aes_core.proofs.InPlace.{IsDone, IsDone-end, IsDone-more, IsDone-start}
use Rattle.aes_planes.specs.Blocks.{vector_at}
use Rattle.aes_planes.specs.Wide.{side}
use Rattle.aes_planes.proofs.WideLaws.{long_at, two}
use Rattle.aes_planes.proofs.groups.wide_store.Goals as goal

pub returns : goal.returns
returns c =
    let p : List ℕ = c.args.bytes.now in
    let q = c.args.q in
    let f : ℕ → List ℕ = λ n. vector_at (side (n % 2) q) (n / 2) in
    let w = c.requires.wide in
    let done0 = IsDone-start f p in
    let done1 : IsDone f p c.wide_put.new.bytes 2 = subst (λ (l : List ℕ). IsDone f p l 2) (sym c.wide_put.ensures) (IsDone-more f p p q.b0 0 32 0 2 done0 refl refl w.l0 (two (λ i. block q.b0 i ≡ f (0 + i)) refl refl)) in
    let done2 : IsDone f p c.wide_put-2.new.bytes 4 = subst (λ (l : List ℕ). IsDone f p l 4) (sym c.wide_put-2.ensures) (IsDone-more f p c.wide_put.new.bytes q.b1 32 32 2 2 done1 refl refl w.l1 (two (λ i. block q.b1 i ≡ f (2 + i)) refl refl)) in
    let done3 : IsDone f p c.wide_put-3.new.bytes 6 = subst (λ (l : List ℕ). IsDone f p l 6) (sym c.wide_put-3.ensures) (IsDone-more f p c.wide_put-2.new.bytes q.b2 64 32 4 2 done2 refl refl w.l2 (two (λ i. block q.b2 i ≡ f (4 + i)) refl refl)) in
    let done4 : IsDone f p c.wide_put-4.new.bytes 8 = subst (λ (l : List ℕ). IsDone f p l 8) (sym c.wide_put-4.ensures) (IsDone-more f p c.wide_put-3.new.bytes q.b3 96 32 6 2 done3 refl refl w.l3 (two (λ i. block q.b3 i ≡ f (6 + i)) refl refl)) in
    let done5 : IsDone f p c.wide_put-5.new.bytes 10 = subst (λ (l : List ℕ). IsDone f p l 10) (sym c.wide_put-5.ensures) (IsDone-more f p c.wide_put-4.new.bytes q.b4 128 32 8 2 done4 refl refl w.l4 (two (λ i. block q.b4 i ≡ f (8 + i)) refl refl)) in
    let done6 : IsDone f p c.wide_put-6.new.bytes 12 = subst (λ (l : List ℕ). IsDone f p l 12) (sym c.wide_put-6.ensures) (IsDone-more f p c.wide_put-5.new.bytes q.b5 160 32 10 2 done5 refl refl w.l5 (two (λ i. block q.b5 i ≡ f (10 + i)) refl refl)) in
    let done7 : IsDone f p c.wide_put-7.new.bytes 14 = subst (λ (l : List ℕ). IsDone f p l 14) (sym c.wide_put-7.ensures) (IsDone-more f p c.wide_put-6.new.bytes q.b6 192 32 12 2 done6 refl refl w.l6 (two (λ i. block q.b6 i ≡ f (12 + i)) refl refl)) in
    let done8 : IsDone f p c.wide_put-8.new.bytes 16 = subst (λ (l : List ℕ). IsDone f p l 16) (sym c.wide_put-8.ensures) (IsDone-more f p c.wide_put-7.new.bytes q.b7 224 32 14 2 done7 refl refl w.l7 (two (λ i. block q.b7 i ≡ f (14 + i)) refl refl)) in
    let are : (n : ℕ) → n < 16 → length (f n) ≡ 16 = λ n ln. long_at q w (n % 2) (n / 2) (omega arith) (omega arith) in
    λ i li j lj.
    let even : (2 * j + i) % 2 ≡ i = omega arith in
    let half : (2 * j + i) / 2 ≡ j = omega arith in
    ap (λ (l : List ℕ). block l (2 * j + i)) (IsDone-end f p c.wide_put-8.new.bytes 16 c.requires.sixteen done8)
    ∙ block-blocks f 16 (2 * j + i) are (omega arith) ∙ (λ t. vector_at (side (even t) q) (half t))
