use Rattle.std.proofs.Common.{◌≡◌, ℕ, List, length, refl, sym, ap, ◌∙◌, subst}
use Rattle.aes_core.specs.Blocks.{block}
use Rattle.aes_core.proofs.InPlace.{IsDone, IsDone-start, IsDone-next, IsDone-end}
use Rattle.aes_core.proofs.BlockLists.{block-blocks}
use Rattle.aes_planes.specs.Blocks.{vector_at}
use Rattle.aes_planes.proofs.BlockLaws.{eight}
use Rattle.aes_planes.proofs.groups.store.Goals as goal

pub returns : goal.returns
returns c =
    let p : List ℕ = c.args.bytes.now in
    let f : ℕ → List ℕ = vector_at c.args.q in
    let long = c.requires.long in
    let done0 = IsDone-start f p in
    let done1 : IsDone f p c.put.new.bytes 1 = subst (λ (l : List ℕ). IsDone f p l 1) (sym c.put.ensures) (IsDone-next f p p c.args.q.b0 0 16 done0 refl long.l0 refl) in
    let done2 : IsDone f p c.put-2.new.bytes 2 = subst (λ (l : List ℕ). IsDone f p l 2) (sym c.put-2.ensures) (IsDone-next f p c.put.new.bytes c.args.q.b1 1 16 done1 refl long.l1 refl) in
    let done3 : IsDone f p c.put-3.new.bytes 3 = subst (λ (l : List ℕ). IsDone f p l 3) (sym c.put-3.ensures) (IsDone-next f p c.put-2.new.bytes c.args.q.b2 2 16 done2 refl long.l2 refl) in
    let done4 : IsDone f p c.put-4.new.bytes 4 = subst (λ (l : List ℕ). IsDone f p l 4) (sym c.put-4.ensures) (IsDone-next f p c.put-3.new.bytes c.args.q.b3 3 16 done3 refl long.l3 refl) in
    let done5 : IsDone f p c.put-5.new.bytes 5 = subst (λ (l : List ℕ). IsDone f p l 5) (sym c.put-5.ensures) (IsDone-next f p c.put-4.new.bytes c.args.q.b4 4 16 done4 refl long.l4 refl) in
    let done6 : IsDone f p c.put-6.new.bytes 6 = subst (λ (l : List ℕ). IsDone f p l 6) (sym c.put-6.ensures) (IsDone-next f p c.put-5.new.bytes c.args.q.b5 5 16 done5 refl long.l5 refl) in
    let done7 : IsDone f p c.put-7.new.bytes 7 = subst (λ (l : List ℕ). IsDone f p l 7) (sym c.put-7.ensures) (IsDone-next f p c.put-6.new.bytes c.args.q.b6 6 16 done6 refl long.l6 refl) in
    let done8 : IsDone f p c.put-8.new.bytes 8 = subst (λ (l : List ℕ). IsDone f p l 8) (sym c.put-8.ensures) (IsDone-next f p c.put-7.new.bytes c.args.q.b7 7 16 done7 refl long.l7 refl) in
    let are = eight (λ j. length (f j) ≡ 16) long.l0 long.l1 long.l2 long.l3 long.l4 long.l5 long.l6 long.l7 in
    λ j lj. ap (λ (l : List ℕ). block l j) (IsDone-end f p c.put-8.new.bytes 8 c.requires.eight done8) ∙ block-blocks f 8 j are lj
