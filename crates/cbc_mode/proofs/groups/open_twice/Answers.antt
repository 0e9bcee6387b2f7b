use Rattle.std.proofs.Common.{◌≡◌, ℕ, ◌+◌, ◌*◌, ◌++◌, List, ap, arith, subst, sym, ◌∙◌}
use Rattle.aes_core.specs.Blocks.{block}
use Rattle.aes_core.proofs.BlockLists.{AreBlocks}
use Rattle.aes_core.proofs.InPlace.{IsDone, IsDone-start, part_blocks, sixteen_done}
use Rattle.cbc_mode.specs.Cbc.{opened_block}
use Rattle.cbc_mode.proofs.Chain.{block_before-more, block_before-start}
use Rattle.cbc_mode.proofs.GroupLaws.{part_chain, part_same, part_step}
use Rattle.cbc_mode.proofs.groups.open_twice.Goals as goal

pub loop-g-init : goal.loop-g-init
loop-g-init c = record {
  long = c.told-before;
  chain = sym (block_before-start c.args.before.now c.args.group.now c.told-before);
  done = IsDone-start (opened_block c.args.k.now c.args.before.now c.args.group.now) c.args.group.now;
  are = λ n ln. absurd (omega arith);
}

pub loop-g-preserved : goal.loop-g-preserved
loop-g-preserved c =
    let key = c.args.k.now in
    let iv = c.args.before.now in
    let p = c.args.group.now in
    let j : ℕ = 8 * c.loop-g.g in
    let more : j + 8 ≡ 8 * (c.loop-g.g + 1) = omega arith in
    let last : j + 7 + 1 ≡ 8 * (c.loop-g.g + 1) = omega arith in
    let done = c.loop-g.invariant.done in
    record {
      long = c.open_group-next.ensures.long;
      chain = part_chain key iv p c.loop-g.group c.open_group-next.result _ _ j 7 c.told-before done (omega arith) (omega arith) c.open_group-next.ensures.last ∙ ap (block (iv ++ p)) last;
      done = subst (IsDone (opened_block key iv p) p _) more
          (part_step key iv p c.loop-g.group c.open_group-next.new.group c.loop-g.last _ _ j 8 c.told-before c.loop-g.invariant.long c.loop-g.invariant.chain done (omega arith) (omega arith) (omega arith) c.open_group-next.ensures.opened);
      are = subst (AreBlocks (opened_block key iv p)) more
          (part_blocks (opened_block key iv p) c.open_group-next.new.group j 8 (omega arith)
          (part_same key iv p c.loop-g.group c.open_group-next.new.group c.loop-g.last _ _ j 8 c.told-before c.loop-g.invariant.long c.loop-g.invariant.chain done (omega arith) (omega arith) c.open_group-next.ensures.opened) c.loop-g.invariant.are);
    }

pub returns-clause-opened : goal.returns-clause-opened
returns-clause-opened c =
    let g : ℕ → List ℕ = opened_block c.args.k.now c.args.before.now c.args.group.now in
    let end : 8 * c.loop-g.g ≡ 16 = omega arith in
    sixteen_done g c.args.group.now c.loop-g.group c.requires (subst (IsDone g c.args.group.now c.loop-g.group) end c.loop-g.invariant.done) (subst (AreBlocks g) end c.loop-g.invariant.are)

pub returns-clause-last : goal.returns-clause-last
returns-clause-last c =
    let end : 8 * c.loop-g.g ≡ 15 + 1 = omega arith in
    c.loop-g.invariant.chain ∙ ap (block (c.args.before.now ++ c.args.group.now)) end ∙ block_before-more c.args.before.now c.args.group.now 15 c.told-before

pub returns-clause-long : goal.returns-clause-long
returns-clause-long c = c.loop-g.invariant.long
