use Rattle.std.proofs.Common.{◌≡◌, ◌-◌, ◌*◌, ◌/◌, ℕ, length, sym, arith}
use Rattle.aes_core.proofs.InPlace.{IsDone-start, IsDone-end}
use Rattle.cbc_mode.specs.Cbc.{opened_block}
use Rattle.cbc_mode.proofs.Chain.{block_before-start}
use Rattle.cbc_mode.proofs.GroupLaws.{group_chain, group_step, rest_step}
use Rattle.cbc_mode.proofs.cbc_open_sliced.Goals as goal

pub loop-g-init : goal.loop-g-init
loop-g-init c = record {
  long = c.told-iv;
  chain = sym (block_before-start c.args.iv.now c.args.block.now c.told-iv);
  done = IsDone-start (opened_block c.args.k.now c.args.iv.now c.args.block.now) c.args.block.now;
}

pub loop-g-preserved : goal.loop-g-preserved
loop-g-preserved c =
    let done = c.loop-g.invariant.done in
    record {
      long = c.open_sixteen-last.ensures.long;
      chain = group_chain c.args.k.now c.args.iv.now c.args.block.now c.loop-g.block c.open_sixteen-last.result _ _ c.loop-g.g c.told-iv done (omega arith) (omega arith) c.open_sixteen-last.ensures.last;
      done = group_step c.args.k.now c.args.iv.now c.args.block.now c.loop-g.block c.open_sixteen-last.new.group c.loop-g.before _ _ c.loop-g.g c.told-iv c.loop-g.invariant.long c.loop-g.invariant.chain done (omega arith) (omega arith) (omega arith) c.open_sixteen-last.ensures.opened;
    }

pub returns : goal.returns
returns c =
    let p = c.args.block.now in
    let s : ℕ = 256 * (length p / 256) in
    let end : c.loop-g.g ≡ length p / 256 = omega arith in
    let whole = c.requires in
    let done = rest_step c.args.k.now c.args.iv.now p c.loop-g.block c.open_rest.new.rest c.loop-g.before s (length c.loop-g.block - s) c.loop-g.g c.told-iv c.loop-g.invariant.long c.loop-g.invariant.chain c.loop-g.invariant.done (omega arith) (omega arith) (omega arith) whole (omega arith) (omega arith) c.open_rest.ensures in
    IsDone-end (opened_block c.args.k.now c.args.iv.now p) p _ (length p / 16) (omega arith) done
