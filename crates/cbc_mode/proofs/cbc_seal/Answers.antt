use Rattle.std.proofs.Common.{◌≡◌, ◌*◌, ◌/◌, ◌∙◌, length, sym, ap, arith}
use Rattle.std.proofs.lemmas.Grind.{common_steps}
use Rattle.aes_core.specs.Schedule.{AreBytes}
use Rattle.aes_core.specs.Blocks.{blocks}
use Rattle.aes_core.proofs.InPlace.{IsDone-start, IsDone-block, IsDone-next, IsDone-end}
use Rattle.cbc_mode.specs.Cbc.{sealed, cbc_open}
use Rattle.cbc_mode.proofs.Chain.{chained_start, chained_step, cbc_open-cbc_seal}
use Rattle.cbc_mode.proofs.cbc_seal.Goals as goal

pub loop-j-init : goal.loop-j-init
loop-j-init c = record {
  chain = sym (chained_start c.args.k.now c.args.iv.now c.args.block.now);
  done = IsDone-start (sealed c.args.k.now c.args.iv.now c.args.block.now) c.args.block.now;
  bytes = λ k. omega (arith, c.type_inv.block k);
}

pub loop-j-preserved : goal.loop-j-preserved
loop-j-preserved c =
    let p = c.args.block.now in
    let f = sealed c.args.k.now c.args.iv.now p in
    let same = c.block_at-plain.ensures ∙ IsDone-block f p c.loop-j.block c.loop-j.j c.loop-j.invariant.done in
    let after = c.copy_from_slice.ensures.after in
    let chain = chained_step c.args.k.now c.args.iv.now p c.block_at-plain.result c.loop-j.last c.sealed-cipher.result c.loop-j.j c.loop-j.invariant.chain same c.sealed-cipher.ensures in
    record {
      chain = chain;
      done = IsDone-next f p c.loop-j.block c.copy_from_slice.new.self c.loop-j.j _ c.loop-j.invariant.done (omega arith) (omega (arith, ap length after)) (after ∙ chain);
      bytes = c.loop-j.invariant.bytes;
    }

pub returns-clause-taken_back : goal.returns-clause-taken_back
returns-clause-taken_back c =
    let p = c.args.block.now in
    let iv_bytes : AreBytes c.args.iv.now = c.fits-iv in
    let j : c.loop-j.j ≡ length p / 16 = omega arith in
    let len : length p ≡ 16 * c.loop-j.j = omega arith in
    let is = IsDone-end (sealed c.args.k.now c.args.iv.now p) p c.loop-j.block c.loop-j.j len c.loop-j.invariant.done in
    ap (cbc_open c.args.k.now c.args.iv.now) (is ∙ ap (λ n. blocks (sealed c.args.k.now c.args.iv.now p) n) j)
    ∙ cbc_open-cbc_seal c.args.k.now c.args.iv.now p c.is_of_a_key.ensures c.told-iv iv_bytes c.loop-j.invariant.bytes c.requires

pub returns-clause-sealed : goal.returns-clause-sealed
returns-clause-sealed c = grind (arith, common_steps) steps 400000
