use Rattle.std.proofs.Common.{rules, ◌≡◌, length, arith, refl, ◌∙◌}
use Rattle.std.proofs.lemmas.List.{drop-set-lt, map-append, take_all, take_more, take_more_set}
use Rattle.sha512_lanes.proofs.BlockLaws.{masked_key_is}
use Rattle.sha512_lanes.proofs.blocks.masked_key.Goals as goal

pub loop-i-preserved : goal.loop-i-preserved
loop-i-preserved c = (
  search rules,
  take_more_set c.loop-i.block c.loop-i.i _ (omega arith)
      ∙ rw (c.loop-i.invariant.1, take_more c.args.key.now c.loop-i.i 0 (omega arith), map-append) refl,
  drop-set-lt 32 c.loop-i.block c.loop-i.i _ (omega arith) ∙ c.loop-i.invariant.2,
)

pub returns : goal.returns
returns c = λ hash.
    let done : c.loop-i.i ≡ 32 = omega arith in
    let long : length c.args.key.now ≡ 32 = omega arith in
    masked_key_is c.args.pad hash c.args.key.now c.loop-i.block long
    (rw (done, take_all 32 c.args.key.now (omega arith)) at c.loop-i.invariant.1) c.loop-i.invariant.2
