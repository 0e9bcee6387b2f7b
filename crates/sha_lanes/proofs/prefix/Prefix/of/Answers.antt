use Rattle.std.proofs.Common.{arith, refl, ◌∙◌}
use Rattle.std.proofs.lemmas.List.{take_all}
use Rattle.sha_lanes.proofs.prefix.Prefix.of.Goals as goal

pub returns : goal.returns
returns c =
    let block = c.args.block.now in
    let first = c.initial_states.ensures 0 (omega arith) in
    record {
      long = omega arith;
      hashed = c.lane.ensures ∙ c.compress-after.ensures 0 (omega arith) ∙ rw (first, take_all 64 block (omega arith)) refl;
    }
