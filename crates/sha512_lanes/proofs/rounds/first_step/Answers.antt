use Rattle.std.proofs.Common.{refl}
use Rattle.sha2.proofs.Schedule512.{rounds_first}
use Rattle.sha_lanes.specs.Lanes.{lane}
use Rattle.sha_lanes.proofs.LaneLaws.{lane_word}
use Rattle.sha512_lanes.proofs.rounds.first_step.Goals as goal

pub returns : goal.returns
returns c = λ j lt b h window held.
    rounds_first b h (lane j c.args.w.now) (lane j c.args.v) c.args.t _ _ _ c.requires window held refl refl
    (rw (lane_word c.args.w.now j c.args.t) (c.round.ensures j lt))
