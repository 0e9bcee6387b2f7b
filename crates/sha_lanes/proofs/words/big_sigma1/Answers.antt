use Rattle.std.proofs.Common.{slice_index, arith}
use Rattle.sha_stream.proofs.LaneLaws.{lane_fits}
use Rattle.sha_stream.proofs.RotationLaws.{rotated_three}
use Rattle.sha_lanes.proofs.words.big_sigma1.Goals as goal

pub returns : goal.returns
returns c j h =
    rw (c.sum_rotated-2.ensures j h, c.sum_rotated.ensures j h, c.rotated.ensures j h)
    (rotated_three 32 (slice_index c.args.x j) 6 5 14 (omega arith) (lane_fits c.args.x c.fits-x.0 c.fits-x.1 j h))
