use Rattle.std.proofs.Common.{slice_index, arith}
use Rattle.sha512_lanes.proofs.LaneLaws.{lane_fits}
use Rattle.sha_stream.proofs.RotationLaws.{rotated_three}
use Rattle.sha512_lanes.proofs.words.big_sigma0.Goals as goal

pub returns : goal.returns
returns c j h =
    rw (c.sum_rotated-2.ensures j h, c.sum_rotated.ensures j h, c.rotated.ensures j h)
    (rotated_three 64 (slice_index c.args.x j) 28 6 5 (omega arith) (lane_fits c.args.x c.fits-x.0 c.fits-x.1 j h))
