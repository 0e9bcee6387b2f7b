use Rattle.std.proofs.Common.{ℕ, ◌/◌, ◌^◌, ap, arith, bit_xor, slice_index}
use Rattle.sha512_lanes.proofs.LaneLaws.{lane_fits}
use Rattle.sha_stream.proofs.RotationLaws.{rotated_two}
use Rattle.sha512_lanes.proofs.words.small_sigma0.Goals as goal

pub returns : goal.returns
returns c j h =
    rw (c.sum_shifted.ensures j h, c.sum_rotated.ensures j h, c.rotated.ensures j h)
    (ap (λ (y : ℕ). bit_xor y (slice_index c.args.x j / 2 ^ 7))
    (rotated_two 64 (slice_index c.args.x j) 1 7 (omega arith) (lane_fits c.args.x c.fits-x.0 c.fits-x.1 j h)))
