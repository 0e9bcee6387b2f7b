use Rattle.sha_stream.proofs.LaneLaws.{sum_shifted_lanes}
use Rattle.sha512_lanes.proofs.words.sum_shifted.Goals as goal

pub returns : goal.returns
returns c = sum_shifted_lanes c.args.k c.args.x c.fits-x.0 c.args.y c.fits-y.0
