use Rattle.sha512_lanes.proofs.LaneLaws.{added_lanes}
use Rattle.sha512_lanes.proofs.words.add_constant.Goals as goal

pub returns : goal.returns
returns c = added_lanes c.args.k c.args.a c.fits-a.0
