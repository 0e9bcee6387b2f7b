use Rattle.sha512_lanes.proofs.LaneLaws.{ch_lanes}
use Rattle.sha512_lanes.proofs.words.ch.Goals as goal

pub returns : goal.returns
returns c = ch_lanes c.args.x c.fits-x.0 c.args.y c.fits-y.0 c.args.z c.fits-z.0
