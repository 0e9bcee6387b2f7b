use Rattle.sha_lanes.proofs.LaneLaws.{maj_lanes}
use Rattle.sha512_lanes.proofs.words.maj.Goals as goal

pub returns : goal.returns
returns c = maj_lanes c.args.x c.fits-x.0 c.args.y c.fits-y.0 c.args.z c.fits-z.0
