use Rattle.sha_stream.proofs.LaneLaws.{rotated_lanes}
use Rattle.sha_stream.proofs.words.rotated.Goals as goal

pub returns : goal.returns
returns c = rotated_lanes c.args.k c.requires.0 c.requires.1 c.args.x c.fits-x.0
