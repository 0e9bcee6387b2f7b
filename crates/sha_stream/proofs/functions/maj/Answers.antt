use Rattle.sha_stream.proofs.ShortForms.{maj_short}
use Rattle.sha_stream.proofs.functions.maj.Goals as goal

pub returns : goal.returns
returns c = maj_short c.args.x c.args.y c.args.z
