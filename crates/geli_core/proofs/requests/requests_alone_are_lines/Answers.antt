use Rattle.geli_core.proofs.Alone.{alone_as_line}
use Rattle.geli_core.proofs.requests.requests_alone_are_lines.Goals as goal

pub returns : goal.returns
returns c = alone_as_line
