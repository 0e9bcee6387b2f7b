use Rattle.geli_core.proofs.LineLaws.{line_laws}
use Rattle.geli_core.proofs.laws.a_line_keeps_the_laws.Goals as goal

pub returns : goal.returns
returns c = line_laws
