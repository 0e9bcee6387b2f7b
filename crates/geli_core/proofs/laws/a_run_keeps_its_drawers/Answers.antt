use Rattle.geli_core.proofs.Lawful.{run_keeps_drawers}
use Rattle.geli_core.proofs.laws.a_run_keeps_its_drawers.Goals as goal

pub returns : goal.returns
returns c = run_keeps_drawers
