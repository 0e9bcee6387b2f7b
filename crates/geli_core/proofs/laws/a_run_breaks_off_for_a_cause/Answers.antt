use Rattle.geli_core.proofs.Lawful.{run_caused}
use Rattle.geli_core.proofs.laws.a_run_breaks_off_for_a_cause.Goals as goal

pub returns : goal.returns
returns c = run_caused
