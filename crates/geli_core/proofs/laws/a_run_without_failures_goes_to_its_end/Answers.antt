use Rattle.geli_core.proofs.Lawful.{run_completes}
use Rattle.geli_core.proofs.laws.a_run_without_failures_goes_to_its_end.Goals as goal

pub returns : goal.returns
returns c = run_completes
