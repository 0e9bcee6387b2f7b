use Rattle.geli_core.proofs.Placing.{run_survives}
use Rattle.geli_core.proofs.survivors.runs_survive_crashes.Goals as goal

pub returns : goal.returns
returns c = run_survives
