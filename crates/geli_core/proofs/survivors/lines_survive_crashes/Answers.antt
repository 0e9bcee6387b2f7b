use Rattle.geli_core.proofs.Placing.{each_survives}
use Rattle.geli_core.proofs.survivors.lines_survive_crashes.Goals as goal

pub returns : goal.returns
returns c = each_survives
