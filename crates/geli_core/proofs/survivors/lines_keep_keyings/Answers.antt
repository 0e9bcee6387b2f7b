use Rattle.geli_core.proofs.Placing.{run_keeps}
use Rattle.geli_core.proofs.survivors.lines_keep_keyings.Goals as goal

pub returns : goal.returns
returns c = run_keeps
