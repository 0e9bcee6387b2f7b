use Rattle.geli_core.proofs.Counting.{run_rises}
use Rattle.geli_core.proofs.bounds.device_faults_are_counted.Goals as goal

pub returns : goal.returns
returns c = run_rises
