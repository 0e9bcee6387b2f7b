use Rattle.geli_core.proofs.Counting.{run_rises_or}
use Rattle.geli_core.proofs.bounds.device_faults_are_counted_until_eject.Goals as goal

pub returns : goal.returns
returns c = run_rises_or
