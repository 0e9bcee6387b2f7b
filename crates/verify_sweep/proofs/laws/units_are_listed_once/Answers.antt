use Rattle.verify_sweep.proofs.Failing.{failing_units-increase, listed-exactly}
use Rattle.verify_sweep.proofs.laws.units_are_listed_once.Goals as goal

pub returns : goal.returns
returns c = record { listed = listed-exactly; once = failing_units-increase }
