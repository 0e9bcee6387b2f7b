use Rattle.verify_sweep.proofs.Failing.{of_sectors}
use Rattle.verify_sweep.proofs.laws.units_are_those_of_their_sectors.Goals as goal

pub returns : goal.returns
returns c = of_sectors
