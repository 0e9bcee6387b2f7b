-- The image below is, sector by sector, one that the steps may leave above.
use Rattle.provider_disk.proofs.Above.{endures_below}
use Rattle.provider_disk.proofs.laws.crashes_below_are_read_above.Goals as goal

pub returns : goal.returns
returns c = endures_below
