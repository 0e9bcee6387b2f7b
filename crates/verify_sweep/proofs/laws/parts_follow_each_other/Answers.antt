use Rattle.verify_sweep.proofs.Places.{all_sectors, goes_on, stays_within}
use Rattle.verify_sweep.proofs.laws.parts_follow_each_other.Goals as goal

pub returns : goal.returns
returns c = record { order = goes_on; within = stays_within; sectors = all_sectors }
