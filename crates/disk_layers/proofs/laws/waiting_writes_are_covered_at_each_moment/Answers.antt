-- Writes add values, and a flush keeps the last.
use Rattle.disk_layers.proofs.Covered.{each_moment}
use Rattle.disk_layers.proofs.laws.waiting_writes_are_covered_at_each_moment.Goals as goal

pub returns : goal.returns
returns c = each_moment
