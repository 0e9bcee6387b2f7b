use Rattle.geli_core.proofs.OutsideCounts.{run_counts}
use Rattle.geli_core.proofs.bounds.outside_failures_are_counted.Goals as goal

pub returns : goal.returns
returns c = run_counts
