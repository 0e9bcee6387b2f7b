use Rattle.verify_sweep.proofs.Places.{reaches}
use Rattle.verify_sweep.proofs.laws.cut_counts_reach_the_end.Goals as goal

pub returns : goal.returns
returns c = reaches
