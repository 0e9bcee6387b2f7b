use Rattle.geli_core.proofs.Lawful.{run_ends}
use Rattle.geli_core.proofs.laws.a_run_ends_by_its_words.Goals as goal

pub returns : goal.returns
returns c = run_ends
