use Rattle.geli_core.proofs.Drawn.{run_at}
use Rattle.geli_core.proofs.laws.a_run_logs_the_events_of_its_lines.Goals as goal

pub returns : goal.returns
returns c = run_at
