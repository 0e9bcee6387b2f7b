use Rattle.geli_core.proofs.Owning.{reap_misses, step_misses}
use Rattle.geli_core.proofs.requests.missing_requests_are_refused.Goals as goal

pub returns-clause-step : goal.returns-clause-step
returns-clause-step c = step_misses

pub returns-clause-reap : goal.returns-clause-reap
returns-clause-reap c = reap_misses
