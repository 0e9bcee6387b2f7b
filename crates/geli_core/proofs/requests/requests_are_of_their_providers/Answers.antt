use Rattle.geli_core.proofs.Owning.{runs_own}
use Rattle.geli_core.proofs.requests.requests_are_of_their_providers.Goals as goal

pub returns : goal.returns
returns c = runs_own
