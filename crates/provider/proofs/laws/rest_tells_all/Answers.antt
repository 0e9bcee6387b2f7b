use Rattle.provider.proofs.Told.{rest-same}
use Rattle.provider.proofs.laws.rest_tells_all.Goals as goal

pub returns : goal.returns
returns c = rest-same
