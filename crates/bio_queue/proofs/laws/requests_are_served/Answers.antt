use Rattle.bio_queue.proofs.Owned.{served}
use Rattle.bio_queue.proofs.laws.requests_are_served.Goals as goal

pub returns : goal.returns
returns c = served
