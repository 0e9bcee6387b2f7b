use Rattle.bio_queue.proofs.Owned.{met}
use Rattle.bio_queue.proofs.laws.requests_meet_conditions.Goals as goal

pub returns : goal.returns
returns c = met
