use Rattle.queue_readings.proofs.Calls.{events_between}
use Rattle.queue_readings.proofs.laws.events_may_stand_between.Goals as goal

pub returns : goal.returns
returns c = events_between
