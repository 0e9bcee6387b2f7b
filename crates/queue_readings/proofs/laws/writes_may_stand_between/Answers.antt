use Rattle.queue_readings.proofs.Calls.{written_between}
use Rattle.queue_readings.proofs.laws.writes_may_stand_between.Goals as goal

pub returns : goal.returns
returns c = written_between
