use Rattle.queue_readings.proofs.Calls.{nothing_yet}
use Rattle.queue_readings.proofs.laws.plays_begin_empty.Goals as goal

pub returns : goal.returns
returns c = nothing_yet
