use Rattle.queue_readings.proofs.Calls.{higher_number}
use Rattle.queue_readings.proofs.laws.numbers_may_be_skipped.Goals as goal

pub returns : goal.returns
returns c = higher_number
