use Rattle.queue_readings.proofs.Calls.{covered}
use Rattle.queue_readings.proofs.laws.flushes_cover_what_was_done.Goals as goal

pub returns : goal.returns
returns c = covered
