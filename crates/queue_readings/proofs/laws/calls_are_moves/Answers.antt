use Rattle.queue_readings.proofs.Moving.{played}
use Rattle.queue_readings.proofs.laws.calls_are_moves.Goals as goal

pub returns : goal.returns
returns c = played
