use Rattle.readings.proofs.Crashes.{endures}
use Rattle.readings.proofs.laws.steps_endure_crashes.Goals as goal

pub returns : goal.returns
returns c = endures
