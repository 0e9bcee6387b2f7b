use Rattle.provider_readings.proofs.Data.{events_of-data}
use Rattle.provider_readings.proofs.laws.writes_are_steps.Goals as goal

pub returns : goal.returns
returns c = events_of-data
