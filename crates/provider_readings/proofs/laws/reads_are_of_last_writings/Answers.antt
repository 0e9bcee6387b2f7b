use Rattle.provider_readings.proofs.Data.{data-read}
use Rattle.provider_readings.proofs.laws.reads_are_of_last_writings.Goals as goal

pub returns : goal.returns
returns c = data-read
