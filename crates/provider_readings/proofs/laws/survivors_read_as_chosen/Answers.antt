use Rattle.provider_readings.proofs.Data.{survivor-reads_chosen}
use Rattle.provider_readings.proofs.laws.survivors_read_as_chosen.Goals as goal

pub returns : goal.returns
returns c = survivor-reads_chosen
