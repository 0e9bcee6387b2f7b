use Rattle.provider_readings.proofs.Data.{survivor-reads}
use Rattle.provider_readings.proofs.laws.images_read_unit_by_unit.Goals as goal

pub returns : goal.returns
returns c = survivor-reads
