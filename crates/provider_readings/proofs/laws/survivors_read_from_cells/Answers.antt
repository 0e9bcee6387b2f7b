use Rattle.block_traits.specs.Crash.{IsUnsettled}
use Rattle.provider_readings.proofs.Data.{survivor-reads_cells}
use Rattle.provider_readings.proofs.laws.survivors_read_from_cells.Goals as goal

pub returns-clause-torn : goal.returns-clause-torn
returns-clause-torn c content now image k sector cells = survivor-reads_cells content image k sector cells (IsUnsettled now)

pub returns-clause-altered : goal.returns-clause-altered
returns-clause-altered c content image k sector cells = survivor-reads_cells content image k sector cells (λ n. Unit {0})
