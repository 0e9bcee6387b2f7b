use Rattle.sealing.proofs.Sectors.{length-unit_readings}
use Rattle.sealing.proofs.laws.each_unit_is_read.Goals as goal

pub returns : goal.returns
returns c = λ k sector sectors count. length-unit_readings k sector sectors count
