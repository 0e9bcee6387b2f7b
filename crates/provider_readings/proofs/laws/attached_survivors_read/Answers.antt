use Rattle.provider_readings.proofs.Attaching.{reads}
use Rattle.provider_readings.proofs.laws.attached_survivors_read.Goals as goal

pub returns : goal.returns
returns g c = reads g.D.Disk.state
