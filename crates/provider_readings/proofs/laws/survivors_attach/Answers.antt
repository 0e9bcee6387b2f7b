use Rattle.provider_readings.proofs.Attaching.{attaches, gate_passes}
use Rattle.provider_readings.proofs.laws.survivors_attach.Goals as goal

pub returns-clause-gate : goal.returns-clause-gate
returns-clause-gate g c = gate_passes

pub returns-clause-attaches : goal.returns-clause-attaches
returns-clause-attaches g c = attaches g.D.Disk.state
