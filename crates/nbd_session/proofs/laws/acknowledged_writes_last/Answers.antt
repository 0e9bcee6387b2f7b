use Rattle.nbd_session.proofs.Lasting.{acknowledged_attaches, acknowledged_lasts, acknowledged_reads}
use Rattle.nbd_session.proofs.laws.acknowledged_writes_last.Goals as goal

pub returns-clause-last : goal.returns-clause-last
returns-clause-last g c = acknowledged_lasts

pub returns-clause-read : goal.returns-clause-read
returns-clause-read g c = acknowledged_reads

pub returns-clause-attach : goal.returns-clause-attach
returns-clause-attach g c = acknowledged_attaches g.D.Disk.state
