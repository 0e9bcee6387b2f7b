use Rattle.nbd_session.proofs.Later.{attaches_later, holds_later, parts_later, reads_later, units_later}
use Rattle.nbd_session.proofs.laws.acknowledged_writes_last_or_later.Goals as goal

pub returns-clause-cells : goal.returns-clause-cells
returns-clause-cells g c = holds_later

pub returns-clause-units : goal.returns-clause-units
returns-clause-units g c = units_later

pub returns-clause-parts : goal.returns-clause-parts
returns-clause-parts g c = parts_later

pub returns-clause-read : goal.returns-clause-read
returns-clause-read g c = reads_later

pub returns-clause-attach : goal.returns-clause-attach
returns-clause-attach g c = attaches_later g.D.Disk.state
