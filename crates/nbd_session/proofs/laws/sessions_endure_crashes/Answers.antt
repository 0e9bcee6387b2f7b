use Rattle.nbd_session.proofs.Durable.{session-survives}
use Rattle.nbd_session.proofs.laws.sessions_endure_crashes.Goals as goal

pub returns : goal.returns
returns c = session-survives
