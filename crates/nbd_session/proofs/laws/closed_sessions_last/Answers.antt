use Rattle.nbd_session.proofs.Lasting.{closed_survives}
use Rattle.nbd_session.proofs.laws.closed_sessions_last.Goals as goal

pub returns : goal.returns
returns c = λ side end denied source rest sink given old new content is told h. closed_survives side h.talks.talk.exchanges old h.last new content is told h.talks.served h.closed
