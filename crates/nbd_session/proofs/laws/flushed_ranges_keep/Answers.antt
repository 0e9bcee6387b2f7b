use Rattle.nbd_session.proofs.Lasting.{flushed_keeps}
use Rattle.nbd_session.proofs.laws.flushed_ranges_keep.Goals as goal

pub returns : goal.returns
returns c = flushed_keeps
