use Rattle.geli_core.proofs.Covering.{covers_reaped}
use Rattle.geli_core.proofs.requests.flushes_cover_reaped_writes.Goals as goal

pub returns : goal.returns
returns c = covers_reaped
