-- The events of the other disk are of other sectors.
use Rattle.disk_layers.proofs.ConcatLemmas.{kept_in_first, kept_in_second}
use Rattle.disk_layers.proofs.laws.sectors_keep_what_their_disk_keeps.Goals as goal

pub returns-clause-first : goal.returns-clause-first
returns-clause-first c = kept_in_first

pub returns-clause-second : goal.returns-clause-second
returns-clause-second c = kept_in_second
