-- The events of each disk are one after the other.
use Rattle.disk_layers.proofs.ConcatLemmas.{add_up}
use Rattle.disk_layers.proofs.laws.calls_on_both_add_up.Goals as goal

pub returns : goal.returns
returns c = add_up
