-- A write adds a value, and drops none.
use Rattle.disk_layers.proofs.WaitingLemmas.{kept_in_order}
use Rattle.disk_layers.proofs.laws.values_kept_below_are_kept_in_order.Goals as goal

pub returns : goal.returns
returns c = kept_in_order
