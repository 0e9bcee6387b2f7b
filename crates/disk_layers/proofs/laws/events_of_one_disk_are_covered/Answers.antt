-- The events are of other sectors than those of the other disk.
use Rattle.disk_layers.proofs.JoinedLemmas.{first_alone, second_alone}
use Rattle.disk_layers.proofs.laws.events_of_one_disk_are_covered.Goals as goal

pub returns-clause-first : goal.returns-clause-first
returns-clause-first c = first_alone

pub returns-clause-second : goal.returns-clause-second
returns-clause-second c = second_alone
