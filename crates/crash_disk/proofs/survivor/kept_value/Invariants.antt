use Rattle.std.proofs.Common.{◌+◌, ◌≤◌, take, [], ◌∷◌}
use Rattle.block_traits.specs.Content.{kept_after}
use Rattle.crash_disk.specs.Survivor.{KeepsOf}
use Rattle.crash_disk.proofs.survivor.kept_value.Given as goal

abbrev pub invariant-loop-event : goal.invariant-loop-event
invariant-loop-event l = record {
  keeps : KeepsOf (kept_after (take l.event-index l.events) l.n (l.base ∷ [])) l.place l.keeping;
  few : l.keeping.count ≤ l.event-index + 1;
}
