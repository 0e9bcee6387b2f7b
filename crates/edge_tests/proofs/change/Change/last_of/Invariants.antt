use Rattle.std.proofs.Common.{◌≡◌, ◌<◌, length, take}
use Rattle.std.specs.Prelude.{IfSome}
use Rattle.edge_tests.specs.Change.{after_changes, named_at, nothing}
use Rattle.edge_tests.proofs.change.Change.last_of.Given as goal

-- the last change of the name among the first ones
abbrev pub invariant-loop-i : goal.invariant-loop-i
invariant-loop-i l = record {
  named : named_at l.changes l.last ≡ after_changes nothing (take l.i l.changes) l.name;
  inside : IfSome l.last (λ place. place < length l.changes);
}
