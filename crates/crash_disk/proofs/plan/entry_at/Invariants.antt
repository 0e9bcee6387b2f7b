use Rattle.std.proofs.Common.{◌≡◌, drop}
use Rattle.crash_disk.specs.Plan.{lands_at}
use Rattle.crash_disk.proofs.plan.entry_at.Given as goal

abbrev pub invariant-loop-entry : goal.invariant-loop-entry
invariant-loop-entry l = lands_at l.kind l.nth (drop l.entry-index l.entries) ≡ lands_at l.kind l.nth l.entries
