use Rattle.std.proofs.Common.{◌≡◌, drop}
use Rattle.crash_disk.specs.Plan.{has_read}
use Rattle.crash_disk.proofs.plan.has_read.Given as goal

abbrev pub invariant-loop-entry : goal.invariant-loop-entry
invariant-loop-entry l = has_read (drop l.entry-index l.entries) ≡ has_read l.entries
