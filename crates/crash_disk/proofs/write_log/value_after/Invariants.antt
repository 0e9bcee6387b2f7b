use Rattle.std.proofs.Common.{◌≡◌, drop}
use Rattle.block_traits.specs.Content.{present_after}
use Rattle.crash_disk.proofs.write_log.value_after.Given as goal

abbrev pub invariant-loop-event : goal.invariant-loop-event
invariant-loop-event l = present_after (drop l.event-index l.events) l.n l.value ≡ present_after l.events l.n l.bytes
