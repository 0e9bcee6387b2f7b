use Rattle.std.proofs.Common.{◌+◌, ◌≤◌}
use Rattle.block_traits.specs.Parts.{parts}
use Rattle.verify_sweep.specs.Sweeping.{Lists, failing_units}
use Rattle.verify_sweep.proofs.sweeping.list_next.Given as goal

abbrev pub invariant-loop-m : goal.invariant-loop-m
invariant-loop-m g l = record {
  few : l.now ≤ l.bad + l.m;
  lists : Lists (failing_units l.on.keying l.n (parts 512 l.m l.device)) l.bad l.now l.initial.found l.found;
}
