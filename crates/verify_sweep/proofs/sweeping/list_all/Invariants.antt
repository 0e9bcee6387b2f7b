use Rattle.std.proofs.Common.{◌+◌, ◌-◌, ◌≤◌}
use Rattle.block_traits.specs.Parts.{parts}
use Rattle.verify_sweep.specs.Sweeping.{Lists, failing_units}
use Rattle.verify_sweep.proofs.sweeping.list_all.Given as goal

abbrev pub invariant-groups : goal.invariant-groups
invariant-groups g l = record {
  within : l.done ≤ l.count;
  few : l.now ≤ l.bad + l.done;
  lists : Lists (failing_units l.on.keying l.n (parts 512 l.done l.device)) l.bad l.now l.initial.found l.found;
}

abbrev pub decreases-groups : goal.decreases-groups
decreases-groups g l = l.count - l.done
