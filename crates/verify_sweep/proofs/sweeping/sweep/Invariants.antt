use Rattle.std.proofs.Common.{◌-◌, ◌≤◌}
use Rattle.provider.specs.Attached.{IsKept}
use Rattle.verify_sweep.specs.Sweeping.{ListsFailing}
use Rattle.verify_sweep.proofs.sweeping.sweep.Given as goal

abbrev pub invariant-looks : goal.invariant-looks
invariant-looks g l =
    let state = g.D.Disk.state in
    record {
      kept : IsKept l.initial.on l.on;
      within : l.done ≤ l.all;
      few : l.bad ≤ l.done;
      lists : ListsFailing l.initial.on.keying l.first l.done l.bad l.initial.found l.found (state l.initial.on.disk) (state l.on.disk);
    }

abbrev pub decreases-looks : goal.decreases-looks
decreases-looks g l = l.all - l.done
