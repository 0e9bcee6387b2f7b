use Rattle.std.proofs.Common.{◌≡◌, ◌-◌, ◌*◌, ◌≤◌, [], take, Ok}
use Rattle.block_traits.specs.Causes.{Counted}
use Rattle.block_traits.specs.Disk.{Logs}
use Rattle.sealing.specs.Sectors.{units}
use Rattle.sector_runs.specs.Reading.{ReadsAs}
use Rattle.sector_runs.proofs.runs.read_batches.Given as goal

abbrev pub invariant-batches : goal.invariant-batches
invariant-batches g l =
    let state = g.D.Disk.state in
    let k = l.initial.ring.keying in
    record {
      keying : l.ring.keying ≡ k;
      within : l.done ≤ l.count;
      asked : Counted (l.done * units k) (state l.initial.disk).reads (state l.disk).reads;
      logs : Logs [] (state l.initial.disk) (state l.disk);
      reads : ReadsAs (state l.initial.disk) k l.sector l.done (Ok (take (l.done * l.size) l.into));
    }

abbrev pub decreases-batches : goal.decreases-batches
decreases-batches g l = l.count - l.done
