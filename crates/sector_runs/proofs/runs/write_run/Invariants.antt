use Rattle.std.proofs.Common.{◌≡◌, ◌-◌, ◌/◌, ◌≤◌, length}
use Rattle.block_traits.specs.Disk.{Continues}
use Rattle.sector_runs.specs.Writing.{data_writes}
use Rattle.sector_runs.proofs.Events.{run_writes}
use Rattle.sector_runs.proofs.runs.write_run.Given as goal

abbrev pub invariant-batches : goal.invariant-batches
invariant-batches g l =
    let state = g.D.Disk.state in
    let k = l.initial.ring.keying in
    record {
      keying : l.ring.keying ≡ k;
      size : (state l.disk).size ≡ (state l.initial.disk).size;
      unasked : (state l.disk).reads ≡ (state l.initial.disk).reads;
      within : l.done ≤ l.count;
      events : Continues (run_writes k l.sector l.count l.size l.from l.done) (data_writes k l.sector (length l.from / k.sectorsize) l.from) (state l.disk) (state l.initial.disk);
    }

abbrev pub decreases-batches : goal.decreases-batches
decreases-batches g l = l.count - l.done
