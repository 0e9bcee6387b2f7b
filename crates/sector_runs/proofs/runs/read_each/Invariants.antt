use Rattle.std.proofs.Common.{◌≡◌, ◌*◌, [], take, Ok}
use Rattle.block_traits.specs.Causes.{Counted}
use Rattle.block_traits.specs.Disk.{Logs}
use Rattle.sealing.specs.Sectors.{units}
use Rattle.sector_runs.specs.Reading.{ReadsAs}
use Rattle.sector_runs.proofs.runs.read_each.Given as goal

abbrev pub invariant-loop-i : goal.invariant-loop-i
invariant-loop-i g l =
    let state = g.D.Disk.state in
    record {
      keying : l.ring.keying ≡ l.initial.ring.keying;
      asked : Counted (l.i * units l.initial.ring.keying) (state l.initial.disk).reads (state l.disk).reads;
      logs : Logs [] (state l.initial.disk) (state l.disk);
      reads : ReadsAs (state l.initial.disk) l.initial.ring.keying l.sector l.i (Ok (take (l.i * l.size) l.into));
    }
