use Rattle.std.proofs.Common.{◌≡◌, ◌*◌, [], take, min, Ok, IfSome}
use Rattle.block_traits.specs.Causes.{Counted}
use Rattle.block_traits.specs.Content.{Content}
use Rattle.block_traits.specs.Disk.{Logs}
use Rattle.eli_base.specs.Units.{unit_bytes_of}
use Rattle.sealing.specs.Sectors.{joined}
use Rattle.sector_runs.specs.Reading.{units_read}
use Rattle.sector_runs.proofs.tagged_units.read_tagged_units.Given as goal

abbrev pub invariant-loop-j : goal.invariant-loop-j
invariant-loop-j g l =
    let state = g.D.Disk.state in
    let k = l.initial.ring.keying in
    record {
      keying : l.ring.keying ≡ k;
      asked : Counted l.j (state l.initial.disk).reads (state l.disk).reads;
      logs : Logs [] (state l.initial.disk) (state l.disk);
      reads : IfSome (state l.initial.disk).content (λ (c : Content). joined (take l.j (units_read k c l.sector)) ≡ Ok (take (min (unit_bytes_of k.auth * l.j) k.sectorsize) l.block));
    }
