use Rattle.std.proofs.Common.{[]}
use Rattle.block_traits.specs.Causes.{Counted}
use Rattle.block_traits.specs.Disk.{Logs}
use Rattle.block_traits.specs.Parts.{parts}
use Rattle.sector_runs.specs.Reading.{StandFrom}
use Rattle.sector_runs.proofs.units.read_units.Given as goal

abbrev pub invariant-loop-j : goal.invariant-loop-j
invariant-loop-j g l =
    let state = g.D.Disk.state in
    record {
      asked : Counted l.j (state l.initial.disk).reads (state l.disk).reads;
      logs : Logs [] (state l.initial.disk) (state l.disk);
      stand : StandFrom (state l.initial.disk).content l.first l.j (parts 512 l.j l.into);
    }
