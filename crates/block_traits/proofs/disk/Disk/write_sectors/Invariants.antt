use Rattle.std.proofs.Common.{◌≡◌}
use Rattle.block_traits.specs.Disk.{Continues, write_events}
use Rattle.block_traits.proofs.SectorWrites.{writes_left}
use Rattle.block_traits.proofs.disk.Disk.write_sectors.Given as goal

abbrev pub invariant-loop-j : goal.invariant-loop-j
invariant-loop-j g l =
    let state = g.Self.Disk.state in
    record {
      size : (state l.self).size ≡ (state l.initial.self).size;
      unasked : (state l.self).reads ≡ (state l.initial.self).reads;
      events : Continues (writes_left l.first l.from l.j) (write_events l.first l.from) (state l.self) (state l.initial.self);
    }
