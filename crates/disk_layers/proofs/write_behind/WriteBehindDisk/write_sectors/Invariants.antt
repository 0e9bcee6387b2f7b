-- What is left, written from here, is all of it from the start.
use Rattle.std.proofs.Common.{◌≡◌}
use Rattle.block_traits.specs.Disk.{Continues, write_events}
use Rattle.block_traits.proofs.SectorWrites.{writes_left}
use Rattle.disk_layers.specs.WriteBehind.{BehindWritesSector, behind_of, behind_disk_of}
use Rattle.block_traits.proofs.EachWritten.{Goes}
use Rattle.disk_layers.proofs.write_behind.WriteBehindDisk.write_sectors.Given as goal

abbrev pub invariant-loop-j : goal.invariant-loop-j
invariant-loop-j g l = record {
  size : (behind_disk_of l.self).size ≡ (behind_disk_of l.initial.self).size;
  unasked : (behind_disk_of l.self).reads ≡ (behind_disk_of l.initial.self).reads;
  events : Continues (writes_left l.first l.from l.j) (write_events l.first l.from) (behind_disk_of l.self) (behind_disk_of l.initial.self);
  goes : Goes BehindWritesSector l.first l.from l.j (behind_of g.D.Disk.state l.self) (behind_of g.D.Disk.state l.initial.self);
}
