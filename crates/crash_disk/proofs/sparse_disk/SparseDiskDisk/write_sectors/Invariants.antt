-- What is left, written from here, is all of it from the start.
use Rattle.std.proofs.Common.{◌≡◌}
use Rattle.block_traits.specs.Disk.{Continues, write_events}
use Rattle.block_traits.proofs.SectorWrites.{writes_left}
use Rattle.crash_disk.specs.MemDisk.{WritesSector}
use Rattle.crash_disk.specs.SparseDisk.{sparse_disk_of, sparse_state_of}
use Rattle.block_traits.proofs.EachWritten.{Goes}
use Rattle.crash_disk.proofs.sparse_disk.SparseDiskDisk.write_sectors.Given as goal

abbrev pub invariant-loop-j : goal.invariant-loop-j
invariant-loop-j l = record {
  size : (sparse_disk_of l.self).size ≡ (sparse_disk_of l.initial.self).size;
  unasked : (sparse_disk_of l.self).reads ≡ (sparse_disk_of l.initial.self).reads;
  events : Continues (writes_left l.first l.from l.j) (write_events l.first l.from) (sparse_disk_of l.self) (sparse_disk_of l.initial.self);
  goes : Goes WritesSector l.first l.from l.j (sparse_state_of l.self) (sparse_state_of l.initial.self);
}
