-- What is left, written from here, is all of it from the start.
use Rattle.std.proofs.Common.{◌≡◌}
use Rattle.block_traits.specs.Disk.{Continues, write_events}
use Rattle.block_traits.proofs.SectorWrites.{writes_left}
use Rattle.crash_disk.specs.MemDisk.{WritesSector, mem_disk_of, mem_state_of}
use Rattle.block_traits.proofs.EachWritten.{Goes}
use Rattle.crash_disk.proofs.mem_disk.MemDiskDisk.write_sectors.Given as goal

abbrev pub invariant-loop-j : goal.invariant-loop-j
invariant-loop-j l = record {
  size : (mem_disk_of l.self).size ≡ (mem_disk_of l.initial.self).size;
  unasked : (mem_disk_of l.self).reads ≡ (mem_disk_of l.initial.self).reads;
  events : Continues (writes_left l.first l.from l.j) (write_events l.first l.from) (mem_disk_of l.self) (mem_disk_of l.initial.self);
  goes : Goes WritesSector l.first l.from l.j (mem_state_of l.self) (mem_state_of l.initial.self);
}
