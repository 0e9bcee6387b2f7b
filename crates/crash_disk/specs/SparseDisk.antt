-- What a disk in memory that keeps written sectors alone is.
use Rattle.std.specs.Prelude.{ℕ, List, slice_set}
use Rattle.block_traits.specs.Content.{Content}
use Rattle.block_traits.specs.Disk.{DiskState, showing}
use Rattle.crash_disk.specs.declared.sparse_disk.SparseDisk.{SparseDisk}
use Rattle.crash_disk.specs.declared.write_log.WriteLog.{WriteLog}
use Rattle.crash_disk.specs.MemDisk.{MemState}
use Rattle.crash_disk.specs.Replay.{content}
use Rattle.crash_disk.specs.Writes.{written}

abbrev pub sparse_content : WriteLog → Content
sparse_content log = content (written log.size log.first.items) log.events.items

abbrev pub sparse_state_of : SparseDisk → MemState
sparse_state_of disk = record {
  content = sparse_content disk.log;
  room = disk.log.room;
  faults = disk.faults;
  plan = disk.plan;
}

-- as a disk
abbrev pub sparse_disk_of : SparseDisk → DiskState
sparse_disk_of disk = showing (sparse_content disk.log) disk.faults disk.plan.reads disk.log.small disk.log.fits

-- sector n held these bytes at first
abbrev pub with_first : ℕ → List ℕ → Content → Content
with_first n bytes c = content (slice_set c.base n bytes) c.history

abbrev pub after_put : ℕ → List ℕ → MemState → MemState
after_put n bytes state = record state { content = with_first n bytes state.content }
