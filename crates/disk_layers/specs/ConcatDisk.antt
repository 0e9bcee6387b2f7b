-- What two disks that are one report.
use Rattle.std.specs.Prelude.{◌+◌, Bool, if◌then◌else◌}
use Rattle.block_traits.specs.declared.disk.Disk.{Ghosts}
use Rattle.block_traits.specs.Disk.{DiskState}
use Rattle.disk_layers.specs.declared.concat.Concat.{Concat}
use Rattle.disk_layers.specs.Joined.{joined_content}
use Rattle.disk_layers.specs.Reported.{reported}

module _ {A B : Type 0} {g : Ghosts A} {h : Ghosts B} where
  -- the sectors, the faults and the reads of both, and what was done to them, if both report their content
  abbrev pub concat_disk_of : Concat A B g h → DiskState
  concat_disk_of c =
      reported ((g.state c.first).size + (h.state c.second).size) ((g.state c.first).faults + (h.state c.second).faults) ((g.state c.first).reads + (h.state c.second).reads)
      (joined_content c.past.events (g.state c.first).content (h.state c.second).content) c.small c.fits

  -- whether room was wanting in the disk that failed at the last write that failed
  abbrev pub wants_room_of : Concat A B g h → Bool
  wants_room_of c = if c.failed_second then h.wants_room c.second else g.wants_room c.first
