-- What a disk in memory is, and what its calls make of it.
use Rattle.std.specs.Prelude.{◌≡◌, ℕ, ◌==◌, ◌&&◌, ◌||◌, not, Bool, true, List, [], ◌∷◌, length, map, slice_set, is_some, is_err, unwrap_or, if◌then◌else◌, Result}
use Rattle.block_traits.specs.declared.disk.DiskFailed.{DiskFailed}
use Rattle.block_traits.specs.declared.disk.Event.{Event}
use Rattle.block_traits.specs.declared.disk.Event.TheVariants.{Write}
use Rattle.block_traits.specs.Content.{Content, present, with_events}
use Rattle.block_traits.specs.Disk.{DiskState, showing}
use Rattle.crash_disk.specs.declared.plan.CallKind.{CallKind}
use Rattle.crash_disk.specs.declared.plan.CallKind.TheVariants.{Read}
use Rattle.crash_disk.specs.declared.plan.CallKind.TheVariants as call
use Rattle.crash_disk.specs.declared.mem_disk.MemDisk.{MemDisk}
use Rattle.crash_disk.specs.Count.{one_more}
use Rattle.crash_disk.specs.Image.{numbers_below}
use Rattle.crash_disk.specs.Plan.{PlanState, counted, has_read, more_reads, no_plan, planned}
use Rattle.crash_disk.specs.SectorLog.{content_of}

-- a disk's content, how many events it has room for, how often it has failed, and which calls fail
pub record MemState : Type 0 where
  pub content : Content
  pub room : ℕ
  pub faults : ℕ
  pub plan : PlanState

abbrev pub mem_state_of : MemDisk → MemState
mem_state_of disk = record {
  content = content_of disk.log;
  room = disk.log.room;
  faults = disk.faults;
  plan = disk.plan;
}

-- as a disk
abbrev pub mem_disk_of : MemDisk → DiskState
mem_disk_of disk = showing (content_of disk.log) disk.faults disk.plan.reads disk.log.small disk.log.fits

-- these sectors, to which nothing was done, and no call that fails
abbrev pub fresh : List (List ℕ) → ℕ → MemState
fresh sectors room = record {
  content = record { base = sectors; history = [] };
  room = room;
  faults = 0;
  plan = no_plan;
}

abbrev pub with_plan : PlanState → MemState → MemState
with_plan plan state = record state { plan = plan }

-- there is no room for another event
abbrev pub is_full : MemState → Bool
is_full state = length state.content.history == state.room

-- the next read fails: the plan has it
abbrev pub read_fails : MemState → Bool
read_fails state = is_some (planned Read state.plan)

-- the next write or flush fails: there is no room, or the plan has it
abbrev pub change_fails : CallKind → MemState → Bool
change_fails kind state = is_full state || is_some (planned kind state.plan)

-- the event of the next write or flush is appended: there is room, and it doesn't fail or the plan says that it lands
abbrev pub change_lands : CallKind → MemState → Bool
change_lands kind state = not (is_full state) && unwrap_or (planned kind state.plan) true

-- a look gives what stands: the plan has no read, which might be one of those that the look serves
abbrev pub lets_look : MemState → Bool
lets_look state = not (has_read state.plan.entries)

-- after the next read
abbrev pub after_read : MemState → MemState
after_read state = record state {
  faults = if read_fails state then one_more state.faults else state.faults;
  plan = counted Read state.plan;
}

-- after a look has served so many reads
abbrev pub after_look : ℕ → MemState → MemState
after_look many state = record state { plan = more_reads many state.plan }

-- after the next write or flush
abbrev pub after_change : CallKind → Event → MemState → MemState
after_change kind event state = record state {
  content = if change_lands kind state then with_events (event ∷ []) state.content else state.content;
  faults = if change_fails kind state then one_more state.faults else state.faults;
  plan = counted kind state.plan;
}

-- one sector was written, or the write failed as the plan and the room say
pub record WritesSector (n : ℕ) (bytes : List ℕ) (old new : MemState) (result : Result (Unit {0}) DiskFailed) : Type 0 where
  pub answer : is_err result ≡ change_fails call.Write old
  pub after : new ≡ after_change call.Write (Write n bytes) old

-- what stands in each sector now
abbrev pub present_sectors : Content → List (List ℕ)
present_sectors c = map (present c) (numbers_below (length c.base))

-- what stands in each sector now has always stood there, but sector n holds these bytes
abbrev pub after_alter : ℕ → List ℕ → MemState → MemState
after_alter n bytes state = record state { content = record { base = slice_set (present_sectors state.content) n bytes; history = [] } }
