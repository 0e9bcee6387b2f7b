-- What a disk reports of itself, and what a call of it does.
use Rattle.std.specs.Prelude.{◌≡◌, ℕ, ◌+◌, ◌<◌, ◌≤◌, ◌-◌, ◌/◌, ◌^◌, List, [], ◌∷◌, length, take, Option, Some, None, Bool, true, false, IsTrue, IsSome}
use Rattle.block_traits.specs.Causes.{Rose}
use Rattle.block_traits.specs.Content.{Content, IsContentOf, logged, present}
use Rattle.block_traits.specs.Parts.{part, parts}
use Rattle.block_traits.specs.declared.disk.Event.{Event}
use Rattle.block_traits.specs.declared.disk.Event.TheVariants.{Write, Flush}

-- a content that is reported fits the size
abbrev pub FitsSize : ℕ → Option Content → Type 0
FitsSize size None = Unit {0}
FitsSize size (Some c) = IsContentOf size c

-- the size is small, the content fits it, and events are shown only if the content is reported
pub record IsWellFormed (size : ℕ) (shows : Bool) (told : Option Content) : Type 0 where
  pub bound : size < 2 ^ 44
  pub fits : FitsSize size told
  pub shown : IsTrue shows → IsSome told

-- what a disk reports of itself: its size in sectors, whether it shows its events, its content if it reports that, how
-- often it has failed, and how often it was asked to read or a look has served a read
pub record DiskState : Type 0 where
  pub size : ℕ
  pub shows : Bool
  pub content : Option Content
  pub faults : ℕ
  pub reads : ℕ
  pub well_formed : IsWellFormed size shows content

-- a disk that reports no content, and so shows no events
abbrev pub untold : (size faults reads : ℕ) → size < 2 ^ 44 → DiskState
untold size faults reads bound = record {
  size = size;
  shows = false;
  content = None;
  faults = faults;
  reads = reads;
  well_formed = record { bound = bound; fits = tt; shown = λ h. h };
}

-- a disk that reports its content and shows its events
abbrev pub showing : (c : Content) (faults reads : ℕ) → length c.base < 2 ^ 44 → IsContentOf (length c.base) c → DiskState
showing c faults reads bound fits = record {
  size = length c.base;
  shows = true;
  content = Some c;
  faults = faults;
  reads = reads;
  well_formed = record { bound = bound; fits = fits; shown = λ h. h };
}

-- these events were logged, and nothing else happened but that the count of faults may have risen; what became of the
-- count of reads isn't said here
pub record Logs (events : List Event) (old new : DiskState) : Type 0 where
  pub content : new.content ≡ logged events old.content
  pub size : new.size ≡ old.size
  pub shows : new.shows ≡ old.shows
  pub faults : old.faults ≤ new.faults

-- the first of these events were logged, no other, and the disk failed
pub record FailsIn (events : List Event) (old new : DiskState) : Type 0 where
  pub count : ℕ
  pub within : count ≤ length events
  pub logs : Logs (take count events) old new
  pub rose : Rose old.faults new.faults

-- the bytes are what stands in sector n, if that is reported
abbrev pub GivesFrom : Option Content → ℕ → List ℕ → Type 0
GivesFrom None n bytes = Unit {0}
GivesFrom (Some c) n bytes = bytes ≡ present c n

abbrev pub Gives : DiskState → ℕ → List ℕ → Type 0
Gives d n bytes = GivesFrom d.content n bytes

-- each 512 of the bytes are what stands in a sector, the first in number n, if that is reported
abbrev pub GivesEachFrom : Option Content → ℕ → List ℕ → Type 0
GivesEachFrom told n bytes = (j : ℕ) → j < length bytes / 512 → GivesFrom told (n + j) (part 512 j bytes)

abbrev pub GivesEach : DiskState → ℕ → List ℕ → Type 0
GivesEach d n bytes = GivesEachFrom d.content n bytes

-- writes of these sectors in order, the first to number n
abbrev pub writes_from : ℕ → List (List ℕ) → List Event
writes_from n [] = []
writes_from n (sector ∷ sectors) = Write n sector ∷ writes_from (n + 1) sectors

-- what a write of whole sectors does: it writes each 512 bytes to a sector, in ascending order, the first to number n
abbrev pub write_events : ℕ → List ℕ → List Event
write_events n bytes = writes_from n (parts 512 (length bytes / 512) bytes)

-- the number of the last sector
abbrev pub last_sector : DiskState → ℕ
last_sector d = d.size - 1

-- what a store does: it writes these bytes to the last sector, and then it flushes
abbrev pub store_events : DiskState → List ℕ → List Event
store_events d bytes = Write (last_sector d) bytes ∷ Flush ∷ []

-- the events that are shown are those of the history
abbrev pub IsHistory : Option Content → Option (List Event) → Type 0
IsHistory told None = Unit {0}
IsHistory None (Some events) = ⊥
IsHistory (Some c) (Some events) = events ≡ c.history

-- if some of these events were logged since the start, to log those that are left is to log all of them
pub record Continues (left all : List Event) (middle start : DiskState) : Type 0 where
  pub whole : (new : DiskState) → Logs left middle new → Logs all start new
  pub part : (new : DiskState) → FailsIn left middle new → FailsIn all start new
