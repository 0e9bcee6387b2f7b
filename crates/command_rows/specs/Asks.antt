-- What a line asks of an attached provider, and how that may be refused.
use Rattle.std.specs.Prelude.{Err, MatchOption, None, Ok, Option, Some, length, ℕ, ◌*◌, ◌≡◌, ◌≤◌}
use Rattle.eli_base.specs.declared.refusals.Refusal.TheVariants as refusals
use Rattle.command_rows.specs.Queueing.{HasRequest}
use Rattle.command_rows.specs.Steps.{whole_sectors}
use Rattle.command_rows.specs.Vocabulary.{DiskState, HasBadUnit, IsAllDone, IsNotDone, ReadsAs, Refusal, Request, left_of, request_with}
use Rattle.command_rows.specs.World.{Attachment}

-- logical sectors from one on: as many as are named, at once; as many as so many bytes are, at once; or as many as are
-- named, in as many reads or writes as it takes
pub data Sectors : Type 0 where
  Counted : ℕ → ℕ → Sectors
  Spelled : ℕ → ℕ → Sectors
  Ranged : ℕ → ℕ → Sectors

-- nothing that may be refused; to read some; to write some; to open a request for some, or for none; to do the next
-- unit of the request with this tag; to take that request out; or that none is open
pub data Asks : Type 0 where
  AsksNothing : Asks
  AsksToRead : Sectors → Asks
  AsksToWrite : Sectors → Asks
  AsksToOpen : Option Sectors → Asks
  AsksToStep : ℕ → Asks
  AsksToReap : ℕ → Asks
  AsksForNone : Asks

-- ---- the length and the range

-- the sectors
abbrev pub asked_sectors : Asks → Option Sectors
asked_sectors AsksNothing = None
asked_sectors (AsksToRead sectors) = Some sectors
asked_sectors (AsksToWrite sectors) = Some sectors
asked_sectors (AsksToOpen sectors) = sectors
asked_sectors (AsksToStep tag) = None
asked_sectors (AsksToReap tag) = None
asked_sectors AsksForNone = None

-- so many bytes are asked for at once
abbrev pub IsOfBytes : ℕ → Attachment → Sectors → Type 0
IsOfBytes bytes a (Counted sector count) = bytes ≡ count * a.keying.sectorsize
IsOfBytes bytes a (Spelled sector many) = bytes ≡ many
IsOfBytes bytes a (Ranged start count) = ⊥

-- so many sectors are asked for from this one on
abbrev pub IsOfSectors : ℕ → ℕ → Attachment → Sectors → Type 0
IsOfSectors first many a (Counted sector count) = (first ≡ sector) × (whole_sectors a.keying.sectorsize (count * a.keying.sectorsize) ≡ Ok many)
IsOfSectors first many a (Spelled sector bytes) = (first ≡ sector) × (whole_sectors a.keying.sectorsize bytes ≡ Ok many)
IsOfSectors first many a (Ranged start count) = (first ≡ start) × (many ≡ count)

-- bytes are asked for, so many
abbrev pub AsksBytesAtOnce : Asks → ℕ → Attachment → Type 0
AsksBytesAtOnce asks bytes a = MatchOption (asked_sectors asks) ⊥ (IsOfBytes bytes a)

-- sectors are asked for, so many from this one on
abbrev pub AsksSectorsFrom : Asks → ℕ → ℕ → Attachment → Type 0
AsksSectorsFrom asks first many a = MatchOption (asked_sectors asks) ⊥ (IsOfSectors first many a)

-- ---- the tags

-- the request with this tag is done, and has a unit that was read with another tag than its ciphertext: the first one
-- at this offset
pub record HasReadFault (tag offset : ℕ) (a : Attachment) : Type 0 where
  pub request : Request
  pub found : request_with tag a.queue ≡ Some request
  pub none : left_of request ≡ 0
  pub bad : HasBadUnit a.keying request.job request.device offset

-- the sectors that are read, which are there, have a first fault at this offset
pub record ReadsFault (sectors : Sectors) (disk : DiskState) (offset : ℕ) (a : Attachment) : Type 0 where
  pub first : ℕ
  pub many : ℕ
  pub are : IsOfSectors first many a sectors
  pub reads : ReadsAs disk a.keying first many (Err offset)

-- a unit that is read has another tag than its ciphertext: the first one at this offset
abbrev pub FaultOf : Asks → DiskState → ℕ → Attachment → Type 0
FaultOf AsksNothing disk offset a = ⊥
FaultOf (AsksToRead sectors) disk offset a = ReadsFault sectors disk offset a
FaultOf (AsksToWrite sectors) disk offset a = ⊥
FaultOf (AsksToOpen sectors) disk offset a = ⊥
FaultOf (AsksToStep tag) disk offset a = ⊥
FaultOf (AsksToReap tag) disk offset a = HasReadFault tag offset a
FaultOf AsksForNone disk offset a = ⊥

-- ---- the open requests

-- how the open requests refuse what a line asks: as many are open as may be, none has the tag, units of it are left,
-- none is left, or a request is open
abbrev pub QueueRefuses : Asks → DiskState → Refusal → Attachment → Type 0
QueueRefuses AsksNothing disk refusal a = ⊥
QueueRefuses (AsksToRead sectors) disk refusal a = ⊥
QueueRefuses (AsksToWrite sectors) disk refusal a = ⊥
QueueRefuses (AsksToOpen sectors) disk refusals.QueueFull a = length a.queue ≡ 32
QueueRefuses (AsksToOpen sectors) disk refusal a = ⊥
QueueRefuses (AsksToStep named) disk (refusals.NoRequest tag) a = (tag ≡ named) × (¬ HasRequest a tag disk)
QueueRefuses (AsksToStep named) disk (refusals.RequestDone tag) a = (tag ≡ named) × IsAllDone tag a.queue
QueueRefuses (AsksToStep named) disk refusal a = ⊥
QueueRefuses (AsksToReap named) disk (refusals.NoRequest tag) a = (tag ≡ named) × (¬ HasRequest a tag disk)
QueueRefuses (AsksToReap named) disk (refusals.RequestNotDone tag left) a = (tag ≡ named) × IsNotDone tag left a.queue
QueueRefuses (AsksToReap named) disk refusal a = ⊥
QueueRefuses AsksForNone disk (refusals.RequestsOpen count) a = (count ≡ length a.queue) × (1 ≤ count)
QueueRefuses AsksForNone disk refusal a = ⊥
