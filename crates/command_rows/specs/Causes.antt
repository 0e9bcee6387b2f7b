-- Why a line is refused, whatever its row.
use Rattle.std.specs.Prelude.{Bool, Err, IsTrue, List, MatchOption, Option, Some, false, slice_get, true, ℕ, ◌+◌, ◌<◌, ◌≡◌}
use Rattle.eli_base.specs.declared.refusals.Refusal.TheVariants as refusals
use Rattle.command_rows.specs.Gate.{needs, refused_by, traits_of}
use Rattle.command_rows.specs.Grounds.{FindsBadFile, HasGround, IsGround}
use Rattle.command_rows.specs.Rows.{Asks, AsksBytesAtOnce, AsksSectorsFrom, AttachedWith, Attachment, DrawerState, FaultOf, QueueRefuses, Reach, World, place_of, whole_sectors}
use Rattle.command_rows.specs.Turn.{reach}
use Rattle.command_rows.specs.Vocabulary.{Command, DiskState, Refusal, Rose, Span, bytes_at, has_tags, media, provider_of}
use Rattle.command_rows.specs.verbs.{verb_of}

-- whether a command may report that there was no memory
abbrev pub may_lack_memory : Command → Bool
may_lack_memory command = (traits_of command).lacks_memory

-- whether a read-only provider refuses the command
abbrev pub writes_data : Command → Bool
writes_data command = (traits_of command).writes_data

-- whether a command is refused by a provider without authentication
abbrev pub needs_tags : Command → Bool
needs_tags command = (traits_of command).needs_tags

-- what a line asks of an attached provider
abbrev pub asks_of : List ℕ → Command → Asks
asks_of line command = (verb_of command).asks line

-- the bytes that a line asks for at once are so many
abbrev pub AsksBytes : List ℕ → Command → ℕ → Attachment → Type 0
AsksBytes line command bytes a = AsksBytesAtOnce (asks_of line command) bytes a

-- the sectors that a line asks for are so many from this one on
abbrev pub AsksSectors : List ℕ → Command → ℕ → ℕ → Attachment → Type 0
AsksSectors line command first many a = AsksSectorsFrom (asks_of line command) first many a

-- the bytes are no whole sectors, or too many
pub record HasBadLength (line : List ℕ) (command : Command) (given size : ℕ) (a : Attachment) : Type 0 where
  pub asked : AsksBytes line command given a
  pub bad : whole_sectors a.keying.sectorsize given ≡ Err (refusals.BadLength given size)

-- the sectors pass the end of the attached provider, which has so many
pub record LinePassesEnd (line : List ℕ) (command : Command) (disk : DiskState) (sector count there : ℕ) (a : Attachment) : Type 0 where
  pub asked : AsksSectors line command sector count a
  pub has : there ≡ media a.keying disk
  pub passes : there < sector + count

-- a unit that a line reads has another tag than its ciphertext: the first one at this offset
abbrev pub FindsBadUnit : List ℕ → Command → DiskState → ℕ → Attachment → Type 0
FindsBadUnit line command disk offset a = FaultOf (asks_of line command) disk offset a

-- how the open requests refuse a line
abbrev pub FindsInQueue : List ℕ → Command → DiskState → Refusal → Attachment → Type 0
FindsInQueue line command disk refusal a = QueueRefuses (asks_of line command) disk refusal a

-- the cause of a refusal of a line that names a drawer, by what the line reached before and after
abbrev pub LineHasCause : List ℕ → Command → Reach → Refusal → Reach → Type 0
LineHasCause line command old refusals.NotAttached new = refused_by (needs command) old.holding ≡ Some refusals.NotAttached
LineHasCause line command old refusals.StillAttached new = refused_by (needs command) old.holding ≡ Some refusals.StillAttached
LineHasCause line command old refusals.Suspended new = refused_by (needs command) old.holding ≡ Some refusals.Suspended
LineHasCause line command old refusals.NotSuspended new = refused_by (needs command) old.holding ≡ Some refusals.NotSuspended
LineHasCause line command old refusals.ReadOnly new = IsTrue (writes_data command) × AttachedWith old.holding (λ a. a.readonly ≡ true)
LineHasCause line command old (refusals.OutOfRange sector count there) new = AttachedWith old.holding (LinePassesEnd line command old.disk sector count there)
LineHasCause line command old (refusals.BadLength given size) new = AttachedWith old.holding (HasBadLength line command given size)
LineHasCause line command old (refusals.Integrity offset) new = AttachedWith old.holding (FindsBadUnit line command old.disk offset)
LineHasCause line command old refusals.NotAuthenticated new = IsTrue (needs_tags command) × AttachedWith old.holding (λ a. has_tags a.keying.auth ≡ false)
LineHasCause line command old refusals.DeviceFault new = Rose old.disk.faults new.disk.faults
LineHasCause line command old refusals.EntropyFault new = Rose old.entropy.faults new.entropy.faults
LineHasCause line command old (refusals.CabinetFault word) new = Rose old.cabinet.faults new.cabinet.faults
LineHasCause line command old (refusals.FileAbsent word) new = FindsBadFile line command old.holding old.cabinet (refusals.FileAbsent word) new.cabinet
LineHasCause line command old (refusals.FileTooLong word limit) new = FindsBadFile line command old.holding old.cabinet (refusals.FileTooLong word limit) new.cabinet
LineHasCause line command old refusals.NoMemory new = IsTrue (may_lack_memory command)
LineHasCause line command old refusals.QueueFull new = AttachedWith old.holding (FindsInQueue line command old.disk refusals.QueueFull)
LineHasCause line command old (refusals.NoRequest tag) new = AttachedWith old.holding (FindsInQueue line command old.disk (refusals.NoRequest tag))
LineHasCause line command old (refusals.RequestNotDone tag left) new = AttachedWith old.holding (FindsInQueue line command old.disk (refusals.RequestNotDone tag left))
LineHasCause line command old (refusals.RequestDone tag) new = AttachedWith old.holding (FindsInQueue line command old.disk (refusals.RequestDone tag))
LineHasCause line command old (refusals.RequestsOpen count) new = AttachedWith old.holding (FindsInQueue line command old.disk (refusals.RequestsOpen count))
LineHasCause line command old refusal new = IsGround refusal × HasGround line command old refusal

-- the refusal has a cause in the drawer at a place
pub record CausedAt (line : List ℕ) (command : Command) (refusal : Refusal) (old new : World) (place : ℕ) : Type 0 where
  pub before : DrawerState
  pub found : slice_get old.drawers place ≡ Some before
  pub after : DrawerState
  pub there : slice_get new.drawers place ≡ Some after
  pub cause : LineHasCause line command (reach before old) refusal (reach after new)

-- the refusal of a line has its cause: a line without a provider lacked memory, one that names no drawer is refused for
-- that, and otherwise the cause is in the drawer that it names
abbrev pub CausedBy : Option Span → List ℕ → Command → Refusal → World → World → Type 0
CausedBy named line command refusal old new =
    MatchOption named (refusal ≡ refusals.NoMemory)
    (λ prov. MatchOption (place_of (bytes_at line prov) old.drawers) (refusal ≡ refusals.UnknownProvider) (CausedAt line command refusal old new))

abbrev pub Caused : List ℕ → Command → Refusal → World → World → Type 0
Caused line command refusal old new = CausedBy (provider_of command) line command refusal old new
