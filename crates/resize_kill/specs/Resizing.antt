-- What `resize` returns, and what it does to the disk and the entropy (geli(8), resize).
use Rattle.std.specs.Prelude.{◌≡◌, ◌⊎◌, ℕ, ◌-◌, ◌*◌, ◌/◌, ◌==◌, nat_lt, nat_le, if◌then◌else◌, List, [], ◌∷◌, ◌++◌, length, get_or, Option, None, Some, Result, Ok, Err}
use Rattle.block_traits.specs.Causes.{Counted}
use Rattle.block_traits.specs.Content.{Content}
use Rattle.block_traits.specs.Disk.{DiskState, FailsIn, Gives, Logs, last_sector}
use Rattle.block_traits.specs.Moments.{AtEachMoment, IsFlushedSince, IsUnaltered, KeepsOldOr, WaitsForFlush}
use Rattle.block_traits.specs.Overwriting.{overwrite_events}
use Rattle.block_traits.specs.Streams.{EntropyState, TakesNone}
use Rattle.block_traits.specs.declared.disk.Event.{Event}
use Rattle.eli_base.specs.Refusals.{first_that_holds}
use Rattle.eli_base.specs.declared.refusals.Refusal.{Refusal}
use Rattle.eli_base.specs.declared.refusals.Refusal.TheVariants.{EntropyFault, DeviceFault}
use Rattle.eli_base.specs.declared.refusals.Refusal.TheVariants as refusals
use Rattle.eli_metadata.specs.Format.{IsWhole, encoded, metadata_in}
use Rattle.eli_metadata.specs.Place.{IsSectorOf, replace_events}
use Rattle.eli_metadata.specs.Refusals.{refusal_of}
use Rattle.eli_metadata.specs.declared.metadata.MetaFault.{MetaFault}
use Rattle.eli_metadata.specs.declared.metadata.Metadata.{Metadata}
use Rattle.resize_kill.specs.Trash.{TakesTrash, trash_sectors}

-- the first refusal of the sizes: an image of so many device sectors may be too small, and an old size in bytes has to
-- be below the image's
abbrev pub size_refusal : ℕ → ℕ → Option Refusal
size_refusal sectors oldsize = first_that_holds (
    (nat_lt sectors 2, refusals.TooSmall (512 * sectors))
    ∷ (nat_le (512 * sectors) oldsize, refusals.NotGrown (512 * sectors) oldsize)
    ∷ [])

-- the last device sector of an image of the old size
abbrev pub old_place : ℕ → ℕ
old_place oldsize = oldsize / 512 - 1

-- the refusal of what was read from the old place
abbrev pub old_refusal : Result Metadata MetaFault → ℕ → Option Refusal
old_refusal (Err fault) oldsize = Some (refusal_of fault)
old_refusal (Ok m) oldsize = if m.provsize == oldsize then None else Some (refusals.OldSizeMismatch m.provsize oldsize)

-- the metadata with the size of an image of so many device sectors, and all else as it was
abbrev pub grown : Metadata → ℕ → Metadata
grown m sectors = record m { provsize = 512 * sectors }

-- the metadata in the last sector are replaced, and then a place is written over in six passes
abbrev pub move_events : DiskState → ℕ → Metadata → List ℕ → List Event
move_events disk place m random = replace_events disk m ++ overwrite_events place (trash_sectors random)

-- a sector was read once, without an event, and its bytes were decoded to this
pub record Finds (place : ℕ) (disk : DiskState) (found : Result Metadata MetaFault) (disk' : DiskState) : Type 0 where
  pub bytes : List ℕ
  pub whole : length bytes ≡ 512
  pub told : Gives disk place bytes
  pub answered : found ≡ metadata_in bytes
  pub logs : Logs [] disk disk'
  pub asked : Counted 1 disk.reads disk'.reads

-- the one read of the sector failed
pub record FailsToFind (disk disk' : DiskState) : Type 0 where
  pub fails : FailsIn [] disk disk'
  pub asked : Counted 1 disk.reads disk'.reads

-- the sector was read, and has metadata of the old size
pub record FindsOldMetadata (place oldsize : ℕ) (disk : DiskState) (m : Metadata) (disk' : DiskState) : Type 0 where
  pub finds : Finds place disk (Ok m) disk'
  pub size : m.provsize ≡ oldsize

-- the sector was read, and what it has is refused
pub record FindsOther (place oldsize : ℕ) (disk : DiskState) (refusal : Refusal) (disk' : DiskState) : Type 0 where
  pub found : Result Metadata MetaFault
  pub finds : Finds place disk found disk'
  pub cause : old_refusal found oldsize ≡ Some refusal

abbrev pub FindsOld : ℕ → ℕ → DiskState → Result Metadata Refusal → DiskState → Type 0
FindsOld place oldsize disk (Ok m) disk' = FindsOldMetadata place oldsize disk m disk'
FindsOld place oldsize disk (Err DeviceFault) disk' = FailsToFind disk disk'
FindsOld place oldsize disk (Err refusal) disk' = FindsOther place oldsize disk refusal disk'

-- an image has the new metadata in the last sector, or, in the old place, what is read as the old metadata
abbrev pub HasOneOf : ℕ → Metadata → ℕ → Metadata → List (List ℕ) → Type 0
HasOneOf last new place old image = (get_or image last [] ≡ encoded new) ⊎ (metadata_in (get_or image place []) ≡ Ok old)

-- once a flush landed, each unaltered image of a crash has the new metadata in the last sector, or the old ones in the
-- old place
abbrev pub HoldsOneOf : ℕ → Metadata → ℕ → Metadata → Content → Content → Type 0
HoldsOneOf last new place old before now = IsFlushedSince before now → (image : List (List ℕ)) → IsUnaltered now image → HasOneOf last new place old image

-- what is left of the metadata at each moment, whenever power fails
pub record KeepsOneOf (new : Metadata) (place : ℕ) (old : Metadata) (disk disk' : DiskState) : Type 0 where
  pub waits : AtEachMoment WaitsForFlush disk.content disk'.content
  pub last : KeepsOldOr (IsSectorOf new) (last_sector disk) disk.content disk'.content
  pub one : AtEachMoment (HoldsOneOf (last_sector disk) new place old) disk.content disk'.content

-- nothing is refused: the old place was read as these metadata, and the random bytes were taken
pub record Prepares (oldsize : ℕ) (disk : DiskState) (entropy : EntropyState) (old : Metadata) (random : List ℕ) (entropy' : EntropyState) : Type 0 where
  pub sizes : size_refusal disk.size oldsize ≡ None
  pub bytes : List ℕ
  pub whole : length bytes ≡ 512
  pub told : Gives disk (old_place oldsize) bytes
  pub found : metadata_in bytes ≡ Ok old
  pub size : old.provsize ≡ oldsize
  pub takes : TakesTrash random entropy entropy'
  pub fits : IsWhole old

-- the metadata were moved with all of the events, and one sector was read
pub record Moves (oldsize : ℕ) (disk : DiskState) (entropy : EntropyState) (disk' : DiskState) (entropy' : EntropyState) : Type 0 where
  pub old : Metadata
  pub random : List ℕ
  pub prepares : Prepares oldsize disk entropy old random entropy'
  pub logs : Logs (move_events disk (old_place oldsize) (grown old disk.size) random) disk disk'
  pub asked : Counted 1 disk.reads disk'.reads

-- the disk failed after a part of the events, and one sector was read
pub record MovesPart (oldsize : ℕ) (disk : DiskState) (entropy : EntropyState) (disk' : DiskState) (entropy' : EntropyState) : Type 0 where
  pub old : Metadata
  pub random : List ℕ
  pub prepares : Prepares oldsize disk entropy old random entropy'
  pub fails : FailsIn (move_events disk (old_place oldsize) (grown old disk.size) random) disk disk'
  pub asked : Counted 1 disk.reads disk'.reads

-- the one read of the old place failed, and the disk has no event
pub record CannotRead (oldsize : ℕ) (disk : DiskState) (entropy : EntropyState) (disk' : DiskState) (entropy' : EntropyState) : Type 0 where
  pub sizes : size_refusal disk.size oldsize ≡ None
  pub fails : FailsIn [] disk disk'
  pub asked : Counted 1 disk.reads disk'.reads
  pub unchanged : entropy' ≡ entropy

-- there were no random bytes, and the disk has no event
pub record MovesNothing (oldsize : ℕ) (disk : DiskState) (entropy : EntropyState) (disk' : DiskState) (entropy' : EntropyState) : Type 0 where
  pub sizes : size_refusal disk.size oldsize ≡ None
  pub old : Metadata
  pub finds : FindsOldMetadata (old_place oldsize) oldsize disk old disk'
  pub none : TakesNone entropy entropy'

-- the sizes are refused, and nothing was done
pub record RefusesSizes (oldsize : ℕ) (disk : DiskState) (entropy : EntropyState) (refusal : Refusal) (disk' : DiskState) (entropy' : EntropyState) : Type 0 where
  pub cause : size_refusal disk.size oldsize ≡ Some refusal
  pub disk_unchanged : disk' ≡ disk
  pub entropy_unchanged : entropy' ≡ entropy

-- what was read from the old place is refused, and the disk has no event
pub record RefusesOld (oldsize : ℕ) (disk : DiskState) (entropy : EntropyState) (refusal : Refusal) (disk' : DiskState) (entropy' : EntropyState) : Type 0 where
  pub sizes : size_refusal disk.size oldsize ≡ None
  pub finds : FindsOther (old_place oldsize) oldsize disk refusal disk'
  pub unchanged : entropy' ≡ entropy

abbrev pub Resizes : ℕ → DiskState → EntropyState → Result (Unit {0}) Refusal → DiskState → EntropyState → Type 0
Resizes oldsize disk entropy (Ok _) disk' entropy' = Moves oldsize disk entropy disk' entropy'
Resizes oldsize disk entropy (Err DeviceFault) disk' entropy' = CannotRead oldsize disk entropy disk' entropy' ⊎ MovesPart oldsize disk entropy disk' entropy'
Resizes oldsize disk entropy (Err EntropyFault) disk' entropy' = MovesNothing oldsize disk entropy disk' entropy'
Resizes oldsize disk entropy (Err refusal) disk' entropy' = RefusesSizes oldsize disk entropy refusal disk' entropy' ⊎ RefusesOld oldsize disk entropy refusal disk' entropy'
