-- What `restore` returns, and what it does to the disk (geli(8), restore).
use Rattle.std.specs.Prelude.{◌≡◌, ℕ, ◌*◌, ◌<◌, nat_lt, if◌then◌else◌, List, [], ◌∷◌, ◌++◌, length, take, slice_index, Bool, true, false, Result, Ok, Err}
use Rattle.std.specs.Bool.{IsFalse}
use Rattle.block_traits.specs.Disk.{DiskState, FailsIn, Logs}
use Rattle.eli_base.specs.declared.refusals.Refusal.{Refusal}
use Rattle.eli_base.specs.declared.refusals.Refusal.TheVariants.{DeviceFault}
use Rattle.eli_base.specs.declared.refusals.Refusal.TheVariants as refusals
use Rattle.eli_metadata.specs.Checks.{size_matches}
use Rattle.eli_metadata.specs.Format.{IsWhole, encoded, metadata_in}
use Rattle.eli_metadata.specs.Place.{replace_events}
use Rattle.eli_metadata.specs.Refusals.{refusal_of}
use Rattle.eli_metadata.specs.declared.metadata.MetaFault.{MetaFault}
use Rattle.eli_metadata.specs.declared.metadata.Metadata.{Metadata}

-- the first 511 bytes of a backup, and a zero byte
abbrev pub backed_up_sector : List ℕ → List ℕ
backed_up_sector bytes = take 511 bytes ++ 0 ∷ []

-- the metadata, unless this is a fault, which refuses them
abbrev pub unless_fault : Result (Unit {0}) MetaFault → Metadata → Result Metadata Refusal
unless_fault (Err fault) m = Err (refusal_of fault)
unless_fault (Ok _) m = Ok m

-- the metadata of a backup for an image of so many device sectors: if forced, the size becomes the image's; else it has
-- to be the image's already
abbrev pub fitted : Result Metadata MetaFault → Bool → ℕ → Result Metadata Refusal
fitted (Err fault) force sectors = Err (refusal_of fault)
fitted (Ok m) true sectors = Ok (record m { provsize = 512 * sectors })
fitted (Ok m) false sectors = unless_fault (size_matches m sectors) m

-- the metadata that a backup gives an image of so many device sectors, or the first refusal that holds
abbrev pub restored : List ℕ → Bool → ℕ → Result Metadata Refusal
restored bytes force sectors =
    (if nat_lt sectors 2 then Err (refusals.TooSmall (512 * sectors))
    else (if nat_lt (length bytes) 511 then Err (refusals.BackupTooShort (length bytes))
    else fitted (metadata_in (backed_up_sector bytes)) force sectors))

-- each number is a byte
abbrev pub AreAllBytes : List ℕ → Type 0
AreAllBytes numbers = (k : ℕ) → slice_index numbers k < 256

-- these are the metadata of the bytes of a backup
pub record GivesMetadata (bytes : List ℕ) (force : Bool) (sectors : ℕ) (m : Metadata) : Type 0 where
  pub given : AreAllBytes bytes
  pub served : restored bytes force sectors ≡ Ok m
  pub fits : IsWhole m

-- the metadata from a backup are read back, and unless the size is forced, their sector is that of the backup
pub record IsBackedUp (bytes : List ℕ) (force : Bool) (m : Metadata) : Type 0 where
  pub again : metadata_in (encoded m) ≡ Ok m
  pub plain : IsFalse force → encoded m ≡ backed_up_sector bytes

-- the metadata were written with all of the events, and nothing was read
pub record WritesBack (bytes : List ℕ) (force : Bool) (disk : DiskState) (m : Metadata) (disk' : DiskState) : Type 0 where
  pub gives : GivesMetadata bytes force disk.size m
  pub logs : Logs (replace_events disk m) disk disk'
  pub unasked : disk'.reads ≡ disk.reads

-- the disk failed after a part of the events, and nothing was read
pub record WritesPart (bytes : List ℕ) (force : Bool) (disk disk' : DiskState) : Type 0 where
  pub m : Metadata
  pub gives : GivesMetadata bytes force disk.size m
  pub fails : FailsIn (replace_events disk m) disk disk'
  pub unasked : disk'.reads ≡ disk.reads

-- the backup is refused, and nothing was done
pub record RefusesBackup (bytes : List ℕ) (force : Bool) (disk : DiskState) (refusal : Refusal) (disk' : DiskState) : Type 0 where
  pub cause : restored bytes force disk.size ≡ Err refusal
  pub unchanged : disk' ≡ disk

abbrev pub Restores : List ℕ → Bool → DiskState → Result Metadata Refusal → DiskState → Type 0
Restores bytes force disk (Ok m) disk' = WritesBack bytes force disk m disk'
Restores bytes force disk (Err DeviceFault) disk' = WritesPart bytes force disk disk'
Restores bytes force disk (Err refusal) disk' = RefusesBackup bytes force disk refusal disk'
