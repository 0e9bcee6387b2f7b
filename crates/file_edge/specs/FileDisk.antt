-- A file as a disk.
use Rattle.std.specs.Prelude.{◌≡◌, ◌<◌, ◌^◌, ◌/◌, ℕ, List, ◌++◌, Bool, true, false, Option, None, Some, Result, Ok, Err}
use Rattle.std.specs.declared.io.Error.{Error}
use Rattle.block_traits.specs.Disk.{DiskState}
use Rattle.file_edge.specs.Asked.{Asked, Find, asking, more}
use Rattle.file_edge.specs.declared.file_disk.FileDisk.{FileDisk}
use Rattle.file_edge.specs.Found.{IsFree}
use Rattle.file_edge.specs.declared.found.FileId.{FileId}
use Rattle.file_edge.specs.declared.found.Found.{Found}
use Rattle.file_edge.specs.declared.image_file.ImageFile as image_file
use Rattle.file_edge.specs.declared.measuring.Measured.{Measured}
use Rattle.file_edge.specs.declared.opener.Opener as opener
use Rattle.file_edge.specs.Measuring.{IsMeasured}
use Rattle.file_edge.specs.Opening.{OpensImage, image_asked}
use Rattle.file_edge.specs.Told.{Told, contents, of_size, told_in}
use Rattle.file_edge.specs.ToldFits.{IsWellFormed-told}

-- the disk of a file reports what its file reports, if that has just its sectors, and shows no events
abbrev pub file_disk_state : {F : Type 0} → (F → Option Told) → FileDisk F → DiskState
file_disk_state told d = record {
  size = d.sectors;
  shows = false;
  content = of_size d.sectors (contents (told_in told d.file));
  faults = d.faults;
  reads = d.reads;
  well_formed = IsWellFormed-told d.sectors (told_in told d.file) d.small;
}

-- the disk of a file reports all that its file reports
abbrev pub TellsFile : {F : Type 0} → (F → Option Told) → FileDisk F → Type 0
TellsFile told d = (file_disk_state told d).content ≡ contents (told_in told d.file)

-- no file is opened, and the disk has two sectors; which file it would have been is known, or not
pub record IsUnopened {F : Type 0} (id : Option FileId) (disk : FileDisk F) : Type 0 where
  pub file : disk.file ≡ None
  pub sectors : disk.sectors ≡ 2
  pub is_file : disk.id ≡ id

-- the file is opened, and the disk has its whole 512-byte pieces
pub record Holds {F : Type 0} (file : F) (id : FileId) (size : ℕ) (disk : FileDisk F) : Type 0 where
  pub opened : disk.file ≡ Some file
  pub sectors : disk.sectors ≡ size / 512
  pub is_file : disk.id ≡ Some id

-- the disk of an open file that was looked at, by its size in bytes; if it isn't served, the disk of no file
abbrev pub IsDiskOf : {F : Type 0} → F → FileId → Option ℕ → FileDisk F → Type 0
IsDiskOf file id None disk = IsUnopened (Some id) disk
IsDiskOf file id (Some size) disk = Holds file id size disk

module _ {F : Type 0} (f : image_file.Ghosts F) (images : List FileId) (changes : Bool) where
  -- the disk of an open file, as looking at it left that file
  pub record IsDiskOfFile (file : F) (id : FileId) (disk : FileDisk F) : Type 0 where
    pub seen : Measured
    pub ready : F
    pub looks : IsMeasured f images changes file id seen ready
    pub holds : IsDiskOf ready seen.id seen.length disk

  -- the disk of what was opened
  abbrev pub IsDiskOfOpened : FileId → Result F Error → FileDisk F → Type 0
  IsDiskOfOpened id (Err error) disk = IsUnopened (Some id) disk
  IsDiskOfOpened id (Ok file) disk = IsDiskOfFile file id disk

  module _ {O : Type 0} (o : opener.Ghosts O F) where
    -- the disk of the image that is opened under a name that leads to this file
    pub record OpensFile (name : List ℕ) (id : FileId) (disk : FileDisk F) : Type 0 where
      pub before : O
      pub opened : Result F Error
      pub image : OpensImage o.answers before changes name opened
      pub of_opened : IsDiskOfOpened id opened disk

    -- the disk of what a name leads to; what may be no image isn't opened
    abbrev pub OpensFound : List ℕ → Result Found Error → FileDisk F → Type 0
    OpensFound name (Err error) disk = IsUnopened None disk
    OpensFound name (Ok found) disk = (IsFree images found → OpensFile name found.id disk) × ((IsFree images found → ⊥) → IsUnopened (Some found.id) disk)

    -- the disk of the image of a name
    pub record OpensDisk (before : O) (name : List ℕ) (disk : FileDisk F) : Type 0 where
      pub found : Result Found Error
      pub leading : o.leads before name found
      pub of_found : OpensFound name found disk

-- what the disk of a name asks: where the name leads, and, if that may be an image, to open it
abbrev pub disk_asked : List ℕ → (changes opened written read : Bool) → List Asked
disk_asked name changes false written read = asking (Find name) true
disk_asked name changes true written read = asking (Find name) true ++ image_asked name changes written read

-- what opening the disk of a name asked, and nothing else was asked
pub record AsksDisk {O : Type 0} (log_of : O → Option (List Asked)) (opener : O) (changes : Bool) (name : List ℕ) (new : O) : Type 0 where
  pub opened : Bool
  pub written : Bool
  pub read : Bool
  pub log : log_of new ≡ more (disk_asked name changes opened written read) (log_of opener)
