-- What is found of a file.
use Rattle.std.specs.Prelude.{◌≡◌, List, Result, Ok, Err, Contains}
use Rattle.std.specs.IoError.{error_kind}
use Rattle.std.specs.declared.io.Error.{Error}
use Rattle.std.specs.declared.io.ErrorKind.TheVariants.{NotFound}
use Rattle.file_edge.specs.declared.found.FileId.{FileId}
use Rattle.file_edge.specs.declared.found.FileKind.{FileKind}
use Rattle.file_edge.specs.declared.found.FileKind.TheVariants.{Regular, Other}
use Rattle.file_edge.specs.declared.found.Found.{Found}

-- the file is one of these images, or nothing is found of it
abbrev pub IsOneOfImages : List FileId → Result Found Error → Type 0
IsOneOfImages images (Ok found) = Contains images found.id
IsOneOfImages images (Err error) = Unit {0}

-- the name has a regular file that is none of these images, or it has none
abbrev pub IsReplaceable : List FileId → Result Found Error → Type 0
IsReplaceable images (Ok found) = (found.kind ≡ Regular) × (Contains images found.id → ⊥)
IsReplaceable images (Err error) = error_kind error ≡ NotFound

-- an image is a regular file or a block device
abbrev pub HasImages : FileKind → Type 0
HasImages Other = ⊥
HasImages kind = Unit {0}

-- the file may be an image beside these
abbrev pub IsFree : List FileId → Found → Type 0
IsFree images found = HasImages found.kind × (Contains images found.id → ⊥)
