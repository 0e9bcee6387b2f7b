-- What an opener reports of the names of files, and what its calls leave of that.
use Rattle.std.specs.Prelude.{◌≡◌, ◌≢◌, ◌⊎◌, ◌&&◌, ◌||◌, ◌==◌, ℕ, List, [], ◌∷◌, ◌++◌, Bool, true, false, Option, None, Some, Result, Ok, Err, IfSome, IsErr, codes, if◌then◌else◌, option_map}
use Rattle.std.specs.IoError.{error_kind}
use Rattle.std.specs.Str.{bytes_eq, is_utf8}
use Rattle.std.specs.declared.fs.options.OpenOptions.{OpenOptions}
use Rattle.std.specs.declared.io.Error.{Error}
use Rattle.std.specs.declared.io.ErrorKind.TheVariants.{NotFound}
use Rattle.block_traits.specs.Cabinet.{Files}
use Rattle.file_edge.specs.Opening.{to_change, to_read}
use Rattle.file_edge.specs.declared.found.FileId.{FileId}
use Rattle.file_edge.specs.declared.found.Found.{Found}
use Rattle.file_edge.specs.declared.image_file.ImageFile as image_file

-- what a name has: nothing; a file of these bytes, and which one, if that is reported; or something that can't be read
pub data Named : Type 0 where
  Absent : Named
  Holds : (id : Option FileId) → (bytes : List ℕ) → Named
  Failing : Named

-- what each name has
abbrev pub NameMap : Type 0
NameMap = List ℕ → Named

-- what an opener reports: what each name has, and under which of them the new file stands
pub record NamedFiles : Type 0 where
  pub named : NameMap
  pub fresh : List ℕ

abbrev pub named_of : Option NamedFiles → Option NameMap
named_of told = option_map (λ names. names.named) told

-- ---- what calls leave

-- one name has this, and each other what it had
abbrev pub with_name : List ℕ → Named → NameMap → NameMap
with_name name has named other = if bytes_eq other name then has else named other

-- under the name of the new file stands this
abbrev pub with_new : Named → NamedFiles → NamedFiles
with_new has names = record { named = with_name names.fresh has names.named; fresh = names.fresh }

-- a new file of no bytes was made under this name
abbrev pub made_empty : List ℕ → NamedFiles → NamedFiles
made_empty name names = record { named = with_name name (Holds None []) names.named; fresh = name }

-- bytes added after those of a file
abbrev pub appended : Named → List ℕ → Named
appended (Holds id bytes) more = Holds id (bytes ++ more)
appended has more = has

-- bytes were written after those of the new file
abbrev pub written_behind : List ℕ → NamedFiles → NamedFiles
written_behind bytes names = with_new (appended (names.named names.fresh) bytes) names

-- what one name had is what the other has now, in place of what that had
abbrev pub renamed : (from to : List ℕ) → NamedFiles → NamedFiles
renamed from to names = record { named = with_name to (names.named from) (with_name from Absent names.named); fresh = names.fresh }

-- a name was removed
abbrev pub without_name : List ℕ → NamedFiles → NamedFiles
without_name name names = record { named = with_name name Absent names.named; fresh = names.fresh }

-- a new file is made if the name has nothing, or nothing changes
abbrev pub MakesName : List ℕ → Bool → Option NamedFiles → Option NamedFiles → Type 0
MakesName name true old new = IfSome old (λ names. names.named name ≡ Absent) × (new ≡ option_map (made_empty name) old)
MakesName name false old new = new ≡ old

-- all bytes are written, or under the name of the new file something stands
abbrev pub WritesNew : List ℕ → Bool → Option NamedFiles → Option NamedFiles → Type 0
WritesNew bytes true old new = new ≡ option_map (written_behind bytes) old
WritesNew bytes false old new = (has : Named) × (new ≡ option_map (with_new has) old)

-- the name is given, or nothing changes
abbrev pub RenamesName : (from to : List ℕ) → Bool → Option NamedFiles → Option NamedFiles → Type 0
RenamesName from to true old new = new ≡ option_map (renamed from to) old
RenamesName from to false old new = new ≡ old

-- a folder is brought to the disk, which doesn't fail if names are reported
pub record SyncsNames (done : Bool) (old new : Option NamedFiles) : Type 0 where
  pub stays : new ≡ old
  pub never_fails : IfSome old (λ names. done ≡ true)

-- what a store leaves: a file of these bytes under the name, or what the names had before
abbrev pub StoresName : {E : Type 0} → List ℕ → List ℕ → Result (Unit {0}) E → Option NamedFiles → Option NamedFiles → Type 0
StoresName name bytes (Ok done) old new = named_of new ≡ option_map (with_name name (Holds None bytes)) (named_of old)
StoresName name bytes (Err fault) old new = named_of new ≡ named_of old

-- ---- what is opened

-- a file that is there is opened to be read, or to be read and written
abbrev pub IsUsual : OpenOptions → Type 0
IsUsual how = (how ≡ to_read) ⊎ (how ≡ to_change)

module _ {F : Type 0} (f : image_file.Ghosts F) where
  -- nothing else is found of the file than that it is this one
  abbrev pub IsThatFile : Option FileId → F → Type 0
  IsThatFile id file = IfSome id (λ which. (found : Found) → f.tells file (Ok found) → found.id ≡ which)

  -- a file of no bytes, of which no read is served
  pub record NeverRead (file : F) : Type 0 where
    pub none : f.left file ≡ Some []
    pub fails : (most : ℕ) (read : Result (List ℕ) Error) → f.holds file most read → IsErr read

  -- what is opened to be read has what the name has; if something is there, no refusal says that nothing is
  abbrev pub OpensWhat : Named → Result F Error → Type 0
  OpensWhat Absent (Ok file) = ⊥
  OpensWhat Absent (Err error) = Unit {0}
  OpensWhat (Holds id bytes) (Ok file) = (f.left file ≡ Some bytes) × IsThatFile id file
  OpensWhat (Holds id bytes) (Err error) = error_kind error ≢ NotFound
  OpensWhat Failing (Ok file) = NeverRead file
  OpensWhat Failing (Err error) = error_kind error ≢ NotFound

  -- what is opened under a name has what the name has (`OpensWhat`), if that is reported
  abbrev pub OpensTold : Option NamedFiles → List ℕ → Result F Error → Type 0
  OpensTold told name opened = IfSome told (λ names. OpensWhat (names.named name) opened)

-- ---- cabinet and random bytes

abbrev pub same_file : FileId → FileId → Bool
same_file one other = (one.device == other.device) && (one.number == other.number)

abbrev pub is_among : List FileId → FileId → Bool
is_among [] id = false
is_among (image ∷ images) id = same_file image id || is_among images id

-- the bytes of a file that is none of these images
abbrev pub bytes_beside : List FileId → Named → Option (List ℕ)
bytes_beside images (Holds None bytes) = Some bytes
bytes_beside images (Holds (Some id) bytes) = if is_among images id then None else Some bytes
bytes_beside images has = None

-- the files that names have beside these images; a name that isn't UTF-8 has none
abbrev pub files_beside : List FileId → NameMap → Files
files_beside images named name = if is_utf8 name then bytes_beside images (named name) else None

-- the files that names have beside these images, if that is reported
abbrev pub told_files : List FileId → Option NamedFiles → Option Files
told_files images told = option_map (files_beside images) (named_of told)

-- the bytes that a name gives
abbrev pub given_bytes : Named → List ℕ
given_bytes (Holds id bytes) = bytes
given_bytes has = []

-- what is left of the random bytes before the first of them is drawn: all that the device gives, or none if it isn't
-- opened
abbrev pub IsRandom : Option NamedFiles → Option (List ℕ) → Type 0
IsRandom told left = IfSome told (λ names. (left ≡ Some []) ⊎ (left ≡ Some (given_bytes (names.named (codes "/dev/urandom")))))
