-- What stands on a disk and in files, if these report what they hold, and what a line finds there and is refused for.
use Rattle.std.specs.Prelude.{Err, IfSome, List, Ok, Option, Result, Some, length, ℕ, ◌*◌, ◌<◌, ◌≡◌, ◌≤◌, ◌⊎◌}
use Rattle.eli_base.specs.declared.refusals.Refusal.TheVariants as refusals
use Rattle.command_rows.specs.Vocabulary.{CabinetState, Components, Content, DiskState, Event, Files, FitsWords, Gives, KeyWords, MayRefuse, MetaFault, Metadata, Refusal, Span, StopsAtFile, bytes_at, components_of, file_answer, last_sector, metadata_in, present, refusal_of, refused_word, replace_events}
use Rattle.command_rows.specs.World.{Reach}

-- the disk reports its content, of which a sector is read as these metadata
pub record ShowsMetadataAt (disk : DiskState) (place : ℕ) (m : Metadata) : Type 0 where
  pub content : Content
  pub told : disk.content ≡ Some content
  pub read : metadata_in (present content place) ≡ Ok m

-- the disk reports its content, and its last sector is read as these metadata
pub record ShowsMetadata (disk : DiskState) (m : Metadata) : Type 0 where
  pub enough : 2 ≤ disk.size
  pub shown : ShowsMetadataAt disk (last_sector disk) m

-- the disk has metadata, as `dump` and `backup` need it
pub record FindsMetadata (old : Reach) : Type 0 where
  pub m : Metadata
  pub shows : ShowsMetadata old.disk m

-- a sector holds 512 bytes, by what the disk reports, which are read as this
pub record IsReadAs (disk : DiskState) (place : ℕ) (found : Result Metadata MetaFault) : Type 0 where
  pub bytes : List ℕ
  pub whole : length bytes ≡ 512
  pub told : Gives disk place bytes
  pub read : metadata_in bytes ≡ found

-- there are fewer than two sectors
abbrev pub LacksRoom : DiskState → Refusal → Type 0
LacksRoom disk refusal = (disk.size < 2) × (refusal ≡ refusals.TooSmall (512 * disk.size))

-- the last sector has no metadata
pub record HoldsNone (disk : DiskState) (refusal : Refusal) : Type 0 where
  pub enough : 2 ≤ disk.size
  pub fault : MetaFault
  pub found : IsReadAs disk (last_sector disk) (Err fault)
  pub refused : refusal ≡ refusal_of fault

-- no metadata can be read
abbrev pub LacksMetadata : DiskState → Refusal → Type 0
LacksMetadata disk refusal = LacksRoom disk refusal ⊎ HoldsNone disk refusal

-- the last sector has these metadata
pub record HasMetadata (disk : DiskState) (m : Metadata) : Type 0 where
  pub enough : 2 ≤ disk.size
  pub found : IsReadAs disk (last_sector disk) (Ok m)

-- ---- what stands in files

-- the cabinet reports its files, by which the words of a key name these components
pub record NamesParts (line : List ℕ) (words : KeyWords) (cabinet : CabinetState) (parts : Components) : Type 0 where
  pub files : Files
  pub told : cabinet.files ≡ Some files
  pub named : components_of files line words ≡ Ok parts

-- the cabinet reports its files, and the file that a word names has these bytes, within this limit
pub record NamesFile (limit : ℕ) (line : List ℕ) (file : Span) (cabinet : CabinetState) (bytes : List ℕ) : Type 0 where
  pub files : Files
  pub told : cabinet.files ≡ Some files
  pub named : file_answer file.word limit (files (bytes_at line file)) ≡ Ok bytes

-- these are the components that the words of a key name, if the files are reported
pub record AreComponents (told : Option Files) (line : List ℕ) (words : KeyWords) (parts : Components) : Type 0 where
  pub named : IfSome told (λ files. components_of files line words ≡ Ok parts)
  pub fits : FitsWords words parts

-- the file of a key that is refused is the first that is wrong, if the files are reported; the count of misses rose,
-- but for the first lines of passphrase files, which have a limit of their own
pub record RefusesFiles (line : List ℕ) (words : KeyWords) (old : CabinetState) (refusal : Refusal) (new : CabinetState) : Type 0 where
  pub first : IfSome old.files (λ files. components_of files line words ≡ Err refusal)
  pub stops : StopsAtFile line words old refusal new

-- these are the bytes of the file that a word names, within this limit, if the files are reported
abbrev pub IsFile : ℕ → Option Files → List ℕ → Span → List ℕ → Type 0
IsFile limit told line file bytes = IfSome told (λ files. file_answer file.word limit (files (bytes_at line file)) ≡ Ok bytes)

-- the one file that is named, of this limit, is refused, and the count of misses rose
pub record RefusesFile (limit : ℕ) (line : List ℕ) (file : Span) (old : CabinetState) (refusal : Refusal) (new : CabinetState) : Type 0 where
  pub first : IfSome old.files (λ files. file_answer file.word limit (files (bytes_at line file)) ≡ Err refusal)
  pub named : IfSome (refused_word refusal) (λ word. file.word ≡ word)
  pub cause : MayRefuse limit old new refusal

-- ---- what is written

-- the last sector gets some metadata, between two flushes
pub record WritesMetadata (disk : DiskState) (events : List Event) : Type 0 where
  pub m : Metadata
  pub are : events ≡ replace_events disk m
