-- The disks of images, each by what its name asks for, and how they are opened.
use Rattle.std.specs.Prelude.{◌≡◌, ◌⊎◌, ℕ, ◌+◌, ◌≤◌, ◌^◌, List, [], ◌∷◌, ◌++◌, length, codes, take, Bool, true, false, Option, None, Some, IfSome}
use Rattle.block_traits.specs.Content.{Content}
use Rattle.block_traits.specs.Disk.{DiskState}
use Rattle.block_traits.specs.declared.disk.Disk.{Ghosts}
use Rattle.disk_layers.specs.ConcatDisk as concat
use Rattle.disk_layers.specs.Joined.{joined_content, joined_history}
use Rattle.disk_layers.specs.Names.{IsBehind, IsJoin}
use Rattle.disk_layers.specs.WriteBehind as write_behind
use Rattle.disk_layers.specs.declared.concat.Concat.{Concat}
use Rattle.file_edge.specs.Asked.{Asked}
use Rattle.file_edge.specs.FileDisk.{AsksDisk, IsUnopened, OpensDisk, TellsFile}
use Rattle.file_edge.specs.Names.{IsRandom}
use Rattle.file_edge.specs.RandomFile.{AsksDevice, OpensDevice, left_in}
use Rattle.file_edge.specs.Told.{Told, contents, told_in}
use Rattle.file_edge.specs.declared.file_disk.FileDisk.{FileDisk}
use Rattle.file_edge.specs.declared.found.FileId.{FileId}
use Rattle.file_edge.specs.declared.image_file.ImageFile as image_file
use Rattle.file_edge.specs.declared.opener.Opener as opener
use Rattle.file_edge.specs.declared.random_file.RandomFile.{RandomFile}
use Rattle.image_layers.specs.declared.image_disks.ImageDisk.{ImageDisk}
use Rattle.image_layers.specs.declared.image_disks.ImageDisk.TheVariants.{Plain, Behind, Join}

-- ---- names

-- a name that asks for no layer
abbrev pub IsPlain : List ℕ → Type 0
IsPlain name = (IsBehind name → ⊥) × ((middle : ℕ) → IsJoin middle name → ⊥)

-- `behind:` and the name of a file
abbrev pub IsBehindOf : List ℕ → List ℕ → Type 0
IsBehindOf name rest = IsBehind name × (name ≡ codes "behind:" ++ rest)

-- `join:` and the names of two files
abbrev pub IsJoinOf : List ℕ → List ℕ → List ℕ → Type 0
IsJoinOf name left right = IsJoin (5 + length left) name × (name ≡ codes "join:" ++ left ++ 58 ∷ right)

-- the names of the files that an image of this name asks for
abbrev pub AsksFor : List ℕ → List (List ℕ) → Type 0
AsksFor name [] = ⊥
AsksFor name (file ∷ []) = (IsPlain name × (file ≡ name)) ⊎ IsBehindOf name file
AsksFor name (left ∷ right ∷ []) = IsJoinOf name left right
AsksFor name (first ∷ second ∷ third ∷ others) = ⊥

-- ---- disks

-- the file of a disk, if its name led to one
abbrev pub file_led_to : Option FileId → List FileId
file_led_to None = []
file_led_to (Some id) = id ∷ []

module _ {F : Type 0} {g : Ghosts (FileDisk F)} where
  -- what the disk of an image reports of itself
  abbrev pub image_disk_state : ImageDisk F g → DiskState
  image_disk_state (Plain disk) = g.state disk
  image_disk_state (Behind behind) = write_behind.behind_disk_of behind
  image_disk_state (Join both) = concat.concat_disk_of both

  -- whether room was wanting at the last write that failed: in the one file, or in that of two which failed
  abbrev pub image_wants_room : ImageDisk F g → Bool
  image_wants_room (Plain disk) = g.wants_room disk
  image_wants_room (Behind behind) = g.wants_room behind.under
  image_wants_room (Join both) = concat.wants_room_of both

  -- a disk for which 256 writes may wait, and none does; no call below was refused; what it reports is what the disk
  -- below does
  abbrev pub WaitsFor : FileDisk F → ImageDisk F g → Type 0
  WaitsFor disk (Behind behind) =
      (behind.under ≡ disk) × (length behind.waiting.items ≡ 0) × (behind.room ≡ 256) × (behind.clean ≡ true) × ((write_behind.behind_disk_of behind).content ≡ (g.state behind.under).content)
  WaitsFor disk (Plain other) = ⊥
  WaitsFor disk (Join both) = ⊥

  -- what two disks that were just made one report is what both do
  abbrev pub IsJoinedNew : Concat (FileDisk F) (FileDisk F) g g → Type 0
  IsJoinedNew both =
      (concat.concat_disk_of both).content ≡ joined_content (joined_history (g.state both.first).size (g.state both.first).content (g.state both.second).content) (g.state both.first).content (g.state both.second).content

  -- both disks as one, or, if they are too large for that, a disk of no file
  abbrev pub JoinsOrIsNone : FileDisk F → FileDisk F → ImageDisk F g → Type 0
  JoinsOrIsNone first second (Join both) = (both.first ≡ first) × (both.second ≡ second) × IsJoinedNew both
  JoinsOrIsNone first second (Plain disk) = (2 ^ 44 ≤ (g.state first).size + (g.state second).size) × IsUnopened None disk
  JoinsOrIsNone first second (Behind behind) = ⊥

  -- the disk reports all that its files report: that of one file what the file reports, that of two what both do
  abbrev pub TellsImage : (F → Option Told) → ImageDisk F g → Type 0
  TellsImage told (Plain disk) = TellsFile told disk
  TellsImage told (Behind behind) = TellsFile told behind.under × ((write_behind.behind_disk_of behind).content ≡ (g.state behind.under).content)
  TellsImage told (Join both) = TellsFile told both.first × TellsFile told both.second × IsJoinedNew both

module _ {F : Type 0} {g : Ghosts (FileDisk F)} (told : F → Option Told) where
  -- what the files of a disk report: the content of the one file, or of the first and then the second
  abbrev pub told_in_files : ImageDisk F g → Option Content
  told_in_files (Plain disk) = contents (told_in told disk.file)
  told_in_files (Behind behind) = contents (told_in told behind.under.file)
  told_in_files (Join both) =
      joined_content (joined_history (g.state both.first).size (contents (told_in told both.first.file)) (contents (told_in told both.second.file))) (contents (told_in told both.first.file)) (contents (told_in told both.second.file))

  -- this holds of what the files of a disk report, if they report their sectors
  abbrev pub IfFilesTell : ImageDisk F g → (Content → Type 0) → Type 0
  IfFilesTell disk P = IfSome (told_in_files disk) P

-- ---- openings

-- what opens files, and the files of the images so far
pub record Opening (O : Type 0) : Type 0 where
  pub opener : O
  pub files : List FileId

abbrev pub opening : {O : Type 0} → O → List FileId → Opening O
opening opener files = record { opener = opener; files = files }

module _ {O F : Type 0} (o : opener.Ghosts O F) (f : image_file.Ghosts F) (changes : Bool) where
  -- the disk of the file of this name, opened beside the files so far: nothing else is asked of the opener, the file is
  -- one of them from then on, and no call of the disk was made
  pub record OpensOne (name : List ℕ) (disk : FileDisk F) (old new : Opening O) : Type 0 where
    pub opens : OpensDisk f old.files changes o old.opener name disk
    pub told : o.told new.opener ≡ o.told old.opener
    pub asked : AsksDisk o.asked old.opener changes name new.opener
    pub others : new.files ≡ old.files ++ file_led_to disk.id
    pub faults : disk.faults ≡ 0
    pub reads : disk.reads ≡ 0
    pub unsynced : disk.unsynced ≡ false

  -- the disks of two files, one after the other
  pub record OpensBoth (left right : List ℕ) (first second : FileDisk F) (old new : Opening O) : Type 0 where
    pub between : Opening O
    pub one : OpensOne left first old between
    pub other : OpensOne right second between new

  -- `behind:` and more: the disk of the file of what follows, for which 256 writes may wait and none does; no call
  -- below was refused
  pub record OpensBehind (name : List ℕ) (disk : FileDisk F) (waits room : ℕ) (clean : Bool) (old new : Opening O) : Type 0 where
    pub rest : List ℕ
    pub behind : IsBehindOf name rest
    pub opens : OpensOne rest disk old new
    pub none : waits ≡ 0
    pub most : room ≡ 256
    pub unrefused : clean ≡ true

  -- `join:` and two names: the disks of both files
  pub record OpensJoin (name : List ℕ) (first second : FileDisk F) (old new : Opening O) : Type 0 where
    pub left : List ℕ
    pub right : List ℕ
    pub join : IsJoinOf name left right
    pub opens : OpensBoth left right first second old new

  -- two files that are too large for one disk, and a disk of no file in their place
  pub record OpensTooMuch (size : FileDisk F → ℕ) (name : List ℕ) (disk : FileDisk F) (old new : Opening O) : Type 0 where
    pub first : FileDisk F
    pub second : FileDisk F
    pub joined : OpensJoin name first second old new
    pub large : 2 ^ 44 ≤ size first + size second
    pub unopened : IsUnopened None disk

  module _ {g : Ghosts (FileDisk F)} where
    -- what two files are together
    abbrev pub OpensJoined : List ℕ → ImageDisk F g → Opening O → Opening O → Type 0
    OpensJoined name (Join both) old new = OpensJoin name both.first both.second old new
    OpensJoined name (Plain disk) old new = OpensTooMuch (λ d. (g.state d).size) name disk old new
    OpensJoined name (Behind behind) old new = ⊥

    -- the disk of an image of this name
    abbrev pub OpensImageDisk : List ℕ → ImageDisk F g → Opening O → Opening O → Type 0
    OpensImageDisk name (Plain disk) old new = (IsPlain name × OpensOne name disk old new) ⊎ OpensTooMuch (λ d. (g.state d).size) name disk old new
    OpensImageDisk name (Behind behind) old new = OpensBehind name behind.under (length behind.waiting.items) behind.room behind.clean old new
    OpensImageDisk name (Join both) old new = OpensJoin name both.first both.second old new

    -- the disks of images of these names, opened one after another
    abbrev pub OpensImages : List (List ℕ) → List (ImageDisk F g) → Opening O → Opening O → Type 0
    OpensImages [] [] old new = new ≡ old
    OpensImages (name ∷ names) (disk ∷ disks) old new = (next : Opening O) × OpensImageDisk name disk old next × OpensImages names disks next new
    OpensImages names disks old new = ⊥

module _ {O F : Type 0} {g : Ghosts (FileDisk F)} (o : opener.Ghosts O F) (f : image_file.Ghosts F) where
  -- what a run begins with: the images of these names are opened one after another, to be changed or not, and then the
  -- random bytes, which are those that are reported; nothing else is asked of what opens them, and names have what they
  -- had
  pub record OpensNamed (changes : Bool) (names : List (List ℕ)) (disks : List (ImageDisk F g)) (files : List FileId) (random : RandomFile F) (old new : O) : Type 0 where
    pub between : O
    pub images : OpensImages o f changes names disks (opening old []) (opening between files)
    pub device : OpensDevice o.answers between random
    pub left : IsRandom (o.told between) (left_in f.left random.device)
    pub told : o.told new ≡ o.told between
    pub asked : AsksDevice o.asked between new

-- ---- what is asked if there is no memory

module _ {O : Type 0} (log_of : O → Option (List Asked)) (changes : Bool) where
  -- the disks of the files of these names are asked for, one after another, and nothing else
  abbrev pub AsksFiles : List (List ℕ) → O → O → Type 0
  AsksFiles [] old new = log_of new ≡ log_of old
  AsksFiles (name ∷ names) old new = (next : O) × AsksDisk log_of old changes name next × AsksFiles names next new

  -- the first of the files of an image are asked for, and nothing else
  pub record AsksPart (name : List ℕ) (old new : O) : Type 0 where
    pub files : List (List ℕ)
    pub own : AsksFor name files
    pub count : ℕ
    pub asked : AsksFiles (take count files) old new

  -- all files of an image are asked for, and then `Then` holds
  pub record AsksAll (name : List ℕ) (Then : O → O → Type 0) (old new : O) : Type 0 where
    pub files : List (List ℕ)
    pub own : AsksFor name files
    pub next : O
    pub asked : AsksFiles files old next
    pub behind : Then next new

  -- all files of the images before one of these are asked for, one after another, and then the first of that one's;
  -- nothing else is
  abbrev pub AsksUpTo : List (List ℕ) → O → O → Type 0
  AsksUpTo [] old new = ⊥
  AsksUpTo (name ∷ names) old new = AsksPart name old new ⊎ AsksAll name (λ next new. AsksUpTo names next new) old new

  -- nothing is asked for, or the first of the files of these images, one after another, and nothing else
  abbrev pub AsksFirst : List (List ℕ) → O → O → Type 0
  AsksFirst names old new = (log_of new ≡ log_of old) ⊎ AsksUpTo names old new
