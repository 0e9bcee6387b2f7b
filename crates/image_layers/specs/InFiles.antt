-- What a crash leaves of the files of an image, by what its disk reports.
use Rattle.std.specs.Prelude.{◌≡◌, ◌⊎◌, ℕ, ◌+◌, ◌-◌, ◌<◌, nat_lt, List, [], ◌++◌, length, get_or, All, Contains, if◌then◌else◌, IfSome, Option, Some, None}
use Rattle.block_traits.specs.Content.{Content, IsSector, kept_values}
use Rattle.block_traits.specs.Crash.{IsAltered, IsImage, IsTorn}
use Rattle.block_traits.specs.Disk.{DiskState}
use Rattle.block_traits.specs.declared.disk.Disk.{Ghosts}
use Rattle.file_edge.specs.Told.{Told, contents, told_in}
use Rattle.file_edge.specs.declared.file_disk.FileDisk.{FileDisk}
use Rattle.image_layers.specs.Images.{image_disk_state}
use Rattle.image_layers.specs.declared.image_disks.ImageDisk.{ImageDisk}
use Rattle.image_layers.specs.declared.image_disks.ImageDisk.TheVariants.{Plain, Behind, Join}

-- the values that sector n may hold if power fails now, if that is reported
abbrev pub kept_if_told : Option Content → ℕ → List (List ℕ)
kept_if_told None n = []
kept_if_told (Some c) n = kept_values c n

-- the values that a sector may hold where it stands: in the one file, or in the first, which has so many, or the second
abbrev pub kept_in_both : ℕ → Option Content → Option Content → ℕ → List (List ℕ)
kept_in_both size a b n = if nat_lt n size then kept_if_told a n else kept_if_told b (n - size)

-- ---- images of sectors by what each may hold

-- each sector holds a value that it may hold
pub record IsLeft (size : ℕ) (kept : ℕ → List (List ℕ)) (image : List (List ℕ)) : Type 0 where
  pub size_is : length image ≡ size
  pub values : (n : ℕ) → n < size → Contains (kept n) (get_or image n [])

-- a data sector that may hold more than one value may hold any bytes; every other sector holds a value that it may hold
pub record IsLeftTorn (size : ℕ) (kept : ℕ → List (List ℕ)) (image : List (List ℕ)) : Type 0 where
  pub size_is : length image ≡ size
  pub sectors : All IsSector image
  pub others : (n : ℕ) → n + 1 < size → Contains (kept n) (get_or image n []) ⊎ (1 < length (kept n))
  pub last : (n : ℕ) → n + 1 ≡ size → Contains (kept n) (get_or image n [])

-- data sectors may hold any bytes; the last sector holds a value that it may hold
pub record IsLeftAltered (size : ℕ) (kept : ℕ → List (List ℕ)) (image : List (List ℕ)) : Type 0 where
  pub size_is : length image ≡ size
  pub sectors : All IsSector image
  pub last : (n : ℕ) → n + 1 ≡ size → Contains (kept n) (get_or image n [])

-- whatever a crash leaves of sectors that may hold these values, it may leave of this content
pub record LeavesNoMore (kept : ℕ → List (List ℕ)) (c : Content) : Type 0 where
  pub whole : (image : List (List ℕ)) → IsLeft (length c.base) kept image → (choice : ℕ → ℕ) × IsImage c choice image
  pub torn : (image : List (List ℕ)) → IsLeftTorn (length c.base) kept image → IsTorn c image
  pub altered : (image : List (List ℕ)) → IsLeftAltered (length c.base) kept image → IsAltered c image

-- ---- what a power failure leaves of files, as one image

-- an image of a crash, if the content is reported
abbrev pub IsWholeOf : Option Content → List (List ℕ) → Type 0
IsWholeOf None image = ⊥
IsWholeOf (Some c) image = (choice : ℕ → ℕ) × IsImage c choice image

-- a torn one
abbrev pub IsTornOf : Option Content → List (List ℕ) → Type 0
IsTornOf None image = ⊥
IsTornOf (Some c) image = IsTorn c image

-- what is left of both of two files at the same moment, the first before the second
pub record IsOfBoth (One Other : List (List ℕ) → Type 0) (image : List (List ℕ)) : Type 0 where
  pub first : List (List ℕ)
  pub second : List (List ℕ)
  pub is : image ≡ first ++ second
  pub one : One first
  pub other : Other second

-- each of these images is one of sectors that hold what they may hold
pub record AreLeft (Whole Torn : List (List ℕ) → Type 0) (kept : ℕ → List (List ℕ)) (c : Content) : Type 0 where
  pub whole : (image : List (List ℕ)) → Whole image → IsLeft (length c.base) kept image
  pub torn : (image : List (List ℕ)) → Torn image → IsLeftTorn (length c.base) kept image

-- ---- the files of an image

module _ {F : Type 0} {g : Ghosts (FileDisk F)} (told : F → Option Told) where
  -- what a sector of the image may hold in the files
  abbrev pub kept_in_files : ImageDisk F g → ℕ → List (List ℕ)
  kept_in_files (Plain disk) n = kept_if_told (contents (told_in told disk.file)) n
  kept_in_files (Behind behind) n = kept_if_told (contents (told_in told behind.under.file)) n
  kept_in_files (Join both) n = kept_in_both (g.state both.first).size (contents (told_in told both.first.file)) (contents (told_in told both.second.file)) n

  -- what a crash leaves of the one file, or of both
  abbrev pub IsWholeOfFiles : ImageDisk F g → List (List ℕ) → Type 0
  IsWholeOfFiles (Plain disk) image = IsWholeOf (contents (told_in told disk.file)) image
  IsWholeOfFiles (Behind behind) image = IsWholeOf (contents (told_in told behind.under.file)) image
  IsWholeOfFiles (Join both) image = IsOfBoth (IsWholeOf (contents (told_in told both.first.file))) (IsWholeOf (contents (told_in told both.second.file))) image

  abbrev pub IsTornOfFiles : ImageDisk F g → List (List ℕ) → Type 0
  IsTornOfFiles (Plain disk) image = IsTornOf (contents (told_in told disk.file)) image
  IsTornOfFiles (Behind behind) image = IsTornOf (contents (told_in told behind.under.file)) image
  IsTornOfFiles (Join both) image = IsOfBoth (IsTornOf (contents (told_in told both.first.file))) (IsTornOf (contents (told_in told both.second.file))) image

  -- whatever a crash leaves of the files, it may leave of what the disk reports
  abbrev pub IsImageCovered : ImageDisk F g → Type 0
  IsImageCovered disk = IfSome (image_disk_state disk).content (LeavesNoMore (kept_in_files disk))

-- that holds of each disk of an image that is in this state
abbrev pub AreCovered : {F : Type 0} (g : Ghosts (FileDisk F)) (told : F → Option Told) → DiskState → Type 0
AreCovered {F} g told state = (disk : ImageDisk F g) → image_disk_state disk ≡ state → IsImageCovered told disk

-- that holds of each disk of an image
abbrev pub EachIsCovered : {F : Type 0} (g : Ghosts (FileDisk F)) (told : F → Option Told) → Type 0
EachIsCovered {F} g told = (disk : ImageDisk F g) → IsImageCovered told disk

-- If the disk of an image reports its content, each image that a crash leaves of its files holds in each sector what that
-- may hold where it stands.
abbrev pub EachIsLeft : {F : Type 0} (g : Ghosts (FileDisk F)) (told : F → Option Told) → Type 0
EachIsLeft {F} g told = (disk : ImageDisk F g) → IfSome (image_disk_state disk).content (AreLeft (IsWholeOfFiles told disk) (IsTornOfFiles told disk) (kept_in_files told disk))
