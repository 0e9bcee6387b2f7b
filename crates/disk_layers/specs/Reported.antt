-- What a layer reports of itself.
use Rattle.std.specs.Prelude.{ℕ, ◌<◌, ◌^◌, false, Option, Some, None}
use Rattle.std.specs.Coded.{Unit-prop}
use Rattle.block_traits.specs.Content.{Content}
use Rattle.block_traits.specs.Disk.{DiskState, FitsSize, IsWellFormed}
use Rattle.block_traits.proofs.Props.{IsContentOf-prop}

pub IsWellFormed-quiet : (size : ℕ) (told : Option Content) → size < 2 ^ 44 → FitsSize size told → IsWellFormed size false told
IsWellFormed-quiet size told bound fits = record { bound = bound; fits = fits; shown = λ h. absurd (cc h) }

-- a disk with this content, if it reports one, that shows no events
abbrev pub reported : (size faults reads : ℕ) (told : Option Content) → size < 2 ^ 44 → FitsSize size told → DiskState
reported size faults reads told bound fits = record {
  size = size;
  shows = false;
  content = told;
  faults = faults;
  reads = reads;
  well_formed = IsWellFormed-quiet size told bound fits;
}

-- a content fits a size in one way at most
pub FitsSize-prop : (size : ℕ) (told : Option Content) → IsProp (FitsSize size told)
FitsSize-prop size None = Unit-prop
FitsSize-prop size (Some c) = IsContentOf-prop size c
