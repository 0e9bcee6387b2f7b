-- Disks that report the same.
use Rattle.std.specs.Coded.{Unit-prop}
use Rattle.std.proofs.Common.{◌≡◌, ℕ, false, Option, Some, None, ap, subst, sym}
use Rattle.std.proofs.Props.{props}
use Rattle.block_traits.specs.Content.{Content}
use Rattle.block_traits.specs.Disk.{DiskState, FitsSize, IsWellFormed}
use Rattle.block_traits.proofs.Props.{IsContentOf-prop}

FitsSize-prop : (size : ℕ) (told : Option Content) → IsProp (FitsSize size told)
FitsSize-prop size None = Unit-prop
FitsSize-prop size (Some c) = IsContentOf-prop size c

-- what a disk reports is well formed in one way at most
IsWellFormed-prop : (size : ℕ) (told : Option Content) → IsProp (IsWellFormed size false told)
IsWellFormed-prop size told = hlevel (props, FitsSize-prop)

-- a disk that shows no events
abbrev pub state_with : (size faults reads : ℕ) (told : Option Content) → IsWellFormed size false told → DiskState
state_with size faults reads told fits = record {
  size = size;
  shows = false;
  content = told;
  faults = faults;
  reads = reads;
  well_formed = fits;
}

pub state-same : (size faults reads : ℕ) (old new : Option Content) (fits : IsWellFormed size false old) (fits_new : IsWellFormed size false new)
    → new ≡ old → state_with size faults reads new fits_new ≡ state_with size faults reads old fits
state-same size faults reads old new fits fits_new same =
    let P : Option Content → Type 0 = λ c. (w : IsWellFormed size false c) → state_with size faults reads c w ≡ state_with size faults reads old fits in
    subst P (sym same) (λ w. ap (state_with size faults reads old) (IsWellFormed-prop size old w fits)) fits_new
