-- A file whose sectors are those of a disk.
use Rattle.std.specs.Prelude.{ℕ, Option, Some, None}
use Rattle.std.proofs.Common.{◌≡◌, refl, subst, sym}
use Rattle.block_traits.specs.Content.{Content, IsContentOf}
use Rattle.block_traits.specs.Disk.{DiskState, FitsSize}
use Rattle.file_edge.specs.Told.{Told, contents}

-- what a file of so many sectors reports that hold this
abbrev pub told_from : (size : ℕ) (told : Option Content) → FitsSize size told → Option Told
told_from size None fits = None
told_from size (Some c) fits = let P : ℕ → Type 0 = λ n. IsContentOf n c in Some (record { content = c; fits = subst P (sym fits.sectors) fits })

abbrev pub told_of : DiskState → Option Told
told_of d = told_from d.size d.content d.well_formed.fits

pub contents-told_from : (size : ℕ) (told : Option Content) (fits : FitsSize size told) → contents (told_from size told fits) ≡ told
contents-told_from size None fits = refl
contents-told_from size (Some c) fits = refl
