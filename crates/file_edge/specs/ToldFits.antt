-- What the disk of a file reports is well formed.
use Rattle.std.proofs.Common.{◌≡◌, ℕ, ◌<◌, ◌^◌, ◌==◌, length, Bool, true, false, cond, Option, Some, None, refl, subst}
use Rattle.std.proofs.lemmas.Bool.{eqb-true}
use Rattle.block_traits.specs.Content.{Content, IsContentOf}
use Rattle.block_traits.specs.Disk.{FitsSize, IsWellFormed}
use Rattle.file_edge.specs.Told.{Told, contents, of_size}

-- a content is reported, or isn't
FitsSize-if : (is : Bool) (size : ℕ) (c : Content) → (is ≡ true → IsContentOf size c) → FitsSize size (cond is (Some c) None)
FitsSize-if true size c fits = fits refl
FitsSize-if false size c fits = tt

FitsSize-told : (size : ℕ) (told : Option Told) → FitsSize size (of_size size (contents told))
FitsSize-told size None = tt
FitsSize-told size (Some t) =
    let P : ℕ → Type 0 = λ n. IsContentOf n t.content in
    FitsSize-if (length t.content.base == size) size t.content (λ same. subst P (eqb-true (length t.content.base) size same) t.fits)

pub IsWellFormed-told : (size : ℕ) (told : Option Told) → size < 2 ^ 44 → IsWellFormed size false (of_size size (contents told))
IsWellFormed-told size told small = record {
  bound = small;
  fits = FitsSize-told size told;
  shown = λ h. absurd (cc h);
}
