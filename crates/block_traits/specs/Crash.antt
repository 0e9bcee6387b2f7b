-- The images that a crash leaves of a disk. The last sector has the metadata, the others are data sectors.
use Rattle.std.specs.Prelude.{◌≡◌, ◌⊎◌, ℕ, ◌+◌, ◌<◌, List, [], length, get_or, slice_get, Some, All, Contains}
use Rattle.block_traits.specs.Content.{Content, IsSector, kept_values}

-- sector n holds one of its kept values
abbrev pub HoldsKept : Content → List (List ℕ) → ℕ → Type 0
HoldsKept c image n = Contains (kept_values c n) (get_or image n [])

-- sector n has more than one kept value
abbrev pub IsUnsettled : Content → ℕ → Type 0
IsUnsettled c n = 1 < length (kept_values c n)

-- as many sectors as the disk, of 512 bytes each
pub record IsSameSize (c : Content) (image : List (List ℕ)) : Type 0 where
  pub size : length image ≡ length c.base
  pub sectors : All IsSector image

-- each sector holds the kept value at the place that is chosen for it
pub record IsImage (c : Content) (choice : ℕ → ℕ) (image : List (List ℕ)) : Type 0 where
  pub size : length image ≡ length c.base
  pub values : (n : ℕ) → n < length c.base → slice_get (kept_values c n) (choice n) ≡ Some (get_or image n [])

-- a data sector that has more than one kept value may hold any bytes; every other sector holds a kept value
pub record IsTorn (c : Content) (image : List (List ℕ)) : Type 0 where
  pub same : IsSameSize c image
  pub others : (n : ℕ) → n + 1 < length c.base → HoldsKept c image n ⊎ IsUnsettled c n
  pub last : (n : ℕ) → n + 1 ≡ length c.base → HoldsKept c image n

-- data sectors may hold any bytes; the last sector holds a kept value
pub record IsAltered (c : Content) (image : List (List ℕ)) : Type 0 where
  pub same : IsSameSize c image
  pub last : (n : ℕ) → n + 1 ≡ length c.base → HoldsKept c image n
