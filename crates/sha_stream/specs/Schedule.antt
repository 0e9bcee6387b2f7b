-- Words of the message schedule of a block (FIPS 180-4, 6.2.2), four in a vector.
use Rattle.std.specs.Prelude.{◌≡◌, ℕ, ◌+◌, ◌<◌, List, slice_index}

-- the lanes of this vector are word t of the list and the three that follow it
abbrev pub AreWordsAt : List ℕ → ℕ → List ℕ → Type 0
AreWordsAt words t lanes = (j : ℕ) → j < 4 → slice_index lanes j ≡ slice_index words (t + j)
