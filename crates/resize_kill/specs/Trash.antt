-- What a place of metadata is written over with, so that no pass leaves metadata.
use Rattle.std.specs.Prelude.{◌≡◌, ℕ, List, ◌++◌, length, map}
use Rattle.block_traits.specs.Overwriting.{zeros, passes_of}
use Rattle.block_traits.specs.Streams.{EntropyState, Takes}

-- five times 496 bytes
abbrev pub trash_size : ℕ
trash_size = 2480

-- a sector with zeros in place of the magic, and these bytes after them
abbrev pub without_magic : List ℕ → List ℕ
without_magic rest = zeros 16 ++ rest

-- the sectors of the six passes, in order: five have a piece of the random bytes after the zeros, the last has zeros
-- alone
unfoldable pub trash_sectors : List ℕ → List (List ℕ)
trash_sectors random = map without_magic (passes_of 496 random)

-- these are the random bytes of the passes, which were taken in one call
pub record TakesTrash (random : List ℕ) (old new : EntropyState) : Type 0 where
  pub size : length random ≡ trash_size
  pub taken : Takes random old new
