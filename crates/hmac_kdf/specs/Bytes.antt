-- Lists of bytes.
use Rattle.std.specs.Prelude.{◌≡◌, ℕ, ◌<◌, List, length, slice_index}

-- so many numbers, each of which is a byte
pub record AreSoManyBytes (size : ℕ) (bytes : List ℕ) : Type 0 where
  pub long : length bytes ≡ size
  pub small : (k : ℕ) → slice_index bytes k < 256
