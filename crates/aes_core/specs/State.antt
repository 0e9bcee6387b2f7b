-- A state of AES: 16 bytes (FIPS 197, 3.4).
use Rattle.std.specs.Prelude.{◌≡◌, ℕ, ◌<◌, List, length, slice_index}

pub record IsState (s : List ℕ) : Type 0 where
  pub long : length s ≡ 16
  pub bytes : (k : ℕ) → slice_index s k < 256
