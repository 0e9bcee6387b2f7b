-- What values of the code hold by their types.
use Rattle.std.specs.Prelude.{◌≡◌, ℕ, List, length}
use Rattle.aes_core.specs.Schedule.{AreBytes}

-- a master key has 128 bytes
pub record IsMasterKey (master : List ℕ) : Type 0 where
  pub size : length master ≡ 128
  pub bytes : AreBytes master
