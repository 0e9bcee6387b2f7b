-- The part of a logical sector that is one unit.
use Rattle.std.specs.Prelude.{◌≡◌, ℕ, ◌+◌, ◌-◌, ◌*◌, ◌%◌, ◌≤◌, min}
use Rattle.eli_base.specs.declared.algorithms.Auth.{Auth}
use Rattle.eli_base.specs.Units.{unit_bytes_of}

-- unit j of a logical sector of so many bytes has its bytes from start to end: at least one cipher block, whole ones,
-- and no more than a device sector has room for
pub record IsUnit (auth : Auth) (size j start end : ℕ) : Type 0 where
  pub starts : start ≡ unit_bytes_of auth * j
  pub at_least : 16 ≤ end - start
  pub at_most : end - start ≤ unit_bytes_of auth
  pub blocks : (end - start) % 16 ≡ 0
  pub order : start ≤ end
  pub within : end ≤ size
  pub bytes : end - start ≡ min (unit_bytes_of auth) (size - unit_bytes_of auth * j)
  pub next : end ≡ min (unit_bytes_of auth * (j + 1)) size
