-- What the units of a logical sector keep, whatever the authentication.
use Rattle.std.proofs.Common.{◌≡◌, ◌≢◌, ◌⊎◌, inl, inr, ℕ, ◌+◌, ◌-◌, ◌*◌, ◌%◌, ◌≤◌, min, refl, arith}
use Rattle.eli_base.specs.declared.algorithms.Auth.{Auth}
use Rattle.eli_base.specs.declared.algorithms.Auth.TheVariants.{Off, Sha256, Sha384, Sha512}
use Rattle.eli_base.specs.Units.{tag_bytes, unit_bytes_of, units_per_sector}

-- tag and data fill a device sector
pub tag_and_unit : (auth : Auth) → tag_bytes auth + unit_bytes_of auth ≡ 512
tag_and_unit Off = omega arith
tag_and_unit Sha256 = omega arith
tag_and_unit Sha384 = omega arith
tag_and_unit Sha512 = omega arith

-- each unit is whole cipher blocks
pub unit_whole : (auth : Auth) (size j : ℕ) → size % 512 ≡ 0 → min (unit_bytes_of auth) (size - unit_bytes_of auth * j) % 16 ≡ 0
unit_whole Off size j whole = omega arith
unit_whole Sha256 size j whole = omega arith
unit_whole Sha384 size j whole = omega arith
unit_whole Sha512 size j whole = omega arith

-- the units hold the logical sector
pub units_reach : (auth : Auth) (size : ℕ) → size ≤ unit_bytes_of auth * units_per_sector auth size
units_reach Off size = omega arith
units_reach Sha256 size = omega arith
units_reach Sha384 size = omega arith
units_reach Sha512 size = omega arith

-- there is authentication, or there is none
pub off_or_not : (auth : Auth) → (auth ≡ Off) ⊎ (auth ≢ Off)
off_or_not Off = inl refl
off_or_not Sha256 = inr (λ e. absurd (cc e))
off_or_not Sha384 = inr (λ e. absurd (cc e))
off_or_not Sha512 = inr (λ e. absurd (cc e))
