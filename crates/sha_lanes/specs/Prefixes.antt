-- Hashes that begin with the same block.
use Rattle.std.specs.Prelude.{◌≡◌, ℕ, List, length}
use Rattle.sha2.specs.Sha256.{compress, initial_hash_256}
use Rattle.sha_lanes.specs.declared.prefix.Prefix.{Prefix}

-- these bytes are a block, and the prefix has the hash value after it (FIPS 180-4, 6.2.2)
pub record BeginsWith (prefix : Prefix) (bytes : List ℕ) : Type 0 where
  pub long : length bytes ≡ 64
  pub hashed : prefix.value ≡ compress initial_hash_256 bytes
