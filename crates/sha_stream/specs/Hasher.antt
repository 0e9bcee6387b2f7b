-- What a contract sees of the hasher: the message that it holds.
use Rattle.std.specs.Prelude.{ℕ, List}
use Rattle.sha2.specs.Sha256.{initial_hash_256}
use Rattle.sha2.specs.Sha256 as Kit
use Rattle.sha2.specs.declared.block256.Core256.{Core256}
use Rattle.sha_stream.specs.declared.hasher.Sha256.{Sha256}

-- the hasher as the kit's state of a message: hash value, bytes of the last block, count
abbrev pub core_of : Sha256 → Core256
core_of s = record { h = s.h; buffer = s.buffer; total = s.total }

-- the hasher holds the message m under SHA-256, as the kit says of its own
abbrev pub Holds256 : Sha256 → List ℕ → Type 0
Holds256 s m = Kit.Holds initial_hash_256 (core_of s) m
