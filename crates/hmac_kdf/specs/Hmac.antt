-- HMAC (RFC 2104) over SHA-256, SHA-384 and SHA-512 (FIPS 180-4), on whole lists of bytes.
use Rattle.std.specs.Prelude.{ℕ, ◌-◌, List, ◌++◌, length, map, replicate, bit_xor, nat_le, if◌then◌else◌}
use Rattle.sha2.specs.Sha256.{sha256}
use Rattle.sha2.specs.Sha512.{sha384, sha512}

-- these bytes, filled up with zeros to a block of this size
abbrev pub filled_block : ℕ → List ℕ → List ℕ
filled_block size bytes = bytes ++ replicate (size - length bytes) 0

-- the key as one block: a key longer than a block is replaced by its hash (section 2)
abbrev pub key_block : (List ℕ → List ℕ) → ℕ → List ℕ → List ℕ
key_block hash size key = filled_block size (if nat_le (length key) size then key else hash key)

-- the block with the byte ipad or opad added to each of its bytes, bit by bit (section 2, steps 2 and 5)
abbrev pub masked : ℕ → List ℕ → List ℕ
masked pad block = map (bit_xor pad) block

-- H (K xor opad, H (K xor ipad, message)), over a hash H with blocks of this size (section 2)
abbrev pub hmac : (List ℕ → List ℕ) → ℕ → List ℕ → List ℕ → List ℕ
hmac hash size key message =
    let block = key_block hash size key in hash (masked 0x5C block ++ hash (masked 0x36 block ++ message))

-- HMAC with SHA-256, of a key and a message
unfoldable pub hmac256 : List ℕ → List ℕ → List ℕ
hmac256 key message = hmac sha256 64 key message

-- HMAC with SHA-384, of a key and a message
unfoldable pub hmac384 : List ℕ → List ℕ → List ℕ
hmac384 key message = hmac sha384 128 key message

-- HMAC with SHA-512, of a key and a message
unfoldable pub hmac512 : List ℕ → List ℕ → List ℕ
hmac512 key message = hmac sha512 128 key message
