-- SHA-384 and SHA-512 are one function of a message but for the initial hash value and the bytes that are kept.
use Rattle.std.specs.Prelude.{ℕ, List, take}
use Rattle.sha2.specs.Sha512.{digest_bytes, final_hash}

-- the first n bytes of the hash value of a message, from the initial hash value h (6.4, 6.5)
abbrev pub first_bytes : ℕ → List ℕ → List ℕ → List ℕ
first_bytes n h message = take n (digest_bytes (final_hash h message) 8)
