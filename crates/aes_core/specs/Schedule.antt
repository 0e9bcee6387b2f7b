-- A key, and its key schedule in 240 bytes (FIPS 197, 5.2).
use Rattle.std.specs.Prelude.{◌≡◌, ℕ, ◌+◌, ◌-◌, ◌*◌, ◌%◌, ◌<◌, ◌≤◌, ◌⊎◌, List, ◌++◌, length, take, replicate, slice_index}
use Rattle.aes_core.specs.Aes.{key_schedule, key_words}

-- the lengths of a key, in bytes (FIPS 197, 5)
abbrev pub IsKeyLength : ℕ → Type 0
IsKeyLength n = (n ≡ 16) ⊎ ((n ≡ 24) ⊎ (n ≡ 32))

-- each number of the list is a byte
abbrev pub AreBytes : List ℕ → Type 0
AreBytes xs = (k : ℕ) → slice_index xs k < 256

-- a key of AES: 16, 24 or 32 bytes
pub record IsKey (key : List ℕ) : Type 0 where
  pub long : IsKeyLength (length key)
  pub bytes : AreBytes key

-- the round keys of a key, with zeros after them up to 240 bytes
unfoldable pub padded_schedule : List ℕ → List ℕ
padded_schedule key = key_schedule key ++ replicate (240 - 16 * (key_words key + 7)) 0

-- these bytes are the round keys of the key of nk words that they begin with
pub record IsSchedule (keys : List ℕ) (nk : ℕ) : Type 0 where
  pub even : nk % 2 ≡ 0
  pub low : 4 ≤ nk
  pub high : nk ≤ 8
  pub long : length keys ≡ 240
  pub bytes : AreBytes keys
  pub expanded : keys ≡ padded_schedule (take (4 * nk) keys)
