-- What was ever at a place of the disk, and units that were forged.
use Rattle.std.specs.Prelude.{◌≡◌, ◌≢◌, ℕ, ◌*◌, ◌==◌, Bool, IsTrue, List, [], ◌∷◌, ◌++◌, map, get_or, if◌then◌else◌, Contains}
use Rattle.std.specs.Str.{bytes_eq}
use Rattle.block_traits.specs.declared.disk.Event.{Event}
use Rattle.block_traits.specs.declared.disk.Event.TheVariants as event
use Rattle.block_traits.specs.Content.{Content}
use Rattle.eli_base.specs.Keying.{Keying}
use Rattle.sealing.specs.TaggedUnits.{tag_of, kept_tag, cipher_text_in}
use Rattle.sealing.specs.Sectors.{unit_size_at, unit_reading_at}
use Rattle.readings.specs.Writings.{Writing, Raw, device_bytes}
use Rattle.readings.specs.Steps.{Step, Place, Flush}

-- the bytes that these events wrote to device sector n
abbrev pub written_to : List Event → ℕ → List (List ℕ)
written_to [] n = []
written_to (event.Write m bytes ∷ events) n = if m == n then bytes ∷ written_to events n else written_to events n
written_to (event.Flush ∷ events) n = written_to events n

-- the writings that these steps placed in device sector n
abbrev pub placed_at : List Step → ℕ → List Writing
placed_at [] n = []
placed_at (Place m w ∷ steps) n = if m == n then w ∷ placed_at steps n else placed_at steps n
placed_at (Flush ∷ steps) n = placed_at steps n

-- all that was ever in device sector n: its base, what was written there before the steps, and what they placed there
abbrev pub ever : Content → List Step → ℕ → List Writing
ever c steps n = map Raw (get_or c.base n [] ∷ written_to c.history n) ++ placed_at steps n

-- ---- the unit in device sector n, of a provider with authentication

-- the ciphertext that these bytes have as the unit in device sector n
abbrev pub cipher_text_at : Keying → ℕ → List ℕ → List ℕ
cipher_text_at k n bytes = cipher_text_in k (unit_size_at k n) bytes

-- whether the tag in these bytes is that of their ciphertext: then the unit is accepted
abbrev pub is_accepted : Keying → ℕ → List ℕ → Bool
is_accepted k n bytes = bytes_eq (kept_tag k bytes) (tag_of k (512 * n) (cipher_text_at k n bytes))

-- the writing is accepted there and has the ciphertext of these bytes
pub record HasCipherTextOf (k : Keying) (n : ℕ) (bytes : List ℕ) (w : Writing) : Type 0 where
  pub accepted : IsTrue (is_accepted k n (device_bytes w))
  pub cipher_text : cipher_text_at k n (device_bytes w) ≡ cipher_text_at k n bytes

-- the tag in these bytes is right for their ciphertext, and no accepted writing of the list has this ciphertext
pub record IsForged (k : Keying) (n : ℕ) (bytes : List ℕ) (ever : List Writing) : Type 0 where
  pub accepted : IsTrue (is_accepted k n bytes)
  pub new : (w : Writing) → Contains ever w → HasCipherTextOf k n bytes w → ⊥

-- the tag in these bytes is right for their ciphertext, and no accepted writing of the list has this tag
pub record HasNewTag (k : Keying) (n : ℕ) (bytes : List ℕ) (ever : List Writing) : Type 0 where
  pub accepted : IsTrue (is_accepted k n bytes)
  pub new : (w : Writing) → Contains ever w → IsTrue (is_accepted k n (device_bytes w)) → kept_tag k (device_bytes w) ≢ kept_tag k bytes

-- an accepted writing of the list has the tag of these bytes for another ciphertext: a collision of HMAC under one key
pub record CollidesWithOneOf (k : Keying) (n : ℕ) (bytes : List ℕ) (ever : List Writing) : Type 0 where
  pub member : Writing
  pub is_in : Contains ever member
  pub accepted : IsTrue (is_accepted k n (device_bytes member))
  pub differ : cipher_text_at k n (device_bytes member) ≢ cipher_text_at k n bytes
  pub same_tag : tag_of k (512 * n) (cipher_text_at k n (device_bytes member)) ≡ tag_of k (512 * n) (cipher_text_at k n bytes)

-- these bytes read as a writing of the list that is accepted and has their ciphertext
pub record ReadsAsOneOf (k : Keying) (n : ℕ) (bytes : List ℕ) (ever : List Writing) : Type 0 where
  pub member : Writing
  pub is_in : Contains ever member
  pub same : HasCipherTextOf k n bytes member
  pub reading : unit_reading_at k n bytes ≡ unit_reading_at k n (device_bytes member)
