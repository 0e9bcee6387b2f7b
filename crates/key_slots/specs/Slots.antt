-- The two slots of the metadata, each with the master key wrapped by a user key (g_eli.h, md_mkeys and md_keys;
-- g_eli_key.c).
use Rattle.std.specs.Prelude.{◌≡◌, ℕ, ◌+◌, ◌-◌, ◌*◌, ◌/◌, ◌^◌, ◌<◌, ◌⊎◌, ◌↔◌, Bool, IsTrue, List, [], ◌∷◌, ◌++◌, take, drop, replicate, bit_and, bit_or, Option, Some, None, if◌then◌else◌}
use Rattle.std.specs.Option.{option_or}
use Rattle.std.specs.Str.{bytes_eq}
use Rattle.cbc_mode.specs.Cbc.{cbc_seal, cbc_open}
use Rattle.eli_base.specs.declared.parameters.MasterKey.{MasterKey}
use Rattle.eli_metadata.specs.Checks.{is_set}
use Rattle.eli_metadata.specs.declared.metadata.Metadata.{Metadata}
use Rattle.hmac_kdf.specs.Hmac.{hmac512}

-- the key lengths of AES in bits; slots are wrapped by AES-CBC even if the data cipher is AES-XTS
abbrev pub IsKeyBits : ℕ → Type 0
IsKeyBits keylen = (keylen ≡ 128) ⊎ ((keylen ≡ 192) ⊎ (keylen ≡ 256))

-- ---- a slot's bytes, for a user key u of 64 bytes and a master key of 128

-- what proves that a master key was wrapped by this user key
abbrev pub check_code : List ℕ → List ℕ → List ℕ
check_code u master = hmac512 (hmac512 u (0x00 ∷ [])) master

-- the plaintext of a slot: 192 bytes
abbrev pub slot_text : List ℕ → List ℕ → List ℕ
slot_text u master = master ++ check_code u master

-- the key that enciphers the text
abbrev pub wrapping_key : List ℕ → ℕ → List ℕ
wrapping_key u keylen = take (keylen / 8) (hmac512 u (0x01 ∷ []))

abbrev pub zero_vector : List ℕ
zero_vector = replicate 16 0

-- the 192 bytes of a slot
abbrev pub wrapped : List ℕ → List ℕ → ℕ → List ℕ
wrapped master u keylen = cbc_seal (wrapping_key u keylen) zero_vector (slot_text u master)

-- the text that the bytes of a slot decipher to
abbrev pub deciphered_slot : List ℕ → List ℕ → ℕ → List ℕ
deciphered_slot bytes u keylen = cbc_open (wrapping_key u keylen) zero_vector bytes

-- these bytes are a slot with this master key, wrapped by the user key u for this key length
pub record IsSlotOf (bytes u : List ℕ) (keylen : ℕ) (master : List ℕ) : Type 0 where
  pub text : deciphered_slot bytes u keylen ≡ slot_text u master

-- ---- the slots in metadata

-- the 192 bytes of slot s
abbrev pub slot_bytes : Metadata → ℕ → List ℕ
slot_bytes m s = take 192 (drop (192 * s) m.mkeys)

-- slot s is set, and opens with the user key u to this master key
pub record Opens (m : Metadata) (u : List ℕ) (s : ℕ) (master : List ℕ) : Type 0 where
  pub set : IsTrue (is_set m s)
  pub slot : IsSlotOf (slot_bytes m s) u m.keylen master

-- slot s is the first that opens with the user key u, and it opens to this master key
pub record IsFirstToOpen (m : Metadata) (u : List ℕ) (s : ℕ) (master : List ℕ) : Type 0 where
  pub slot : s < 2
  pub opens : Opens m u s master
  pub before : (t : ℕ) → t < s → (other : List ℕ) → ¬ Opens m u t other

-- whether the code in a text of 192 bytes is that of the master key before it
abbrev pub has_code : List ℕ → List ℕ → Bool
has_code u text = bytes_eq (drop 128 text) (check_code u (take 128 text))

-- the master key in a text of 192 bytes, if the code after it is right
abbrev pub master_in : List ℕ → List ℕ → Option MasterKey
master_in u text = if has_code u text then Some (record { bytes = take 128 text }) else None

-- the master key to which slot s opens, if it opens
abbrev pub unwrapped : Metadata → List ℕ → ℕ → Option MasterKey
unwrapped m u s = if is_set m s then master_in u (deciphered_slot (slot_bytes m s) u m.keylen) else None

-- a master key with the number of its slot, if there is one
abbrev pub numbered : Option MasterKey → ℕ → Option (MasterKey × ℕ)
numbered None s = None
numbered (Some master) s = Some (master, s)

-- the master key and the number of the first slot that opens
abbrev pub unwrapped_any : Metadata → List ℕ → Option (MasterKey × ℕ)
unwrapped_any m u = option_or (numbered (unwrapped m u 0) 0) (numbered (unwrapped m u 1) 1)

-- the master key, and the number of its slot, that the user key u opens: of the named slot, or else of the first that
-- opens
abbrev pub opened : Metadata → List ℕ → Option ℕ → Option (MasterKey × ℕ)
opened m u None = unwrapped_any m u
opened m u (Some slot) = numbered (unwrapped m u slot) slot

-- slot s opens with the user key u to this master key, and it is the one that is named, or else the first that opens
abbrev pub OpensAsNamed : Metadata → List ℕ → Option ℕ → ℕ → List ℕ → Type 0
OpensAsNamed m u None s master = IsFirstToOpen m u s master
OpensAsNamed m u (Some slot) s master = (s ≡ slot) × Opens m u s master

-- ---- changes of a slot

-- the bytes of both slots, with these in the place of slot s
abbrev pub with_slot_bytes : List ℕ → ℕ → List ℕ → List ℕ
with_slot_bytes mkeys s bytes = take (192 * s) mkeys ++ bytes ++ drop (192 * s + 192) mkeys

-- the metadata with these bytes in slot s, which is then set
abbrev pub with_slot : Metadata → ℕ → List ℕ → Metadata
with_slot m s bytes = record m { keys = bit_or m.keys (2 ^ s); mkeys = with_slot_bytes m.mkeys s bytes }

-- the metadata with these bytes in slot s, which is then clear
abbrev pub without_slot : Metadata → ℕ → List ℕ → Metadata
without_slot m s bytes = record m { keys = bit_and m.keys (255 - 2 ^ s); mkeys = with_slot_bytes m.mkeys s bytes }

-- slot s has the same bytes, and is as set or as clear as before
pub record SameSlot (old new : Metadata) (s : ℕ) : Type 0 where
  pub set : is_set new s ≡ is_set old s
  pub bytes : slot_bytes new s ≡ slot_bytes old s

-- each user key opens slot s to the same master key as before, or to none as before
abbrev pub OpensAsBefore : Metadata → Metadata → ℕ → Type 0
OpensAsBefore old new s = (u master : List ℕ) → Opens old u s master ↔ Opens new u s master
