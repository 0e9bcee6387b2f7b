-- Which metadata a provider can be used by (g_eli.h, eli_metadata_decode and eli_metadata_crypto_supported; geli(8)).
use Rattle.std.specs.Prelude.{ℕ, ◌*◌, ◌^◌, nat_le, bit_and, Bool, ◌==◌, if◌then◌else◌, not, is_none, unwrap_or, List, [], ◌∷◌, Option, Some, None, Result, Ok, Err}
use Rattle.eli_base.specs.declared.algorithms.Auth.{Auth}
use Rattle.eli_base.specs.declared.algorithms.Auth.TheVariants.{Off, Sha256, Sha384, Sha512}
use Rattle.eli_base.specs.declared.algorithms.Cipher.{Cipher}
use Rattle.eli_base.specs.declared.algorithms.Cipher.TheVariants.{AesCbc, AesXts}
use Rattle.eli_base.specs.declared.parameters.Params.{Params}
use Rattle.eli_base.specs.Algorithms.{allows_length, auth_number, cipher_number}
use Rattle.eli_base.specs.Refusals.{first_that_holds}
use Rattle.eli_base.specs.SectorSize.{is_sector_size}
use Rattle.eli_metadata.specs.declared.metadata.Metadata.{Metadata}
use Rattle.eli_metadata.specs.declared.metadata.MetaFault.{MetaFault}
use Rattle.eli_metadata.specs.declared.metadata.MetaFault.TheVariants.{UnsupportedFlags, UnsupportedCipher, BadKeyLength, UnsupportedAuth, BadSectorSize, BadSize, NoValidKeys, KeyNumberOutOfRange, KeyNotSet}

-- what the metadata says of the data, in the types of the crates above
pub record Settings : Type 0 where
  pub version : ℕ
  pub auth : Auth
  pub cipher : Cipher
  pub keylen : ℕ
  pub sectorsize : ℕ
  pub provsize : ℕ
  pub readonly : Bool

abbrev pub settings_of : Params → Settings
settings_of p = record { version = p.version; auth = p.auth; cipher = p.cipher; keylen = p.keylen; sectorsize = p.sectorsize; provsize = p.provsize; readonly = p.readonly }

-- whether all these flags are clear
abbrev pub are_clear : ℕ → ℕ → Bool
are_clear flags mask = bit_and flags mask == 0

-- G_ELI_FLAG_AUTH, G_ELI_FLAG_RO
abbrev pub is_authenticated : Metadata → Bool
is_authenticated m = not (are_clear m.flags 0x10)

abbrev pub is_readonly : Metadata → Bool
is_readonly m = not (are_clear m.flags 0x20)

-- G_ELI_FLAG_ONETIME, and the flags that g_eli.h doesn't name
abbrev pub unsupported_flags : ℕ → ℕ
unsupported_flags flags = bit_and flags 0xFFFFFC01

-- the cipher of this number
abbrev pub cipher_of : ℕ → Option Cipher
cipher_of ealgo = if ealgo == cipher_number AesCbc then Some AesCbc else (if ealgo == cipher_number AesXts then Some AesXts else None)

-- the authentication of this number
abbrev pub auth_numbered : ℕ → Option Auth
auth_numbered aalgo =
    if aalgo == auth_number Sha256 then Some Sha256
    else (if aalgo == auth_number Sha384 then Some Sha384 else (if aalgo == auth_number Sha512 then Some Sha512 else None))

-- the authentication of the data; without the flag AUTH the number isn't read
abbrev pub auth_of : Metadata → Option Auth
auth_of m = if is_authenticated m then auth_numbered m.aalgo else Some Off

-- the cipher and the authentication of the data; for a number that names none they don't matter, since it is refused
abbrev pub cipher_in : Metadata → Cipher
cipher_in m = unwrap_or (cipher_of m.ealgo) AesXts

abbrev pub settings_in : Metadata → Settings
settings_in m = record {
  version = m.version;
  auth = unwrap_or (auth_of m) Off;
  cipher = cipher_in m;
  keylen = m.keylen;
  sectorsize = m.sectorsize;
  provsize = m.provsize;
  readonly = is_readonly m;
}

-- what is refused of metadata, in this order
abbrev pub unsupported : Metadata → List (Bool × MetaFault)
unsupported m =
    (not (unsupported_flags m.flags == 0), UnsupportedFlags (unsupported_flags m.flags))
    ∷ (is_none (cipher_of m.ealgo), UnsupportedCipher m.ealgo)
    ∷ (not (allows_length (cipher_in m) m.keylen), BadKeyLength m.keylen)
    ∷ (is_none (auth_of m), UnsupportedAuth m.aalgo)
    ∷ (not (is_sector_size m.sectorsize), BadSectorSize m.sectorsize)
    ∷ (nat_le (2 ^ 53) m.provsize, BadSize m.provsize 0)
    ∷ []

-- the value, unless there is a fault
abbrev pub unless : {T : Type 0} → Option MetaFault → T → Result T MetaFault
unless None value = Ok value
unless (Some fault) value = Err fault

-- the first refusal that holds, or the settings
unfoldable pub supported : Metadata → Result Settings MetaFault
supported m = unless (first_that_holds (unsupported m)) (settings_in m)

-- the provider's size is that of an image of so many device sectors
abbrev pub size_matches : Metadata → ℕ → Result (Unit {0}) MetaFault
size_matches m sectors = if m.provsize == 512 * sectors then Ok tt else Err (BadSize m.provsize (512 * sectors))

-- whether a slot holds a key
abbrev pub is_set : Metadata → ℕ → Bool
is_set m slot = not (bit_and m.keys (2 ^ slot) == 0)

-- the named slot holds a key
abbrev pub named_slot_opens : Metadata → Option ℕ → Result (Unit {0}) MetaFault
named_slot_opens m None = Ok tt
named_slot_opens m (Some slot) = if nat_le slot 1 then (if is_set m slot then Ok tt else Err (KeyNotSet slot)) else Err (KeyNumberOutOfRange slot)

-- some slot holds a key, and so does the named one
abbrev pub slot_matches : Metadata → Option ℕ → Result (Unit {0}) MetaFault
slot_matches m slot = if are_clear m.keys 3 then Err NoValidKeys else named_slot_opens m slot
