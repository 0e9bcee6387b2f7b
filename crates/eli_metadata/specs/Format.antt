-- The metadata sector as a list of 512 bytes: g_eli.h, struct g_eli_metadata and eli_metadata_decode, versions 5, 6 and
-- 7. Numbers are little-endian, and the fields are packed.
use Rattle.std.specs.Prelude.{◌≡◌, ℕ, ◌<◌, ◌^◌, FitsSigned, ℤ, List, [], ◌∷◌, ◌++◌, length, take, drop, slice_index, bit_and, Bool, ◌==◌, ◌&&◌, ◌||◌, if◌then◌else◌, Result, Ok, Err}
use Rattle.std.specs.Int.{w32, cast_signed, cast_unsigned}
use Rattle.std.specs.Str.{bytes_eq}
use Rattle.byteorder.specs.Endian.{little_number, little_bytes}
use Rattle.md5.specs.Md5.{md5}
use Rattle.eli_metadata.specs.declared.metadata.Metadata.{Metadata}
use Rattle.eli_metadata.specs.declared.metadata.MetaFault.{MetaFault}
use Rattle.eli_metadata.specs.declared.metadata.MetaFault.TheVariants.{BadMagic, BadVersion, BadHash}

-- `GEOM::ELI` and seven zero bytes
unfoldable pub magic : List ℕ
magic = 71 ∷ 69 ∷ 79 ∷ 77 ∷ 58 ∷ 58 ∷ 69 ∷ 76 ∷ 73 ∷ 0 ∷ 0 ∷ 0 ∷ 0 ∷ 0 ∷ 0 ∷ 0 ∷ []

-- the n bytes at a place
abbrev pub field_at : List ℕ → ℕ → ℕ → List ℕ
field_at bytes place n = take n (drop place bytes)

-- the number of n bytes at a place
unfoldable pub number_at : List ℕ → ℕ → ℕ → ℕ
number_at bytes place n = little_number n (field_at bytes place n)

-- the number of four bytes at a place, as two's complement
unfoldable pub signed_at : List ℕ → ℕ → ℤ
signed_at bytes place = cast_signed w32 (number_at bytes place 4)

-- the fields by their places
unfoldable pub fields : List ℕ → Metadata
fields bytes = record {
  version = number_at bytes 16 4;
  flags = number_at bytes 20 4;
  ealgo = number_at bytes 24 2;
  keylen = number_at bytes 26 2;
  aalgo = number_at bytes 28 2;
  provsize = number_at bytes 30 8;
  sectorsize = number_at bytes 38 4;
  keys = slice_index bytes 42;
  iterations = signed_at bytes 43;
  salt = field_at bytes 47 64;
  mkeys = field_at bytes 111 384;
}

-- bytes 495 to 510 are the MD5 (RFC 1321) of bytes 0 to 494
abbrev pub decode_hashed : List ℕ → Result Metadata MetaFault
decode_hashed bytes = if bytes_eq (md5 (take 495 bytes)) (field_at bytes 495 16) then Ok (fields bytes) else Err BadHash

-- which versions are served: 7 and 6, and 5 without G_ELI_FLAG_AUTH
abbrev pub is_served : ℕ → ℕ → Bool
is_served version flags = version == 7 || version == 6 || (version == 5 && bit_and flags 0x10 == 0)

abbrev pub decode_versioned : List ℕ → ℕ → ℕ → Result Metadata MetaFault
decode_versioned bytes version flags = if is_served version flags then decode_hashed bytes else Err (BadVersion version)

-- What the bytes of a sector are: a fault, or the record of the fields. Byte 511 isn't read.
unfoldable pub metadata_in : List ℕ → Result Metadata MetaFault
metadata_in bytes = if bytes_eq (take 16 bytes) magic then decode_versioned bytes (number_at bytes 16 4) (number_at bytes 20 4) else Err BadMagic

-- each field is a number of its type
pub record HasFieldsInRange (m : Metadata) : Type 0 where
  pub version : m.version < 2 ^ 32
  pub flags : m.flags < 2 ^ 32
  pub ealgo : m.ealgo < 2 ^ 16
  pub keylen : m.keylen < 2 ^ 16
  pub aalgo : m.aalgo < 2 ^ 16
  pub provsize : m.provsize < 2 ^ 64
  pub sectorsize : m.sectorsize < 2 ^ 32
  pub iterations : FitsSigned w32 m.iterations

-- each field fits its type
pub record IsWhole (m : Metadata) : Type 0 where
  pub range : HasFieldsInRange m
  pub salt : length m.salt ≡ 64
  pub mkeys : length m.mkeys ≡ 384

-- the n bytes of a number
unfoldable pub number_bytes : ℕ → ℕ → List ℕ
number_bytes n x = little_bytes n x

-- the four bytes of a signed number
unfoldable pub signed_bytes : ℤ → List ℕ
signed_bytes z = number_bytes 4 (cast_unsigned w32 z)

-- the 47 bytes in front of the salt, in order
unfoldable pub number_fields : Metadata → List ℕ
number_fields m =
    magic ++ number_bytes 4 m.version ++ number_bytes 4 m.flags ++ number_bytes 2 m.ealgo ++ number_bytes 2 m.keylen ++ number_bytes 2 m.aalgo
    ++ number_bytes 8 m.provsize ++ number_bytes 4 m.sectorsize ++ (m.keys ∷ []) ++ signed_bytes m.iterations

-- the 495 bytes of the fields, in order
unfoldable pub field_bytes : Metadata → List ℕ
field_bytes m = number_fields m ++ m.salt ++ m.mkeys

-- the sector of a record: its fields, their MD5 and a zero byte
unfoldable pub encoded : Metadata → List ℕ
encoded m = field_bytes m ++ md5 (field_bytes m) ++ (0 ∷ [])
