-- The keys under which the data of a GELI provider is enciphered, each by the byte offset on the device of what is
-- enciphered (g_eli.h, g_eli_key.c, g_eli_key_cache.c and g_eli_crypto.c; geli(8)).
use Rattle.std.specs.Prelude.{ℕ, ◌/◌, ◌^◌, List, [], ◌∷◌, ◌++◌, take, drop, codes, nat_lt, if◌then◌else◌}
use Rattle.std.specs.Int.{w64, to_le_bytes}
use Rattle.sha2.specs.Sha256.{sha256}
use Rattle.eli_base.specs.declared.algorithms.Auth.{Auth}
use Rattle.eli_base.specs.declared.algorithms.Auth.TheVariants.{Off}
use Rattle.eli_base.specs.declared.algorithms.Cipher.{Cipher}
use Rattle.eli_base.specs.declared.algorithms.Cipher.TheVariants.{AesCbc, AesXts}
use Rattle.eli_base.specs.Keying.{Keying}
use Rattle.hmac_kdf.specs.Hmac.{hmac512}

-- a number as eight bytes, least significant first
abbrev pub le64 : ℕ → List ℕ
le64 n = to_le_bytes w64 n

-- ---- the master key and what is made of it once

-- IV-Key, the first 64 bytes of the master key
abbrev pub iv_key : List ℕ → List ℕ
iv_key master = take 64 master

-- Data-Key, the bytes of the master key after IV-Key
abbrev pub data_key : List ℕ → List ℕ
data_key master = drop 64 master

-- the base key: Data-Key, or with authentication a code under it
abbrev pub base_key : Auth → List ℕ → List ℕ
base_key Off master = data_key master
base_key _ master = hmac512 (data_key master) (0x10 ∷ [])

-- the key of which range keys are made: the base key, or IV-Key if the metadata's version is below 7
abbrev pub range_base : ℕ → Auth → List ℕ → List ℕ
range_base version auth master = if nat_lt version 7 then iv_key master else base_key auth master

-- the authentication key, of which tag keys are made
abbrev pub auth_key : List ℕ → List ℕ
auth_key master = hmac512 (data_key master) (0x11 ∷ [])

-- ---- range keys

-- the block size by which offsets are numbered: the logical sector, or with authentication the device sector
abbrev pub numbered_block : Auth → ℕ → ℕ
numbered_block Off sectorsize = sectorsize
numbered_block _ sectorsize = 512

-- the key number of an offset: there is one range key for every 2 ^ 20 blocks
abbrev pub key_number : Keying → ℕ → ℕ
key_number k offset = offset / 2 ^ 20 / numbered_block k.auth k.sectorsize

-- the range key of a number, made of this range base: 64 bytes
abbrev pub numbered_key : List ℕ → ℕ → List ℕ
numbered_key base number = hmac512 base (codes "ekey" ++ le64 number)

-- the range key of an offset: that of its number
abbrev pub range_key : Keying → ℕ → List ℕ
range_key k offset = numbered_key (range_base k.version k.auth k.master) (key_number k offset)

-- the bytes of a key of so many bits
abbrev pub key_bytes : ℕ → ℕ
key_bytes keylen = keylen / 8

-- The key of the data in a range key: its first bytes. K1 of XTS (IEEE 1619, 5.1) and the one key of CBC.
abbrev pub first_part : ℕ → List ℕ → List ℕ
first_part keylen range = take (key_bytes keylen) range

-- K2 of XTS, the key of the tweak (IEEE 1619, 5.1): the bytes after those of K1. CBC has one key.
abbrev pub second_part : Cipher → ℕ → List ℕ → List ℕ
second_part AesXts keylen range = take (key_bytes keylen) (drop (key_bytes keylen) range)
second_part AesCbc keylen range = first_part keylen range

abbrev pub first_key : Keying → ℕ → List ℕ
first_key k offset = first_part k.keylen (range_key k offset)

abbrev pub second_key : Keying → ℕ → List ℕ
second_key k offset = second_part k.cipher k.keylen (range_key k offset)

-- ---- what else goes by the offset

-- the initialization vector of CBC: 16 bytes
abbrev pub iv : Keying → ℕ → List ℕ
iv k offset = take 16 (sha256 (iv_key k.master ++ le64 offset))

-- the number of the data unit of XTS (IEEE 1619, 5.1), which is enciphered as le64 and eight zero bytes
abbrev pub tweak : ℕ → ℕ
tweak offset = offset

-- the key of the tag of what stands at this offset: 32 bytes
abbrev pub tag_key : Keying → ℕ → List ℕ
tag_key k offset = sha256 (auth_key k.master ++ le64 offset)
