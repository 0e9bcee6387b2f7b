-- Ciphers and authentications: their key lengths, and their numbers in the metadata.
use Rattle.std.specs.Prelude.{ℕ, Bool, ◌==◌, ◌||◌}
use Rattle.eli_base.specs.declared.algorithms.Auth.{Auth}
use Rattle.eli_base.specs.declared.algorithms.Auth.TheVariants.{Off, Sha256, Sha384, Sha512}
use Rattle.eli_base.specs.declared.algorithms.Cipher.{Cipher}
use Rattle.eli_base.specs.declared.algorithms.Cipher.TheVariants.{AesCbc, AesXts}

-- whether a cipher takes a key of so many bits: geli(8), option -l; FIPS 197 for the three lengths of AES,
-- IEEE 1619 for the two of XTS
abbrev pub allows_length : Cipher → ℕ → Bool
allows_length AesCbc bits = bits == 128 || bits == 192 || bits == 256
allows_length AesXts bits = bits == 128 || bits == 256

-- cryptodev.h: CRYPTO_AES_CBC is 11 and CRYPTO_AES_XTS 22
abbrev pub cipher_number : Cipher → ℕ
cipher_number AesCbc = 11
cipher_number AesXts = 22

-- cryptodev.h: CRYPTO_SHA2_256_HMAC is 18, CRYPTO_SHA2_384_HMAC 19 and CRYPTO_SHA2_512_HMAC 20; 0 for no authentication
abbrev pub auth_number : Auth → ℕ
auth_number Off = 0
auth_number Sha256 = 18
auth_number Sha384 = 19
auth_number Sha512 = 20
