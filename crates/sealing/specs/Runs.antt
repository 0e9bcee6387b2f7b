-- One run of whole cipher blocks at a byte offset of the device, under the keys of that offset (g_eli_crypto.c).
use Rattle.std.specs.Prelude.{ℕ, List}
use Rattle.eli_base.specs.declared.algorithms.Cipher.{Cipher}
use Rattle.eli_base.specs.declared.algorithms.Cipher.TheVariants.{AesCbc, AesXts}
use Rattle.eli_base.specs.Keying.{Keying}
use Rattle.cbc_mode.specs.Cbc.{cbc_seal, cbc_open}
use Rattle.xts_mode.specs.Xts.{xts_seal, xts_open}
use Rattle.range_keys.specs.Keys.{first_key, second_key, iv, tweak}

-- the ciphertext of a run by this cipher: XTS (IEEE 1619) or CBC (NIST SP 800-38A)
abbrev pub sealed_by : Cipher → Keying → ℕ → List ℕ → List ℕ
sealed_by AesXts k offset bytes = xts_seal (first_key k offset) (second_key k offset) (tweak offset) bytes
sealed_by AesCbc k offset bytes = cbc_seal (first_key k offset) (iv k offset) bytes

-- the plaintext of a run by this cipher
abbrev pub opened_by : Cipher → Keying → ℕ → List ℕ → List ℕ
opened_by AesXts k offset bytes = xts_open (first_key k offset) (second_key k offset) (tweak offset) bytes
opened_by AesCbc k offset bytes = cbc_open (first_key k offset) (iv k offset) bytes

-- the ciphertext of a run under this keying
abbrev pub sealed_run : Keying → ℕ → List ℕ → List ℕ
sealed_run k offset bytes = sealed_by k.cipher k offset bytes

-- the plaintext of a run under this keying
abbrev pub opened_run : Keying → ℕ → List ℕ → List ℕ
opened_run k offset bytes = opened_by k.cipher k offset bytes
