-- One run of cipher blocks: its length, and that opening undoes sealing.
use Rattle.std.proofs.Common.{◌≡◌, ℕ, ◌%◌, List, length}
use Rattle.aes_core.specs.Schedule.{AreBytes}
pub use Rattle.aes_core.proofs.Lengths.{length-decrypt}
use Rattle.eli_base.specs.declared.algorithms.Cipher.{Cipher}
use Rattle.eli_base.specs.declared.algorithms.Cipher.TheVariants.{AesCbc, AesXts}
use Rattle.eli_base.specs.Keying.{Keying}
use Rattle.range_keys.specs.Keys.{first_key, second_key, iv, tweak}
use Rattle.range_keys.specs.Ring.{IsKeying}
use Rattle.sealing.specs.Runs.{sealed_by, opened_by, sealed_run, opened_run}
use Rattle.xts_mode.proofs.Tweaks.{xts_open-xts_seal}
pub use Rattle.xts_mode.proofs.Lengths.{length-masked, length-xts_seal, length-xts_open}
use Rattle.cbc_mode.proofs.Chain.{cbc_open-cbc_seal}
use Rattle.cbc_mode.proofs.Lengths.{length-cbc_seal}
use Rattle.sealing.proofs.Keys.{IsKey-first_key, IsState-iv}

length-sealed_by : (c : Cipher) (k : Keying) (offset : ℕ) (p : List ℕ) → IsKeying k → AreBytes p → length p % 16 ≡ 0 → length (sealed_by c k offset p) ≡ length p
length-sealed_by AesXts k offset p is small whole = length-xts_seal (first_key k offset) (second_key k offset) (tweak offset) p (IsKey-first_key k offset is).long whole
length-sealed_by AesCbc k offset p is small whole = length-cbc_seal (first_key k offset) (iv k offset) p (IsKey-first_key k offset is).long whole

pub length-sealed_run : (k : Keying) (offset : ℕ) (p : List ℕ) → IsKeying k → AreBytes p → length p % 16 ≡ 0 → length (sealed_run k offset p) ≡ length p
length-sealed_run k offset p is small whole = length-sealed_by k.cipher k offset p is small whole

opened-sealed_by : (c : Cipher) (k : Keying) (offset : ℕ) (p : List ℕ) → IsKeying k → AreBytes p → length p % 16 ≡ 0 → opened_by c k offset (sealed_by c k offset p) ≡ p
opened-sealed_by AesXts k offset p is small whole = xts_open-xts_seal (first_key k offset) (second_key k offset) p (tweak offset) (IsKey-first_key k offset is) small whole
opened-sealed_by AesCbc k offset p is small whole =
    cbc_open-cbc_seal (first_key k offset) (iv k offset) p (IsKey-first_key k offset is) (IsState-iv k offset).long (IsState-iv k offset).bytes small whole

pub opened-sealed_run : (k : Keying) (offset : ℕ) (p : List ℕ) → IsKeying k → AreBytes p → length p % 16 ≡ 0 → opened_run k offset (sealed_run k offset p) ≡ p
opened-sealed_run k offset p is small whole = opened-sealed_by k.cipher k offset p is small whole
