-- What is known of metadata that were checked, and let through by the gates.
use Rattle.std.proofs.Common.{◌≡◌, ℕ, ◌*◌, ◌==◌, Bool, true, false, cond, Result, Ok, Err, IsTrue, arith, refl, sym, ap, ◌∙◌}
use Rattle.std.proofs.lemmas.Bool.{eqb-true}
use Rattle.std.proofs.lemmas.Grind.{common_steps}
use Rattle.eli_base.specs.declared.algorithms.Cipher.{Cipher}
use Rattle.eli_base.specs.declared.algorithms.Cipher.TheVariants.{AesCbc, AesXts}
use Rattle.eli_base.specs.Algorithms.{allows_length}
use Rattle.key_slots.specs.Slots.{IsKeyBits}
use Rattle.eli_base.specs.declared.parameters.Params.{Params}
use Rattle.eli_base.specs.Units.{media_sectors}
use Rattle.eli_metadata.specs.Checks.{settings_of, supported, is_readonly, size_matches}
pub use Rattle.eli_metadata.proofs.Supported.{said}
use Rattle.eli_metadata.specs.declared.metadata.Metadata.{Metadata}

-- a key length that a cipher allows is also allowed for wrapping slots
pub bits_allowed : (cipher : Cipher) (bits : ℕ) → IsTrue (allows_length cipher bits) → IsKeyBits bits
bits_allowed AesCbc bits allowed = grind (arith, common_steps)
bits_allowed AesXts bits allowed = grind (arith, common_steps)

tested : {T E : Type 0} (test : Bool) (r : Result T E) (fault : E) (x : T) → cond test r (Err fault) ≡ Ok x → test ≡ true
tested true r fault x h = refl
tested false r fault x h = absurd cc

-- the metadata have the size of the disk in bytes
size_is : (m : Metadata) (sectors : ℕ) → size_matches m sectors ≡ Ok tt → m.provsize ≡ 512 * sectors
size_is m sectors h = eqb-true m.provsize (512 * sectors) (tested (m.provsize == 512 * sectors) _ _ _ h)

-- what is known of a disk that is attached by metadata that were checked
pub record IsChecked (m : Metadata) (p : Params) (size : ℕ) : Type 0 where
  pub keylen : m.keylen ≡ p.keylen
  pub readonly : is_readonly m ≡ p.readonly
  pub provsize : p.provsize ≡ 512 * size
  pub media : media_sectors p.auth p.sectorsize p.provsize ≡ media_sectors p.auth p.sectorsize (512 * size)

pub checked : (m : Metadata) (p : Params) (size : ℕ) → supported m ≡ Ok (settings_of p) → size_matches m size ≡ Ok tt → IsChecked m p size
checked m p size good fits =
    let s = said m (settings_of p) good in
    let provsize : p.provsize ≡ 512 * size = sym s.provsize ∙ size_is m size fits in
    record { keylen = s.keylen; readonly = s.readonly; provsize = provsize; media = ap (media_sectors p.auth p.sectorsize) provsize }
