-- Ciphers and authentications are told apart by their numbers.
use Rattle.std.proofs.Common.{◌≡◌, refl, arith}
use Rattle.eli_base.specs.Algorithms.{auth_number, cipher_number}
use Rattle.eli_base.specs.declared.algorithms.Auth.{Auth}
use Rattle.eli_base.specs.declared.algorithms.Auth.TheVariants.{Off, Sha256, Sha384, Sha512}
use Rattle.eli_base.specs.declared.algorithms.Cipher.{Cipher}
use Rattle.eli_base.specs.declared.algorithms.Cipher.TheVariants.{AesCbc, AesXts}

pub same_auth : (a b : Auth) → auth_number a ≡ auth_number b → a ≡ b
same_auth Off Off same = refl
same_auth Sha256 Sha256 same = refl
same_auth Sha384 Sha384 same = refl
same_auth Sha512 Sha512 same = refl
same_auth _ _ same = absurd (omega arith)

pub same_cipher : (a b : Cipher) → cipher_number a ≡ cipher_number b → a ≡ b
same_cipher AesCbc AesCbc same = refl
same_cipher AesXts AesXts same = refl
same_cipher _ _ same = absurd (omega arith)
