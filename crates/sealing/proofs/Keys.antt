-- The keys and initialization vectors of a keying are keys and blocks of bytes, and its codes are as long as tags.
use Rattle.std.proofs.Common.{◌≡◌, ℕ, ◌/◌, ◌⊎◌, inl, inr, List, ◌++◌, length, take, length-take-le, IsTrue, refl, ◌∙◌, arith}
use Rattle.std.proofs.lemmas.Grind.{common_steps}
use Rattle.eli_base.specs.Algorithms.{allows_length}
use Rattle.eli_base.specs.declared.algorithms.Auth.{Auth}
use Rattle.eli_base.specs.declared.algorithms.Auth.TheVariants.{Off, Sha256, Sha384, Sha512}
use Rattle.eli_base.specs.declared.algorithms.Cipher.{Cipher}
use Rattle.eli_base.specs.declared.algorithms.Cipher.TheVariants.{AesCbc, AesXts}
use Rattle.eli_base.specs.Keying.{Keying}
use Rattle.eli_base.specs.Units.{tag_bytes}
use Rattle.aes_core.specs.Schedule.{IsKey, IsKeyLength}
use Rattle.aes_core.proofs.Inverse.{IsState}
use Rattle.aes_core.proofs.KeyBytes.{AreBytes-take}
use Rattle.hmac_kdf.proofs.Bytes.{AreSoManyBytes-sha256, AreSoManyBytes-hmac512}
use Rattle.hmac_kdf.proofs.Lengths.{length-hmac256, length-hmac384, length-hmac512}
use Rattle.range_keys.specs.Keys.{range_key, first_key, iv, iv_key, le64, key_bytes}
use Rattle.range_keys.specs.Ring.{IsKeying}
use Rattle.sealing.specs.TaggedUnits.{hmac_of}
use Rattle.sha2.specs.Sha256.{sha256}
use Rattle.sha2.proofs.Facts256.{length-sha256}

bits_of : (c : Cipher) (keylen : ℕ) → IsTrue (allows_length c keylen) → (keylen ≡ 128) ⊎ ((keylen ≡ 192) ⊎ (keylen ≡ 256))
bits_of AesCbc keylen h = grind (arith, common_steps)
bits_of AesXts keylen h = grind (arith, common_steps)

key_long : (keylen : ℕ) (range : List ℕ) → length range ≡ 64 → (keylen ≡ 128) ⊎ ((keylen ≡ 192) ⊎ (keylen ≡ 256)) → IsKeyLength (length (take (keylen / 8) range))
key_long keylen range long h = elim h [
  | inl e ↦ inl (length-take-le (keylen / 8) range (omega arith) ∙ omega arith)
  | inr h2 ↦ elim h2 [
    | inl e ↦ inr (inl (length-take-le (keylen / 8) range (omega arith) ∙ omega arith))
    | inr e ↦ inr (inr (length-take-le (keylen / 8) range (omega arith) ∙ omega arith))
  ]
]

pub IsKey-first_key : (k : Keying) (offset : ℕ) → IsKeying k → IsKey (first_key k offset)
IsKey-first_key k offset is = record {
  long = key_long k.keylen (range_key k offset) (length-hmac512 _ _) (bits_of k.cipher k.keylen is.allowed);
  bytes = AreBytes-take (key_bytes k.keylen) (range_key k offset) (AreSoManyBytes-hmac512 _ _).small;
}

pub IsState-iv : (k : Keying) (offset : ℕ) → IsState (iv k offset)
IsState-iv k offset =
    let all : List ℕ = sha256 (iv_key k.master ++ le64 offset) in
    let long : length all ≡ 32 = length-sha256 _ in
    record { long = length-take-le 16 all (omega arith); bytes = AreBytes-take 16 all (AreSoManyBytes-sha256 _).small }

pub length-hmac_of : (auth : Auth) (key message : List ℕ) → length (hmac_of auth key message) ≡ tag_bytes auth
length-hmac_of Off key message = refl
length-hmac_of Sha256 key message = length-hmac256 key message
length-hmac_of Sha384 key message = length-hmac384 key message
length-hmac_of Sha512 key message = length-hmac512 key message
