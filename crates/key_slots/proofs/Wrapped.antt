-- What is wrapped is a slot, by the definitions alone.
use Rattle.std.proofs.Common.{◌≡◌, ℕ, zero, suc, ◌/◌, inl, inr, List, [], ◌∷◌, length, take, refl, ◌∙◌, arith, length-append}
use Rattle.std.proofs.lemmas.List.{length-take-le}
use Rattle.std.specs.Int.{w64, to_be_bytes, byte_at, bytes_high_first}
use Rattle.std.specs.Prelude.{slice_index}
use Rattle.aes_core.specs.Schedule.{AreBytes, IsKey, IsKeyLength}
use Rattle.aes_core.proofs.Inverse.{IsState}
use Rattle.aes_core.proofs.KeyBytes.{AreBytes-append, AreBytes-cons, AreBytes-none, AreBytes-take, AreBytes-zeros, byte_at-lt}
use Rattle.cbc_mode.proofs.Chain.{cbc_open-cbc_seal, length-cbc_seal}
use Rattle.hmac_kdf.specs.Hmac.{hmac512}
use Rattle.hmac_kdf.proofs.Lengths.{length-hmac512}
use Rattle.sha2.specs.Sha512.{digest_bytes, sha512}
use Rattle.key_slots.specs.Slots.{IsKeyBits, IsSlotOf, check_code, slot_text, wrapped, wrapping_key, zero_vector}

-- each number of a code is a byte
AreBytes-high_first : (k n : ℕ) → AreBytes (bytes_high_first k n)
AreBytes-high_first zero n = AreBytes-none
AreBytes-high_first (suc k) n = AreBytes-cons (byte_at k n) (bytes_high_first k n) (byte_at-lt k n) (AreBytes-high_first k n)

AreBytes-digest : (h : List ℕ) (n : ℕ) → AreBytes (digest_bytes h n)
unfolding digest_bytes
AreBytes-digest h zero = AreBytes-none
AreBytes-digest h (suc n) = AreBytes-append (digest_bytes h n) (to_be_bytes w64 (slice_index h n)) (AreBytes-digest h n) (AreBytes-high_first 8 (slice_index h n))

AreBytes-hmac512 : (key message : List ℕ) → AreBytes (hmac512 key message)
unfolding hmac512 sha512
AreBytes-hmac512 key message = AreBytes-digest _ 8

IsState-zero_vector : IsState zero_vector
IsState-zero_vector = record { long = refl; bytes = AreBytes-zeros 16 }

-- the bytes of a key for each key length
long_for : (keylen : ℕ) (code : List ℕ) → IsKeyBits keylen → length code ≡ 64 → IsKeyLength (length (take (keylen / 8) code))
long_for keylen code bits long = elim bits [
  | inl e ↦ inl (length-take-le (keylen / 8) code (omega arith) ∙ omega arith)
  | inr more ↦ elim more [
    | inl e ↦ inr (inl (length-take-le (keylen / 8) code (omega arith) ∙ omega arith))
    | inr e ↦ inr (inr (length-take-le (keylen / 8) code (omega arith) ∙ omega arith))
  ]
]

IsKey-wrapping_key : (u : List ℕ) (keylen : ℕ) → IsKeyBits keylen → IsKey (wrapping_key u keylen)
IsKey-wrapping_key u keylen bits =
    let code : List ℕ = hmac512 u (0x01 ∷ []) in
    record { long = long_for keylen code bits (length-hmac512 u (0x01 ∷ [])); bytes = AreBytes-take (keylen / 8) code (AreBytes-hmac512 u (0x01 ∷ [])) }

length-slot_text : (u master : List ℕ) → length master ≡ 128 → length (slot_text u master) ≡ 192
length-slot_text u master long =
    let code_long = length-hmac512 (hmac512 u (0x00 ∷ [])) master in
    omega (arith, length-append master (check_code u master))

AreBytes-slot_text : (u master : List ℕ) → AreBytes master → AreBytes (slot_text u master)
AreBytes-slot_text u master small = AreBytes-append master (check_code u master) small (AreBytes-hmac512 (hmac512 u (0x00 ∷ [])) master)

pub IsSlotOf-wrapped : (master u : List ℕ) (keylen : ℕ) → IsKeyBits keylen → length master ≡ 128 → AreBytes master → IsSlotOf (wrapped master u keylen) u keylen master
IsSlotOf-wrapped master u keylen bits long small =
    let whole = length-slot_text u master long in
    record {
      text = cbc_open-cbc_seal (wrapping_key u keylen) zero_vector (slot_text u master) (IsKey-wrapping_key u keylen bits) refl (AreBytes-zeros 16)
          (AreBytes-slot_text u master small) (omega arith);
    }

pub length-wrapped : (master u : List ℕ) (keylen : ℕ) → IsKeyBits keylen → length master ≡ 128 → AreBytes master → length (wrapped master u keylen) ≡ 192
length-wrapped master u keylen bits long small =
    let whole = length-slot_text u master long in
    length-cbc_seal (wrapping_key u keylen) zero_vector (slot_text u master) (IsKey-wrapping_key u keylen bits) IsState-zero_vector
    (AreBytes-slot_text u master small) (omega arith)
    ∙ whole
