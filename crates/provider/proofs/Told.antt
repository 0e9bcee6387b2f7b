-- Numbers that determine the values they were made from.
use Rattle.std.proofs.Common.{◌≡◌, ℕ, Bool, true, false, refl, arith}
use Rattle.eli_base.specs.Keying.{Keying}
use Rattle.eli_base.specs.Algorithms.{auth_number, cipher_number}
use Rattle.eli_base.proofs.Numbers.{same_auth, same_cipher}
use Rattle.provider.specs.Rest.{truth_number, rest_numbers}

truth-same : (a b : Bool) → truth_number a ≡ truth_number b → a ≡ b
truth-same false false h = refl
truth-same false true h = absurd (omega arith)
truth-same true false h = absurd (omega arith)
truth-same true true h = refl

pub rest-same : (k j : Keying) (slot other : ℕ) (readonly too : Bool) → rest_numbers k slot readonly ≡ rest_numbers j other too → (k ≡ j) × (slot ≡ other) × (readonly ≡ too)
rest-same k j slot other readonly too h =
    let truth : truth_number readonly ≡ truth_number too = cc in
    let slots : slot ≡ other = cc in
    let version : k.version ≡ j.version = cc in
    let auths : auth_number k.auth ≡ auth_number j.auth = cc in
    let ciphers : cipher_number k.cipher ≡ cipher_number j.cipher = cc in
    let keylen : k.keylen ≡ j.keylen = cc in
    let sectorsize : k.sectorsize ≡ j.sectorsize = cc in
    let master : k.master ≡ j.master = cc in
    let auth = same_auth k.auth j.auth auths in
    let cipher = same_cipher k.cipher j.cipher ciphers in (
      λ i. record { version = version i; auth = auth i; cipher = cipher i; keylen = keylen i; sectorsize = sectorsize i; master = master i },
      slots,
      truth-same readonly too truth,
    )
