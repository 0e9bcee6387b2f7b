-- The three codes, each as HMAC over its hash function.
use Rattle.std.specs.Prelude.{◌≡◌, ℕ, List, refl}
use Rattle.sha2.specs.Sha256.{sha256}
use Rattle.sha2.specs.Sha512.{sha384, sha512}
use Rattle.hmac_kdf.specs.Hmac.{hmac, hmac256, hmac384, hmac512}

pub hmac256-is : (key message : List ℕ) → hmac256 key message ≡ hmac sha256 64 key message
unfolding hmac256
hmac256-is key message = refl

pub hmac384-is : (key message : List ℕ) → hmac384 key message ≡ hmac sha384 128 key message
unfolding hmac384
hmac384-is key message = refl

pub hmac512-is : (key message : List ℕ) → hmac512 key message ≡ hmac sha512 128 key message
unfolding hmac512
hmac512-is key message = refl
