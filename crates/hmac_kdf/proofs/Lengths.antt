-- How long the codes are, for whoever cuts them or puts them together.
use Rattle.std.proofs.Common.{◌≡◌, ℕ, List, length}
use Rattle.sha2.proofs.Facts256.{length-sha256}
use Rattle.sha2.proofs.Facts512.{length-sha384, length-sha512}
use Rattle.hmac_kdf.specs.Hmac.{hmac256, hmac384, hmac512}

pub length-hmac256 : (key message : List ℕ) → length (hmac256 key message) ≡ 32
unfolding hmac256
length-hmac256 key message = length-sha256 _

pub length-hmac384 : (key message : List ℕ) → length (hmac384 key message) ≡ 48
unfolding hmac384
length-hmac384 key message = length-sha384 _

pub length-hmac512 : (key message : List ℕ) → length (hmac512 key message) ≡ 64
unfolding hmac512
length-hmac512 key message = length-sha512 _
