use Rattle.sha2.specs.Sha512.{sha384}
use Rattle.hmac_kdf.specs.Hmac.{hmac384}
use Rattle.sha512_lanes.proofs.codes_of_four_384.Goals as goal

pub returns : goal.returns
unfolding sha384 hmac384
returns c = c.codes.ensures
