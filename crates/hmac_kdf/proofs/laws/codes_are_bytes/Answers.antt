use Rattle.hmac_kdf.proofs.Bytes.{AreSoManyBytes-hmac256, AreSoManyBytes-hmac384, AreSoManyBytes-hmac512}
use Rattle.hmac_kdf.proofs.laws.codes_are_bytes.Goals as goal

pub returns : goal.returns
returns c = record { hmac256 = λ key m. AreSoManyBytes-hmac256 key m; hmac384 = λ key m. AreSoManyBytes-hmac384 key m; hmac512 = λ key m. AreSoManyBytes-hmac512 key m }
