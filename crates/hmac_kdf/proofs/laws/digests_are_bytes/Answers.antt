use Rattle.hmac_kdf.proofs.Bytes.{AreSoManyBytes-sha256, AreSoManyBytes-sha384, AreSoManyBytes-sha512}
use Rattle.hmac_kdf.proofs.laws.digests_are_bytes.Goals as goal

pub returns : goal.returns
returns c = record { sha256 = λ m. AreSoManyBytes-sha256 m; sha384 = λ m. AreSoManyBytes-sha384 m; sha512 = λ m. AreSoManyBytes-sha512 m }
