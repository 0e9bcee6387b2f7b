use Rattle.hmac_kdf.proofs.Bytes.{AreSoManyBytes-pbkdf2}
use Rattle.hmac_kdf.proofs.laws.derived_keys_are_bytes.Goals as goal

pub returns : goal.returns
returns c = λ password salt count. AreSoManyBytes-pbkdf2 password salt count
