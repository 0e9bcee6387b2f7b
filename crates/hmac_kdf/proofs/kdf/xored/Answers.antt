use Rattle.std.proofs.Common.{◌≡◌, arith}
use Rattle.hmac_kdf.proofs.Blocks.{xor_by_index}
use Rattle.hmac_kdf.proofs.kdf.xored.Goals as goal

pub returns : goal.returns
returns c =
    let done : c.loop-i.i ≡ 64 = omega arith in
    xor_by_index 64 _ _ _ c.loop-i.invariant.0 (omega arith) (omega arith) (rw done at c.loop-i.invariant.1)
