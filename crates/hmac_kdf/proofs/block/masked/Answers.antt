use Rattle.std.proofs.Common.{◌≡◌, arith}
use Rattle.hmac_kdf.proofs.Blocks.{masked_by_index}
use Rattle.hmac_kdf.proofs.block.masked.Goals as goal

pub returns : goal.returns
returns g c =
    let done : c.loop-i.i ≡ g.row.N = omega arith in
    masked_by_index _ g.row.N _ _ c.loop-i.invariant.0 (omega arith) (rw done at c.loop-i.invariant.1)
