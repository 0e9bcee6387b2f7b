use Rattle.std.proofs.Common.{◌≡◌, ◌*◌, length, arith, sym}
use Rattle.aes_core.proofs.Fill.{chunk-four}
use Rattle.aes_core.proofs.expansion.word.Goals as goal

pub returns : goal.returns
returns c =
    let long : length c.args.w.now ≡ 240 = omega arith in
    sym (chunk-four c.args.w.now (4 * c.args.i) (omega arith))
