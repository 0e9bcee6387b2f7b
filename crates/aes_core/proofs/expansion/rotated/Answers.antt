use Rattle.std.proofs.Common.{◌≡◌, length, arith, sym, ap}
use Rattle.aes_core.specs.Aes.{rotated}
use Rattle.aes_core.proofs.Fill.{four}
use Rattle.aes_core.proofs.expansion.rotated.Goals as goal

pub returns : goal.returns
returns c =
    let long : length c.args.w ≡ 4 = omega arith in
    ap rotated (sym (four c.args.w long))
