use Rattle.std.proofs.Common.{◌≡◌, length, arith, sym}
use Rattle.aes_core.specs.Aes.{xor}
use Rattle.aes_core.proofs.Fill.{four}
use Rattle.aes_core.proofs.expansion.xor_word.Goals as goal

pub returns : goal.returns
returns c =
    let la : length c.args.a ≡ 4 = omega arith in
    let lb : length c.args.b ≡ 4 = omega arith in
    (λ i. xor (sym (four c.args.a la) i) (sym (four c.args.b lb) i))
