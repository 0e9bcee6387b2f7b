use Rattle.std.proofs.Common.{◌≡◌, ◌∷◌, [], length, arith, sym, ap, ◌∙◌}
use Rattle.aes_core.specs.Aes.{sub_bytes}
use Rattle.aes_core.proofs.Fill.{four}
use Rattle.aes_core.proofs.expansion.sub_word.Goals as goal

pub returns : goal.returns
returns c =
    let long : length c.args.w ≡ 4 = omega arith in
    (λ i. c.sbox.ensures i ∷ c.sbox-2.ensures i ∷ c.sbox-3.ensures i ∷ c.sbox-4.ensures i ∷ []) ∙ ap sub_bytes (sym (four c.args.w long))
