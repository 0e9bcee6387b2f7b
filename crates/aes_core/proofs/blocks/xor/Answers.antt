use Rattle.std.proofs.Common.{◌≡◌, get_or, bit_xor, arith, refl, sym, ◌∙◌}
use Rattle.aes_core.proofs.Fill.{IsFilled-more, IsFilled-all, zip2-by_index}
use Rattle.aes_core.proofs.blocks.xor.Goals as goal

pub loop-i-preserved : goal.loop-i-preserved
loop-i-preserved c = IsFilled-more _ 16 _ _ _ (omega arith) c.loop-i.invariant refl

pub returns : goal.returns
returns c =
    let done : c.loop-i.i ≡ 16 = omega arith in
    IsFilled-all (λ k. bit_xor (get_or c.args.a k 0) (get_or c.args.b k 0)) 16 c.loop-i.out (rw done at c.loop-i.invariant)
    ∙ sym (zip2-by_index bit_xor c.args.a c.args.b 16 (omega arith) (omega arith))
