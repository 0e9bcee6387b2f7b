use Rattle.std.proofs.Common.{◌≡◌, ◌+◌, ◌*◌, ◌/◌, ◌%◌, [], ◌∷◌, arith}
use Rattle.aes_core.proofs.Fill.{IsFilled-more, IsFilled-all}
use Rattle.aes_core.specs.Aes.{circulant_byte}
use Rattle.aes_core.proofs.steps.inverse_mix_columns.Goals as goal

pub loop-k-preserved : goal.loop-k-preserved
loop-k-preserved c =
    let own : c.loop-k.k / 4 * 4 + (c.loop-k.k + 0) % 4 ≡ c.loop-k.k = omega arith in
    IsFilled-more _ 16 _ _ _ (omega arith) c.loop-k.invariant (rw own c.unmixed_byte.ensures)

pub returns : goal.returns
returns c =
    let done : c.loop-k.k ≡ 16 = omega arith in
    IsFilled-all (circulant_byte (14 ∷ 11 ∷ 13 ∷ 9 ∷ []) c.args.s) 16 c.loop-k.out (rw done at c.loop-k.invariant)
