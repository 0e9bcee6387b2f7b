use Rattle.std.proofs.Common.{[], ◌∷◌}
use Rattle.aes_core.specs.Aes.{circulant_byte}
use Rattle.aes_core.proofs.Fill.{IsFilled}
use Rattle.aes_core.proofs.steps.inverse_mix_columns.Given as goal

abbrev pub invariant-loop-k : goal.invariant-loop-k
invariant-loop-k l = IsFilled (circulant_byte (14 ∷ 11 ∷ 13 ∷ 9 ∷ []) l.s) 16 l.out l.k
