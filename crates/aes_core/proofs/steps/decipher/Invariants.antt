use Rattle.std.proofs.Common.{◌≡◌}
use Rattle.aes_core.specs.Aes.{after_inverse_rounds}
use Rattle.aes_core.proofs.steps.decipher.Given as goal

abbrev pub invariant-loop-n : goal.invariant-loop-n
invariant-loop-n l = l.s ≡ after_inverse_rounds l.keys l.count l.fn.block l.n
