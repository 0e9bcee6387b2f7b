use Rattle.std.proofs.Common.{◌≡◌}
use Rattle.aes_core.specs.Aes.{after_rounds}
use Rattle.aes_core.proofs.steps.encipher.Given as goal

abbrev pub invariant-loop-n : goal.invariant-loop-n
invariant-loop-n l = l.s ≡ after_rounds l.keys l.fn.block l.n
