use Rattle.std.proofs.Common.{◌≡◌}
use Rattle.aes_core.specs.Field.{power}
use Rattle.aes_core.proofs.steps.inverse.Given as goal

abbrev pub invariant-loop-n : goal.invariant-loop-n
invariant-loop-n l = l.power ≡ power l.a l.n
