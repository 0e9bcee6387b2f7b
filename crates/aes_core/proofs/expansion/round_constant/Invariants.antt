use Rattle.std.proofs.Common.{◌≡◌}
use Rattle.aes_core.specs.Field.{power}
use Rattle.aes_core.proofs.expansion.round_constant.Given as goal

abbrev pub invariant-loop-n : goal.invariant-loop-n
invariant-loop-n l = l.constant ≡ power 2 l.n
