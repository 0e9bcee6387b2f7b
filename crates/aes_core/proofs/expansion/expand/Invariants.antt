use Rattle.std.proofs.Common.{◌≡◌, ◌+◌, ◌-◌, ◌*◌, ◌++◌, replicate}
use Rattle.aes_core.specs.Aes.{expanded}
use Rattle.aes_core.proofs.expansion.expand.Given as goal

abbrev pub invariant-loop-n : goal.invariant-loop-n
invariant-loop-n l = l.w ≡ expanded l.key l.nk l.n ++ replicate (240 - 4 * (l.nk + l.n)) 0
