use Rattle.std.proofs.Common.{◌≡◌}
use Rattle.aes_core.specs.Schedule.{AreBytes}
use Rattle.aes_core.proofs.InPlace.{IsDone}
use Rattle.cbc_mode.specs.Cbc.{chained, sealed}
use Rattle.cbc_mode.proofs.cbc_seal.Given as goal

abbrev pub invariant-loop-j : goal.invariant-loop-j
invariant-loop-j l = record {
  chain : l.last ≡ chained l.k l.iv l.fn.block l.j;
  done : IsDone (sealed l.k l.iv l.fn.block) l.fn.block l.block l.j;
  bytes : AreBytes l.fn.block;
}
