use Rattle.std.proofs.Common.{◌≡◌, ◌*◌, ◌++◌, length}
use Rattle.aes_core.specs.Blocks.{block}
use Rattle.aes_core.proofs.InPlace.{IsDone}
use Rattle.cbc_mode.specs.Cbc.{opened_block}
use Rattle.cbc_mode.proofs.cbc_open_sliced.Given as goal

abbrev pub invariant-loop-g : goal.invariant-loop-g
invariant-loop-g l = record {
  long : length l.before ≡ 16;
  chain : l.before ≡ block (l.iv ++ l.fn.block) (16 * l.g);
  done : IsDone (opened_block l.k l.iv l.fn.block) l.fn.block l.block (16 * l.g);
}
