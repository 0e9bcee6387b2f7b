use Rattle.std.proofs.Common.{◌≡◌, ◌*◌, ◌++◌, length}
use Rattle.aes_core.specs.Blocks.{block}
use Rattle.aes_core.proofs.BlockLists.{AreBlocks}
use Rattle.aes_core.proofs.InPlace.{IsDone}
use Rattle.cbc_mode.specs.Cbc.{opened_block}
use Rattle.cbc_mode.proofs.groups.open_twice.Given as goal

abbrev pub invariant-loop-g : goal.invariant-loop-g
invariant-loop-g l = record {
  long : length l.last ≡ 16;
  chain : l.last ≡ block (l.before ++ l.fn.group) (8 * l.g);
  done : IsDone (opened_block l.k l.before l.fn.group) l.fn.group l.group (8 * l.g);
  are : AreBlocks (opened_block l.k l.before l.fn.group) (8 * l.g);
}
