use Rattle.std.proofs.Common.{◌≡◌, ◌*◌, length}
use Rattle.aes_core.proofs.BlockLists.{AreBlocks}
use Rattle.aes_core.proofs.InPlace.{IsDone}
use Rattle.xts_mode.specs.Halves.{of_halves}
use Rattle.xts_mode.specs.Ways.{aes_by}
use Rattle.xts_mode.specs.Xts.{tweaked_block, tweak_at}
use Rattle.xts_mode.proofs.groups.cipher_twice.Given as goal

abbrev pub invariant-loop-g : goal.invariant-loop-g
invariant-loop-g l = record {
  long : length l.now ≡ 2;
  at : of_halves l.now ≡ tweak_at (of_halves l.fn.t) (8 * l.g);
  done : IsDone (tweaked_block (aes_by l.way l.k1) (of_halves l.fn.t) l.fn.group) l.fn.group l.group (8 * l.g);
  are : AreBlocks (tweaked_block (aes_by l.way l.k1) (of_halves l.fn.t) l.fn.group) (8 * l.g);
}
