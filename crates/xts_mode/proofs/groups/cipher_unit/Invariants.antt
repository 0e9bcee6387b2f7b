use Rattle.std.proofs.Common.{◌≡◌, ◌*◌, length}
use Rattle.aes_core.proofs.InPlace.{IsDone}
use Rattle.xts_mode.specs.Halves.{of_halves}
use Rattle.xts_mode.specs.Ways.{aes_by}
use Rattle.xts_mode.specs.Xts.{tweak_at, first_tweak, tweaked_block}
use Rattle.xts_mode.proofs.groups.cipher_unit.Given as goal

abbrev pub invariant-loop-g : goal.invariant-loop-g
invariant-loop-g l = record {
  long : length l.t ≡ 2;
  at : of_halves l.t ≡ tweak_at (first_tweak l.k2 l.unit) (16 * l.g);
  done : IsDone (tweaked_block (aes_by l.way l.k1) (first_tweak l.k2 l.unit) l.fn.block) l.fn.block l.block (16 * l.g);
}
