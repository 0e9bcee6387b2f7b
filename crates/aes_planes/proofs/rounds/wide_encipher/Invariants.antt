use Rattle.std.proofs.Common.{ℕ, ◌<◌}
use Rattle.aes_planes.specs.Wide.{AreWide, side}
use Rattle.aes_planes.proofs.BlockLaws.{IsAt}
use Rattle.aes_planes.proofs.rounds.wide_encipher.Given as goal

abbrev pub invariant-loop-n : goal.invariant-loop-n
invariant-loop-n l = AreWide l.s × ((i : ℕ) → i < 2 → IsAt l.fn.round_keys (side i l.fn.q) (side i l.s) l.n)
