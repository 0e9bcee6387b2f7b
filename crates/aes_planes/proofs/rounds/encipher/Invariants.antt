use Rattle.std.proofs.Common.{◌≡◌, ℕ, ◌<◌}
use Rattle.aes_core.specs.Aes.{after_rounds}
use Rattle.aes_planes.specs.Planes.{planes_of, half_sub, shift_in}
use Rattle.aes_planes.specs.Blocks.{AreStates, block_at, vector_at}
use Rattle.aes_planes.proofs.rounds.encipher.Given as goal

abbrev pub invariant-loop-n : goal.invariant-loop-n
invariant-loop-n l = AreStates l.s × ((j : ℕ) → j < 8 → block_at (planes_of l.s) j ≡ half_sub (shift_in (after_rounds l.fn.round_keys (vector_at l.fn.q j) l.n)))
