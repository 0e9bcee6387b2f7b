use Rattle.std.proofs.Common.{◌≡◌, ℕ, ◌<◌}
use Rattle.aes_core.specs.Aes.{after_inverse_rounds}
use Rattle.aes_planes.specs.Planes.{planes_of, unshift_in, turned}
use Rattle.aes_planes.specs.Blocks.{AreStates, block_at, vector_at}
use Rattle.aes_planes.proofs.rounds.decipher.Given as goal

abbrev pub invariant-loop-n : goal.invariant-loop-n
invariant-loop-n l = AreStates l.s × ((j : ℕ) → j < 8 → block_at (planes_of l.s) j ≡ unshift_in (turned (after_inverse_rounds l.fn.round_keys l.fn.count (vector_at l.fn.q j) l.n)))
