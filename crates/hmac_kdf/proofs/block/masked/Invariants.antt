use Rattle.std.proofs.Common.{◌≡◌, ℕ, ◌<◌, length, get_or, bit_xor}
use Rattle.hmac_kdf.proofs.block.masked.Given as goal

abbrev pub invariant-loop-i : goal.invariant-loop-i
invariant-loop-i g l = (length l.out ≡ g.row.N) × ((k : ℕ) → k < l.i → get_or l.out k 0 ≡ bit_xor l.pad (get_or l.block k 0))
