use Rattle.std.proofs.Common.{get_or, bit_xor}
use Rattle.aes_core.proofs.Fill.{IsFilled}
use Rattle.aes_core.proofs.blocks.xor.Given as goal

abbrev pub invariant-loop-i : goal.invariant-loop-i
invariant-loop-i l = IsFilled (λ k. bit_xor (get_or l.a k 0) (get_or l.b k 0)) 16 l.out l.i
