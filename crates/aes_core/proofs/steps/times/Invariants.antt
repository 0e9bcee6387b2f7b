use Rattle.std.proofs.Common.{◌≡◌, ◌-◌, bit_xor}
use Rattle.aes_core.specs.Field.{times_bits, times}
use Rattle.aes_core.proofs.steps.times.Given as goal

abbrev pub invariant-loop-i : goal.invariant-loop-i
invariant-loop-i l = bit_xor l.sum (times_bits l.power l.bits (8 - l.i)) ≡ times l.fn.a l.fn.b
