use Rattle.std.proofs.Common.{arith}
use lib.Bits.{xor_zero_r}
use Rattle.aes_core.proofs.Turns.{times_start, times_more, times_done, times_odd, times_even}
use Rattle.aes_core.proofs.steps.times.Goals as goal
use Rattle.aes_core.proofs.steps.times.Goals.{then-bits-eq1, else-bits-eq1}

pub loop-i-init : goal.loop-i-init
loop-i-init c = times_start c.args.a c.args.b

pub loop-i-preserved : goal.loop-i-preserved
loop-i-preserved c = elim c.if-bits-eq1.branch [
  | then-bits-eq1 w ↦
      rw (w.sum-is, c.times_x-power.ensures)
      (times_more c.loop-i.sum c.loop-i.power c.loop-i.power c.loop-i.bits c.loop-i.i _ (omega arith) c.loop-i.invariant (times_odd _ _ w.if-bits-eq1.true))
  | else-bits-eq1 w ↦
      rw (w.sum-is, c.times_x-power.ensures, ← xor_zero_r c.loop-i.sum)
      (times_more c.loop-i.sum 0 c.loop-i.power c.loop-i.bits c.loop-i.i _ (omega arith) c.loop-i.invariant (times_even _ _ w.if-bits-eq1.false))
]

pub returns : goal.returns
returns c = times_done c.loop-i.sum c.loop-i.power c.loop-i.bits c.loop-i.i _ (omega arith) c.loop-i.invariant
