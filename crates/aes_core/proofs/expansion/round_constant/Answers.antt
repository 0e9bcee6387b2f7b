use Rattle.std.proofs.Common.{sym}
use Rattle.aes_core.proofs.Turns.{power_start, power_more}
use Rattle.aes_core.proofs.expansion.round_constant.Goals as goal

pub loop-n-init : goal.loop-n-init
loop-n-init c = sym power_start

pub loop-n-preserved : goal.loop-n-preserved
loop-n-preserved c = power_more c.loop-n.constant _ c.loop-n.n c.loop-n.invariant c.times_x-constant.ensures
