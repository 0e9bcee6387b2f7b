use Rattle.std.proofs.Common.{arith}
use Rattle.aes_core.proofs.Boxes.{times_x_high}
use Rattle.aes_core.proofs.steps.times_x.Goals as goal

pub returns-else-a-lt128 : goal.returns-else-a-lt128
returns-else-a-lt128 c = times_x_high c.args.a (omega arith) (omega arith)
