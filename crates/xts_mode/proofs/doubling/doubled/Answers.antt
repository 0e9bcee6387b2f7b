use Rattle.std.proofs.Common.{arith}
use Rattle.std.proofs.lemmas.Grind.{common_steps}
use Rattle.xts_mode.proofs.Halves.{doubled_list}
use Rattle.xts_mode.proofs.doubling.doubled.Goals as goal

pub returns-clause-value : goal.returns-clause-value
returns-clause-value c = doubled_list c.args.t c.fits-t.0 c.fits-t.1

pub returns-clause-long : goal.returns-clause-long
returns-clause-long c = grind (arith, common_steps)
