use Rattle.std.proofs.Common.{arith}
use Rattle.std.proofs.lemmas.Grind.{common_steps}
use Rattle.nbd_run.proofs.words.attaches.Goals as goal

pub returns-in-Attach : goal.returns-in-Attach
returns-in-Attach c = grind (arith, common_steps) steps 400000

pub returns-in_default : goal.returns-in_default
returns-in_default c = grind (arith, common_steps)
