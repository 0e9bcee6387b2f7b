use Rattle.std.proofs.Common.{arith}
use Rattle.std.proofs.lemmas.Grind.{common_steps}
use Rattle.nbd_session.proofs.session.close.Goals as goal

pub returns-clause-ok : goal.returns-clause-ok
returns-clause-ok g c = grind (arith, common_steps) steps 400000

pub returns-clause-err : goal.returns-clause-err
returns-clause-err g c = grind (arith, common_steps) steps 400000
