use Rattle.std.proofs.Common.{arith}
use Rattle.std.proofs.lemmas.Grind.{common_steps}
use Rattle.nbd_session.proofs.served.serve_read.Goals as goal

pub returns-then-not-may_read-clause-answers : goal.returns-then-not-may_read-clause-answers
returns-then-not-may_read-clause-answers g c = grind (arith, common_steps)

pub returns-then-not-may_read-clause-kept : goal.returns-then-not-may_read-clause-kept
returns-then-not-may_read-clause-kept g c = grind (arith, common_steps) steps 400000

pub returns-clause-answers : goal.returns-clause-answers
returns-clause-answers g c = grind (arith, common_steps) steps 400000

pub returns-clause-kept : goal.returns-clause-kept
returns-clause-kept g c = grind (arith, common_steps) steps 400000
