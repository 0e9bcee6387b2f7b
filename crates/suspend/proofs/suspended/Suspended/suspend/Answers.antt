use Rattle.std.proofs.Common.{arith}
use Rattle.std.proofs.lemmas.Grind.{common_steps}
use Rattle.suspend.proofs.suspended.Suspended.suspend.Goals as goal

pub invariant_of-result : goal.invariant_of-result
invariant_of-result g c = grind (arith, common_steps) steps 400000

pub returns-clause-kept : goal.returns-clause-kept
returns-clause-kept g c = grind (arith, common_steps) steps 400000

pub returns-clause-ok : goal.returns-clause-ok
returns-clause-ok g c = grind (arith, common_steps) steps 400000

pub returns-clause-err : goal.returns-clause-err
returns-clause-err g c = grind (arith, common_steps) steps 400000

pub returns-clause-unasked : goal.returns-clause-unasked
returns-clause-unasked g c = grind (arith, common_steps) steps 400000
