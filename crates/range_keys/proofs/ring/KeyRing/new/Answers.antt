use Rattle.std.proofs.Common.{arith}
use Rattle.std.proofs.lemmas.Grind.{common_steps}
use Rattle.range_keys.proofs.ring.KeyRing.new.Goals as goal

pub returns-in_err-new-clause-keying : goal.returns-in_err-new-clause-keying
returns-in_err-new-clause-keying c = grind (arith, common_steps) steps 400000

pub returns-in_err-new-clause-numbers : goal.returns-in_err-new-clause-numbers
returns-in_err-new-clause-numbers c = grind (arith, common_steps) steps 400000

pub returns-clause-keying : goal.returns-clause-keying
returns-clause-keying c = grind (arith, common_steps) steps 400000

pub returns-clause-numbers : goal.returns-clause-numbers
returns-clause-numbers c = grind (arith, common_steps) steps 400000
