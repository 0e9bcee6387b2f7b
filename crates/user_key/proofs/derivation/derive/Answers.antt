use Rattle.std.proofs.Common.{arith}
use Rattle.std.proofs.lemmas.Grind.{common_steps}
use Rattle.user_key.proofs.derivation.derive.Goals as goal

pub returns-in-Some-default : goal.returns-in-Some-default
returns-in-Some-default c = grind (arith, common_steps)

pub returns-in-None-Given : goal.returns-in-None-Given
returns-in-None-Given c = grind (arith, common_steps) steps 400000

pub returns-in-None-Given-2 : goal.returns-in-None-Given-2
returns-in-None-Given-2 c = grind (arith, common_steps) steps 400000

pub returns-in-None-default : goal.returns-in-None-default
returns-in-None-default c = grind (arith, common_steps) steps 400000
