use Rattle.std.proofs.Common.{arith}
use Rattle.std.proofs.lemmas.Grind.{common_steps}
use Rattle.user_key.proofs.derivation.refusal.Goals as goal

pub returns-in-Without : goal.returns-in-Without
returns-in-Without c = grind (arith, common_steps) steps 400000

pub returns-in_default : goal.returns-in_default
returns-in_default c = grind (arith, common_steps) steps 400000

pub returns-in-Missing : goal.returns-in-Missing
returns-in-Missing c = grind (arith, common_steps) steps 400000

pub returns-in-Given : goal.returns-in-Given
returns-in-Given c = grind (arith, common_steps) steps 400000

pub returns-in-Without-2 : goal.returns-in-Without-2
returns-in-Without-2 c = grind (arith, common_steps) steps 400000

pub returns-in-Without-2-2 : goal.returns-in-Without-2-2
returns-in-Without-2-2 c = grind (arith, common_steps) steps 400000
