use Rattle.std.proofs.Common.{arith}
use Rattle.std.proofs.lemmas.Grind.{common_steps}
use Rattle.eli_metadata.proofs.format.is_served.Goals as goal

pub returns-in-5 : goal.returns-in-5
returns-in-5 c = grind (arith, common_steps) steps 400000

pub returns-in-7 : goal.returns-in-7
returns-in-7 c = grind (arith, common_steps) steps 400000

pub returns-in_default : goal.returns-in_default
returns-in_default c = grind (arith, common_steps) steps 400000

pub returns-in_default-2 : goal.returns-in_default-2
returns-in_default-2 c = grind (arith, common_steps) steps 400000
