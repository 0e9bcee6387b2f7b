use Rattle.std.proofs.Common.{arith}
use Rattle.std.proofs.lemmas.Grind.{common_steps}
use Rattle.nbd_words.proofs.transmission.request_kind.Goals as goal

pub returns-in-0 : goal.returns-in-0
returns-in-0 c = grind (arith, common_steps) steps 400000

pub returns-in-1 : goal.returns-in-1
returns-in-1 c = grind (arith, common_steps) steps 400000

pub returns-in-2 : goal.returns-in-2
returns-in-2 c = grind (arith, common_steps) steps 400000

pub returns-in-3 : goal.returns-in-3
returns-in-3 c = grind (arith, common_steps) steps 400000

pub returns-in-6 : goal.returns-in-6
returns-in-6 c = grind (arith, common_steps) steps 400000

pub returns-in_default : goal.returns-in_default
returns-in_default c = grind (arith, common_steps) steps 400000
