use Rattle.std.proofs.Common.{arith}
use Rattle.std.proofs.lemmas.Grind.{common_steps}
use Rattle.nbd_words.proofs.negotiation.transmission_flags.Goals as goal

pub returns-then-readonly : goal.returns-then-readonly
returns-then-readonly c = grind (arith, common_steps) steps 400000

pub returns-else-readonly : goal.returns-else-readonly
returns-else-readonly c = grind (arith, common_steps) steps 400000
