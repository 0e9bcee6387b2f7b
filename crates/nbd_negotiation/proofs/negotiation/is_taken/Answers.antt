use Rattle.std.proofs.Common.{arith}
use Rattle.std.proofs.lemmas.Grind.{common_steps}
use Rattle.nbd_negotiation.proofs.negotiation.is_taken.Goals as goal

pub returns-then-client : goal.returns-then-client
returns-then-client c = grind (arith, common_steps) steps 400000

pub returns-else-client : goal.returns-else-client
returns-else-client c = grind (arith, common_steps) steps 400000

pub returns-else-option-le-INFO_LIMIT : goal.returns-else-option-le-INFO_LIMIT
returns-else-option-le-INFO_LIMIT c = grind (arith, common_steps) steps 400000
