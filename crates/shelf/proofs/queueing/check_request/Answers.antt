use Rattle.std.proofs.Common.{arith}
use Rattle.std.proofs.lemmas.Grind.{common_steps}
use Rattle.shelf.proofs.queueing.check_request.Goals as goal

pub returns-then-has_request : goal.returns-then-has_request
returns-then-has_request g c = grind (arith, common_steps) steps 400000

pub returns-else-has_request : goal.returns-else-has_request
returns-else-has_request g c = grind (arith, common_steps) steps 400000
