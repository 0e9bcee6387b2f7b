use Rattle.std.proofs.Common.{arith}
use Rattle.std.proofs.lemmas.Grind.{common_steps}
use Rattle.bio_queue.proofs.request.is_made_for.Goals as goal

pub returns-then-sector-there : goal.returns-then-sector-there
returns-then-sector-there g c = grind (arith, common_steps)

pub returns-else-sector-there : goal.returns-else-sector-there
returns-else-sector-there g c = grind (arith, common_steps) steps 400000
