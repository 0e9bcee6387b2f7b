use Rattle.std.proofs.Common.{arith}
use Rattle.std.proofs.lemmas.Grind.{common_steps}
use Rattle.bio_queue.proofs.queue.least_free.Goals as goal

pub returns-then-tag-place-clause-gap : goal.returns-then-tag-place-clause-gap
returns-then-tag-place-clause-gap c = grind (arith, common_steps) steps 400000

pub returns-then-tag-place-clause-bound : goal.returns-then-tag-place-clause-bound
returns-then-tag-place-clause-bound c = grind (arith, common_steps) steps 400000

pub returns-clause-gap : goal.returns-clause-gap
returns-clause-gap c = grind (arith, common_steps) steps 400000

pub returns-clause-bound : goal.returns-clause-bound
returns-clause-bound c = grind (arith, common_steps) steps 400000
