use Rattle.std.proofs.Common.{arith}
use Rattle.std.proofs.lemmas.Grind.{common_steps}
use Rattle.eli_base.proofs.parameters.sector_size_ok.Goals as goal

pub returns-in-512-clause-answer : goal.returns-in-512-clause-answer
returns-in-512-clause-answer c = grind (arith, common_steps)

pub returns-in-512-clause-at_least : goal.returns-in-512-clause-at_least
returns-in-512-clause-at_least c = grind (arith, common_steps) steps 400000

pub returns-in-512-clause-at_most : goal.returns-in-512-clause-at_most
returns-in-512-clause-at_most c = grind (arith, common_steps) steps 400000

pub returns-in-512-clause-whole : goal.returns-in-512-clause-whole
returns-in-512-clause-whole c = grind (arith, common_steps) steps 400000

pub returns-in_default-clause-answer : goal.returns-in_default-clause-answer
returns-in_default-clause-answer c = grind (arith, common_steps) steps 400000

pub returns-in_default-clause-at_least : goal.returns-in_default-clause-at_least
returns-in_default-clause-at_least c = grind (arith, common_steps) steps 400000

pub returns-in_default-clause-at_most : goal.returns-in_default-clause-at_most
returns-in_default-clause-at_most c = grind (arith, common_steps) steps 400000

pub returns-in_default-clause-whole : goal.returns-in_default-clause-whole
returns-in_default-clause-whole c = grind (arith, common_steps) steps 400000
