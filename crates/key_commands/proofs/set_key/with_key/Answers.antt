use Rattle.std.proofs.Common.{arith}
use Rattle.std.proofs.lemmas.Grind.{common_steps}
use Rattle.key_commands.proofs.set_key.with_key.Goals as goal

pub returns-clause-fields : goal.returns-clause-fields
returns-clause-fields c = grind (arith, common_steps) steps 400000

pub returns-clause-whole : goal.returns-clause-whole
returns-clause-whole c = grind (arith, common_steps) steps 400000

pub returns-clause-before : goal.returns-clause-before
returns-clause-before c = grind (arith, common_steps) steps 400000

pub returns-clause-master : goal.returns-clause-master
returns-clause-master c = grind (arith, common_steps) steps 400000
