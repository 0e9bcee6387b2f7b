use Rattle.std.proofs.Common.{arith}
use Rattle.std.proofs.lemmas.Grind.{common_steps}
use Rattle.key_commands.proofs.overwriting.without_keys.Goals as goal

pub returns-in-All : goal.returns-in-All
returns-in-All c = grind (arith, common_steps) steps 400000

pub returns-in-One : goal.returns-in-One
returns-in-One c = grind (arith, common_steps) steps 400000
