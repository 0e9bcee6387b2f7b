use Rattle.std.proofs.Common.{arith}
use Rattle.std.proofs.lemmas.Grind.{common_steps}
use Rattle.crash_disk.proofs.survivor.Keeping.add.Goals as goal

pub returns-then-m-n-clause-keeps : goal.returns-then-m-n-clause-keeps
returns-then-m-n-clause-keeps c = grind (arith, common_steps) steps 400000

pub returns-then-m-n-clause-count : goal.returns-then-m-n-clause-count
returns-then-m-n-clause-count c = grind (arith, common_steps) steps 400000

pub returns-else-m-n-clause-keeps : goal.returns-else-m-n-clause-keeps
returns-else-m-n-clause-keeps c = grind (arith, common_steps) steps 400000

pub returns-else-m-n-clause-count : goal.returns-else-m-n-clause-count
returns-else-m-n-clause-count c = grind (arith, common_steps) steps 400000

pub returns-in-Flush-clause-keeps : goal.returns-in-Flush-clause-keeps
returns-in-Flush-clause-keeps c = grind (arith, common_steps) steps 400000

pub returns-in-Flush-clause-count : goal.returns-in-Flush-clause-count
returns-in-Flush-clause-count c = grind (arith, common_steps) steps 400000
