use Rattle.std.proofs.Common.{arith}
use Rattle.std.proofs.lemmas.Grind.{common_steps}
use Rattle.crash_disk.proofs.survivor.can_tear.Goals as goal

pub returns-else-not-is_torn-clause-good : goal.returns-else-not-is_torn-clause-good
returns-else-not-is_torn-clause-good c = grind (arith, common_steps) steps 400000

pub returns-else-not-is_torn-clause-bad : goal.returns-else-not-is_torn-clause-bad
returns-else-not-is_torn-clause-bad c = grind (arith, common_steps) steps 400000
