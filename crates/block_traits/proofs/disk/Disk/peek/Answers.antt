use Rattle.std.proofs.Common.{arith}
use Rattle.std.proofs.lemmas.Grind.{common_steps}
use Rattle.block_traits.proofs.disk.Disk.peek.Goals as goal

pub returns-clause-stand : goal.returns-clause-stand
returns-clause-stand g c = grind (arith, common_steps) steps 400000

pub returns-clause-stays : goal.returns-clause-stays
returns-clause-stays g c = grind (arith, common_steps) steps 400000
