use Rattle.std.proofs.Common.{arith}
use Rattle.std.proofs.lemmas.Grind.{common_steps}
use Rattle.file_edge.proofs.file_disk.FileDisk.fail.Goals as goal

pub invariant_of-self : goal.invariant_of-self
invariant_of-self g c = grind (arith, common_steps) steps 400000

pub returns-clause-file : goal.returns-clause-file
returns-clause-file g c = grind (arith, common_steps) steps 400000

pub returns-clause-sectors : goal.returns-clause-sectors
returns-clause-sectors g c = grind (arith, common_steps) steps 400000

pub returns-clause-later : goal.returns-clause-later
returns-clause-later g c = grind (arith, common_steps) steps 400000

pub returns-clause-one : goal.returns-clause-one
returns-clause-one g c = grind (arith, common_steps) steps 400000

pub returns-clause-reads : goal.returns-clause-reads
returns-clause-reads g c = grind (arith, common_steps) steps 400000

pub returns-clause-unsynced : goal.returns-clause-unsynced
returns-clause-unsynced g c = grind (arith, common_steps) steps 400000
