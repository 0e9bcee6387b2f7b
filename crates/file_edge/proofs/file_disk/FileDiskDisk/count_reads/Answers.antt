use Rattle.std.proofs.Common.{arith}
use Rattle.std.proofs.lemmas.Grind.{common_steps}
use Rattle.file_edge.proofs.file_disk.FileDiskDisk.count_reads.Goals as goal

pub invariant_of-self : goal.invariant_of-self
invariant_of-self g c = grind (arith, common_steps) steps 400000

pub returns-clause-asked : goal.returns-clause-asked
returns-clause-asked g c = grind (arith, common_steps) steps 400000

pub returns-clause-logs : goal.returns-clause-logs
returns-clause-logs g c = grind (arith, common_steps) steps 400000

pub returns-clause-file : goal.returns-clause-file
returns-clause-file g c = grind (arith, common_steps) steps 400000

pub returns-clause-faults : goal.returns-clause-faults
returns-clause-faults g c = grind (arith, common_steps) steps 400000

pub returns-clause-unsynced : goal.returns-clause-unsynced
returns-clause-unsynced g c = grind (arith, common_steps) steps 400000
