-- What is read of a file that reports its sectors is what its disk reports.
use Rattle.std.proofs.Common.{[], refl, arith, rules}
use Rattle.std.proofs.lemmas.Grind.{common_steps}
use Rattle.file_edge.specs.Told.{told_in}
use Rattle.file_edge.proofs.Telling.{fails_same, gives_told, logs_same}
use Rattle.file_edge.proofs.file_disk.FileDiskDisk.read.Goals as goal

pub returns-in-Ok-clause-bytes : goal.returns-in-Ok-clause-bytes
returns-in-Ok-clause-bytes g c =
    gives_told c.args.self.now.sectors c.args.n _ (told_in g.F.ImageFile.told c.args.self.now.file) (search rules) c.requires c.in-Ok.ensures.bytes

pub returns-in-Ok-clause-ok : goal.returns-in-Ok-clause-ok
returns-in-Ok-clause-ok g c = logs_same c.args.self.now.sectors _ _ refl refl refl refl (omega arith) c.read_open.ensures.told

pub returns-in-Err-clause-err : goal.returns-in-Err-clause-err
returns-in-Err-clause-err g c =
    fails_same c.args.self.now.sectors [] _ _ refl (rw (c.fail.ensures.file, c.fail.ensures.sectors) refl) c.fail.ensures.sectors refl c.fail.ensures.later c.fail.ensures.one.least c.read_open.ensures.told

pub invariant_of-self : goal.invariant_of-self
invariant_of-self g c = grind (arith, common_steps) steps 400000

pub returns-in-Ok-clause-err : goal.returns-in-Ok-clause-err
returns-in-Ok-clause-err g c = grind (arith, common_steps) steps 400000

pub returns-in-Ok-clause-faults : goal.returns-in-Ok-clause-faults
returns-in-Ok-clause-faults g c = grind (arith, common_steps) steps 400000

pub returns-in-Ok-clause-asked : goal.returns-in-Ok-clause-asked
returns-in-Ok-clause-asked g c = grind (arith, common_steps) steps 400000

pub returns-in-Ok-clause-placed : goal.returns-in-Ok-clause-placed
returns-in-Ok-clause-placed g c = grind (arith, common_steps) steps 400000

pub returns-in-Ok-clause-asks : goal.returns-in-Ok-clause-asks
returns-in-Ok-clause-asks g c = grind (arith, common_steps) steps 400000

pub returns-in-Ok-clause-unsynced : goal.returns-in-Ok-clause-unsynced
returns-in-Ok-clause-unsynced g c = grind (arith, common_steps) steps 400000

pub returns-in-Err-clause-bytes : goal.returns-in-Err-clause-bytes
returns-in-Err-clause-bytes g c = grind (arith, common_steps) steps 400000

pub returns-in-Err-clause-ok : goal.returns-in-Err-clause-ok
returns-in-Err-clause-ok g c = grind (arith, common_steps) steps 400000

pub returns-in-Err-clause-faults : goal.returns-in-Err-clause-faults
returns-in-Err-clause-faults g c = grind (arith, common_steps) steps 400000

pub returns-in-Err-clause-asked : goal.returns-in-Err-clause-asked
returns-in-Err-clause-asked g c = grind (arith, common_steps) steps 400000

pub returns-in-Err-clause-placed : goal.returns-in-Err-clause-placed
returns-in-Err-clause-placed g c = grind (arith, common_steps) steps 400000

pub returns-in-Err-clause-asks : goal.returns-in-Err-clause-asks
returns-in-Err-clause-asks g c = grind (arith, common_steps) steps 400000

pub returns-in-Err-clause-unsynced : goal.returns-in-Err-clause-unsynced
returns-in-Err-clause-unsynced g c = grind (arith, common_steps) steps 400000
