-- What a write of sectors leaves of a file that reports its sectors is logged by its disk.
use Rattle.std.proofs.Common.{refl, arith}
use Rattle.std.proofs.lemmas.Grind.{common_steps}
use Rattle.block_traits.specs.Disk.{write_events}
use Rattle.file_edge.proofs.Telling.{fails_left, logs_left, same_events}
use Rattle.file_edge.proofs.file_disk.FileDiskDisk.write_sectors.Goals as goal

pub returns-in-Ok-clause-ok : goal.returns-in-Ok-clause-ok
returns-in-Ok-clause-ok g c =
    logs_left c.args.self.now.sectors _ _ (write_events c.args.first c.args.from.now) _ _ refl refl refl refl (omega arith) (same_events c.args.first c.args.from.now) (omega (arith, c.requires.inside)) c.in-Ok.ensures.told

pub returns-in-Err-clause-err : goal.returns-in-Err-clause-err
returns-in-Err-clause-err g c =
    fails_left c.args.self.now.sectors _ _ (write_events c.args.first c.args.from.now) _ _ _ refl (rw (c.fail.ensures.file, c.fail.ensures.sectors) refl) c.fail.ensures.sectors refl c.fail.ensures.later c.fail.ensures.one.least (same_events c.args.first c.args.from.now) c.in-Err.ensures.told

pub invariant_of-self : goal.invariant_of-self
invariant_of-self g c = grind (arith, common_steps) steps 400000

pub returns-in-Ok-clause-err : goal.returns-in-Ok-clause-err
returns-in-Ok-clause-err g c = grind (arith, common_steps) steps 400000

pub returns-in-Ok-clause-faults : goal.returns-in-Ok-clause-faults
returns-in-Ok-clause-faults g c = grind (arith, common_steps) steps 400000

pub returns-in-Ok-clause-unasked : goal.returns-in-Ok-clause-unasked
returns-in-Ok-clause-unasked g c = grind (arith, common_steps) steps 400000

pub returns-in-Ok-clause-placed : goal.returns-in-Ok-clause-placed
returns-in-Ok-clause-placed g c = grind (arith, common_steps) steps 400000

pub returns-in-Ok-clause-unsynced : goal.returns-in-Ok-clause-unsynced
returns-in-Ok-clause-unsynced g c = grind (arith, common_steps) steps 400000

pub returns-in-Err-clause-ok : goal.returns-in-Err-clause-ok
returns-in-Err-clause-ok g c = grind (arith, common_steps) steps 400000

pub returns-in-Err-clause-faults : goal.returns-in-Err-clause-faults
returns-in-Err-clause-faults g c = grind (arith, common_steps) steps 400000

pub returns-in-Err-clause-unasked : goal.returns-in-Err-clause-unasked
returns-in-Err-clause-unasked g c = grind (arith, common_steps) steps 400000

pub returns-in-Err-clause-placed : goal.returns-in-Err-clause-placed
returns-in-Err-clause-placed g c = grind (arith, common_steps) steps 400000

pub returns-in-Err-clause-unsynced : goal.returns-in-Err-clause-unsynced
returns-in-Err-clause-unsynced g c = grind (arith, common_steps) steps 400000
