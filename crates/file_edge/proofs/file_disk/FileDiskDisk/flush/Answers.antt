-- What a sync leaves of a file that reports its sectors is logged by its disk.
use Rattle.std.proofs.Common.{◌∷◌, [], refl, arith}
use Rattle.std.proofs.lemmas.Grind.{common_steps}
use Rattle.block_traits.specs.declared.disk.Event.TheVariants.{Flush}
use Rattle.file_edge.proofs.Telling.{fails_left, logs_left}
use Rattle.file_edge.proofs.file_disk.FileDiskDisk.flush.Goals as goal

pub returns-in-Ok-clause-ok : goal.returns-in-Ok-clause-ok
returns-in-Ok-clause-ok g c =
    logs_left c.args.self.now.sectors 0 (Flush ∷ []) (Flush ∷ []) _ _ refl refl refl refl (omega arith) refl (omega arith) c.in-Ok.ensures.told

pub returns-in-Err-clause-err : goal.returns-in-Err-clause-err
returns-in-Err-clause-err g c =
    fails_left c.args.self.now.sectors 0 (Flush ∷ []) (Flush ∷ []) _ _ _ refl (rw (c.fail-in-Err.ensures.file, c.fail-in-Err.ensures.sectors) refl) c.fail-in-Err.ensures.sectors refl c.fail-in-Err.ensures.later c.fail-in-Err.ensures.one.least refl c.in-Err.ensures.told

pub returns-then-self-clause-ok : goal.returns-then-self-clause-ok
returns-then-self-clause-ok g c = grind (arith, common_steps) steps 400000

pub returns-then-self-clause-err : goal.returns-then-self-clause-err
returns-then-self-clause-err g c = grind (arith, common_steps)

pub returns-then-self-clause-faults : goal.returns-then-self-clause-faults
returns-then-self-clause-faults g c = grind (arith, common_steps) steps 400000

pub returns-then-self-clause-unasked : goal.returns-then-self-clause-unasked
returns-then-self-clause-unasked g c = grind (arith, common_steps) steps 400000

pub returns-then-self-clause-synced : goal.returns-then-self-clause-synced
returns-then-self-clause-synced g c = grind (arith, common_steps) steps 400000

pub returns-then-self-clause-stays : goal.returns-then-self-clause-stays
returns-then-self-clause-stays g c = grind (arith, common_steps) steps 400000

pub returns-then-self-clause-unsynced : goal.returns-then-self-clause-unsynced
returns-then-self-clause-unsynced g c = grind (arith, common_steps) steps 400000

pub returns-then-self-clause-asks : goal.returns-then-self-clause-asks
returns-then-self-clause-asks g c = grind (arith, common_steps) steps 400000

pub returns-then-self-clause-kept : goal.returns-then-self-clause-kept
returns-then-self-clause-kept g c = grind (arith, common_steps) steps 400000

pub invariant_of-self : goal.invariant_of-self
invariant_of-self g c = grind (arith, common_steps) steps 400000

pub invariant_of-self-in-Err : goal.invariant_of-self-in-Err
invariant_of-self-in-Err g c = grind (arith, common_steps) steps 400000

pub returns-in-Ok-clause-err : goal.returns-in-Ok-clause-err
returns-in-Ok-clause-err g c = grind (arith, common_steps) steps 400000

pub returns-in-Ok-clause-faults : goal.returns-in-Ok-clause-faults
returns-in-Ok-clause-faults g c = grind (arith, common_steps) steps 400000

pub returns-in-Ok-clause-unasked : goal.returns-in-Ok-clause-unasked
returns-in-Ok-clause-unasked g c = grind (arith, common_steps) steps 400000

pub returns-in-Ok-clause-synced : goal.returns-in-Ok-clause-synced
returns-in-Ok-clause-synced g c = grind (arith, common_steps) steps 400000

pub returns-in-Ok-clause-stays : goal.returns-in-Ok-clause-stays
returns-in-Ok-clause-stays g c = grind (arith, common_steps) steps 400000

pub returns-in-Ok-clause-unsynced : goal.returns-in-Ok-clause-unsynced
returns-in-Ok-clause-unsynced g c = grind (arith, common_steps) steps 400000

pub returns-in-Ok-clause-asks : goal.returns-in-Ok-clause-asks
returns-in-Ok-clause-asks g c = grind (arith, common_steps) steps 400000

pub returns-in-Ok-clause-kept : goal.returns-in-Ok-clause-kept
returns-in-Ok-clause-kept g c = grind (arith, common_steps) steps 400000

pub returns-in-Err-clause-ok : goal.returns-in-Err-clause-ok
returns-in-Err-clause-ok g c = grind (arith, common_steps) steps 400000

pub returns-in-Err-clause-faults : goal.returns-in-Err-clause-faults
returns-in-Err-clause-faults g c = grind (arith, common_steps) steps 400000

pub returns-in-Err-clause-unasked : goal.returns-in-Err-clause-unasked
returns-in-Err-clause-unasked g c = grind (arith, common_steps) steps 400000

pub returns-in-Err-clause-synced : goal.returns-in-Err-clause-synced
returns-in-Err-clause-synced g c = grind (arith, common_steps) steps 400000

pub returns-in-Err-clause-stays : goal.returns-in-Err-clause-stays
returns-in-Err-clause-stays g c = grind (arith, common_steps) steps 400000

pub returns-in-Err-clause-unsynced : goal.returns-in-Err-clause-unsynced
returns-in-Err-clause-unsynced g c = grind (arith, common_steps) steps 400000

pub returns-in-Err-clause-asks : goal.returns-in-Err-clause-asks
returns-in-Err-clause-asks g c = grind (arith, common_steps) steps 400000

pub returns-in-Err-clause-kept : goal.returns-in-Err-clause-kept
returns-in-Err-clause-kept g c = grind (arith, common_steps) steps 400000
