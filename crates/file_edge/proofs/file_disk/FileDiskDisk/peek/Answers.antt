-- A look at a file that reports its sectors shows what its disk reports, and leaves it so.
use Rattle.std.proofs.Common.{◌≡◌, length, ap, rules, arith}
use Rattle.std.proofs.lemmas.Grind.{common_steps}
use Rattle.file_edge.specs.Told.{of_size, told_in}
use Rattle.file_edge.proofs.Same.{state-same}
use Rattle.file_edge.proofs.Telling.{gives_each}
use Rattle.file_edge.proofs.file_disk.FileDiskDisk.peek.Goals as goal

pub returns-in-Ok-clause-stand : goal.returns-in-Ok-clause-stand
returns-in-Ok-clause-stand g c =
    let same : length c.read_open.new.into ≡ length c.args.into.now = search rules in
    λ done. gives_each c.args.self.now.sectors c.args.first c.read_open.new.into (told_in g.F.ImageFile.told c.args.self.now.file) (omega (arith, same, c.requires.inside)) c.in-Ok.ensures.bytes

pub returns-in-Ok-clause-stays : goal.returns-in-Ok-clause-stays
returns-in-Ok-clause-stays g c = state-same c.args.self.now.sectors c.args.self.now.faults c.args.self.now.reads _ _ _ _ (ap (of_size c.args.self.now.sectors) c.read_open.ensures.told)

pub returns-in-Err-clause-stays : goal.returns-in-Err-clause-stays
returns-in-Err-clause-stays g c = state-same c.args.self.now.sectors c.args.self.now.faults c.args.self.now.reads _ _ _ _ (ap (of_size c.args.self.now.sectors) c.read_open.ensures.told)

pub invariant_of-self : goal.invariant_of-self
invariant_of-self g c = grind (arith, common_steps) steps 400000

pub returns-in-Ok-clause-placed : goal.returns-in-Ok-clause-placed
returns-in-Ok-clause-placed g c = grind (arith, common_steps) steps 400000

pub returns-in-Ok-clause-asks : goal.returns-in-Ok-clause-asks
returns-in-Ok-clause-asks g c = grind (arith, common_steps) steps 400000

pub returns-in-Ok-clause-unsynced : goal.returns-in-Ok-clause-unsynced
returns-in-Ok-clause-unsynced g c = grind (arith, common_steps) steps 400000

pub returns-in-Err-clause-stand : goal.returns-in-Err-clause-stand
returns-in-Err-clause-stand g c = grind (arith, common_steps) steps 400000

pub returns-in-Err-clause-placed : goal.returns-in-Err-clause-placed
returns-in-Err-clause-placed g c = grind (arith, common_steps) steps 400000

pub returns-in-Err-clause-asks : goal.returns-in-Err-clause-asks
returns-in-Err-clause-asks g c = grind (arith, common_steps) steps 400000

pub returns-in-Err-clause-unsynced : goal.returns-in-Err-clause-unsynced
returns-in-Err-clause-unsynced g c = grind (arith, common_steps) steps 400000
