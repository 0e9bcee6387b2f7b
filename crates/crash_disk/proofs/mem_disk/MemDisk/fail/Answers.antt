use Rattle.std.proofs.Common.{arith}
use Rattle.std.proofs.lemmas.Grind.{common_steps}
use Rattle.crash_disk.proofs.mem_disk.MemDisk.fail.Goals as goal

pub returns-clause-after : goal.returns-clause-after
returns-clause-after c = grind (arith, common_steps) steps 400000

pub returns-clause-later : goal.returns-clause-later
returns-clause-later c = grind (arith, common_steps) steps 400000
