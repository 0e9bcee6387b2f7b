use Rattle.std.proofs.Common.{arith}
use Rattle.std.proofs.lemmas.Grind.{common_steps}
use Rattle.crash_disk.proofs.mem_disk.MemDisk.change.Goals as goal

pub returns-in-false-None-clause-answer : goal.returns-in-false-None-clause-answer
returns-in-false-None-clause-answer c = grind (arith, common_steps) steps 400000

pub returns-in-false-None-clause-after : goal.returns-in-false-None-clause-after
returns-in-false-None-clause-after c = grind (arith, common_steps) steps 400000

pub returns-in-false-None-clause-later : goal.returns-in-false-None-clause-later
returns-in-false-None-clause-later c = grind (arith, common_steps) steps 400000

pub returns-in-false-Some-true-clause-answer : goal.returns-in-false-Some-true-clause-answer
returns-in-false-Some-true-clause-answer c = grind (arith, common_steps) steps 400000

pub returns-in-false-Some-true-clause-after : goal.returns-in-false-Some-true-clause-after
returns-in-false-Some-true-clause-after c = grind (arith, common_steps) steps 400000

pub returns-in-false-Some-true-clause-later : goal.returns-in-false-Some-true-clause-later
returns-in-false-Some-true-clause-later c = grind (arith, common_steps) steps 400000

pub returns-in_default-clause-answer : goal.returns-in_default-clause-answer
returns-in_default-clause-answer c = grind (arith, common_steps) steps 400000

pub returns-in_default-clause-after : goal.returns-in_default-clause-after
returns-in_default-clause-after c = grind (arith, common_steps) steps 400000

pub returns-in_default-clause-later : goal.returns-in_default-clause-later
returns-in_default-clause-later c = grind (arith, common_steps) steps 400000
