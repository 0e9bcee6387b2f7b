use Rattle.std.proofs.Common.{arith}
use Rattle.std.proofs.lemmas.Grind.{common_steps}
use Rattle.image_layers.proofs.any_disk.ImageDiskDisk.flush.Goals as goal

pub returns-in-Plain-clause-ok : goal.returns-in-Plain-clause-ok
returns-in-Plain-clause-ok g c = grind (arith, common_steps) steps 400000

pub returns-in-Plain-clause-err : goal.returns-in-Plain-clause-err
returns-in-Plain-clause-err g c = grind (arith, common_steps) steps 400000

pub returns-in-Plain-clause-unasked : goal.returns-in-Plain-clause-unasked
returns-in-Plain-clause-unasked g c = grind (arith, common_steps) steps 400000

pub returns-in-Plain-clause-answer : goal.returns-in-Plain-clause-answer
returns-in-Plain-clause-answer g c = grind (arith, common_steps) steps 400000

pub returns-in-Behind-clause-ok : goal.returns-in-Behind-clause-ok
returns-in-Behind-clause-ok g c = grind (arith, common_steps) steps 400000

pub returns-in-Behind-clause-err : goal.returns-in-Behind-clause-err
returns-in-Behind-clause-err g c = grind (arith, common_steps) steps 400000

pub returns-in-Behind-clause-unasked : goal.returns-in-Behind-clause-unasked
returns-in-Behind-clause-unasked g c = grind (arith, common_steps) steps 400000

pub returns-in-Behind-clause-answer : goal.returns-in-Behind-clause-answer
returns-in-Behind-clause-answer g c = grind (arith, common_steps) steps 400000

pub returns-in-Join-clause-ok : goal.returns-in-Join-clause-ok
returns-in-Join-clause-ok g c = grind (arith, common_steps) steps 400000

pub returns-in-Join-clause-err : goal.returns-in-Join-clause-err
returns-in-Join-clause-err g c = grind (arith, common_steps) steps 400000

pub returns-in-Join-clause-unasked : goal.returns-in-Join-clause-unasked
returns-in-Join-clause-unasked g c = grind (arith, common_steps) steps 400000

pub returns-in-Join-clause-answer : goal.returns-in-Join-clause-answer
returns-in-Join-clause-answer g c = grind (arith, common_steps) steps 400000
