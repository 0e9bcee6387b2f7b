use Rattle.std.proofs.Common.{arith}
use Rattle.std.proofs.lemmas.Grind.{common_steps}
use Rattle.image_layers.proofs.any_disk.ImageDiskDisk.read.Goals as goal

pub returns-in-Plain-clause-bytes : goal.returns-in-Plain-clause-bytes
returns-in-Plain-clause-bytes g c = grind (arith, common_steps) steps 400000

pub returns-in-Plain-clause-ok : goal.returns-in-Plain-clause-ok
returns-in-Plain-clause-ok g c = grind (arith, common_steps) steps 400000

pub returns-in-Plain-clause-err : goal.returns-in-Plain-clause-err
returns-in-Plain-clause-err g c = grind (arith, common_steps) steps 400000

pub returns-in-Plain-clause-asked : goal.returns-in-Plain-clause-asked
returns-in-Plain-clause-asked g c = grind (arith, common_steps) steps 400000

pub returns-in-Plain-clause-answer : goal.returns-in-Plain-clause-answer
returns-in-Plain-clause-answer g c = grind (arith, common_steps) steps 400000

pub returns-in-Behind-clause-bytes : goal.returns-in-Behind-clause-bytes
returns-in-Behind-clause-bytes g c = grind (arith, common_steps) steps 400000

pub returns-in-Behind-clause-ok : goal.returns-in-Behind-clause-ok
returns-in-Behind-clause-ok g c = grind (arith, common_steps) steps 400000

pub returns-in-Behind-clause-err : goal.returns-in-Behind-clause-err
returns-in-Behind-clause-err g c = grind (arith, common_steps) steps 400000

pub returns-in-Behind-clause-asked : goal.returns-in-Behind-clause-asked
returns-in-Behind-clause-asked g c = grind (arith, common_steps) steps 400000

pub returns-in-Behind-clause-answer : goal.returns-in-Behind-clause-answer
returns-in-Behind-clause-answer g c = grind (arith, common_steps) steps 400000

pub returns-in-Join-clause-bytes : goal.returns-in-Join-clause-bytes
returns-in-Join-clause-bytes g c = grind (arith, common_steps) steps 400000

pub returns-in-Join-clause-ok : goal.returns-in-Join-clause-ok
returns-in-Join-clause-ok g c = grind (arith, common_steps) steps 400000

pub returns-in-Join-clause-err : goal.returns-in-Join-clause-err
returns-in-Join-clause-err g c = grind (arith, common_steps) steps 400000

pub returns-in-Join-clause-asked : goal.returns-in-Join-clause-asked
returns-in-Join-clause-asked g c = grind (arith, common_steps) steps 400000

pub returns-in-Join-clause-answer : goal.returns-in-Join-clause-answer
returns-in-Join-clause-answer g c = grind (arith, common_steps) steps 400000
