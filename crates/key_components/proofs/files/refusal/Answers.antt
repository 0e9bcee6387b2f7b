use Rattle.std.proofs.Common.{arith}
use Rattle.std.proofs.lemmas.Grind.{common_steps}
use Rattle.key_components.proofs.files.refusal.Goals as goal

pub returns-in-Absent : goal.returns-in-Absent
returns-in-Absent c = grind (arith, common_steps) steps 400000

pub returns-in-TooLong : goal.returns-in-TooLong
returns-in-TooLong c = grind (arith, common_steps) steps 400000

pub returns-in-Failed : goal.returns-in-Failed
returns-in-Failed c = grind (arith, common_steps) steps 400000

pub returns-in-NoMemory : goal.returns-in-NoMemory
returns-in-NoMemory c = grind (arith, common_steps) steps 400000
