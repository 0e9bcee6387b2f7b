use Rattle.std.proofs.Common.{arith}
use Rattle.std.proofs.lemmas.Grind.{common_steps}
use Rattle.range_keys.proofs.ring.numbered_block.Goals as goal

pub returns-in-Off : goal.returns-in-Off
returns-in-Off c = grind (arith, common_steps) steps 400000

pub returns-in-Sha256 : goal.returns-in-Sha256
returns-in-Sha256 c = grind (arith, common_steps) steps 400000
