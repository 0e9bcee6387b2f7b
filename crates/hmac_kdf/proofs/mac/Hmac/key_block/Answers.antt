use Rattle.std.proofs.Common.{arith}
use Rattle.std.proofs.lemmas.Grind.{common_steps}
use Rattle.hmac_kdf.proofs.mac.Hmac.key_block.Goals as goal

pub returns-then-key : goal.returns-then-key
returns-then-key g c = grind (arith, common_steps) steps 400000

pub returns-else-key : goal.returns-else-key
returns-else-key g c = grind (arith, common_steps)
