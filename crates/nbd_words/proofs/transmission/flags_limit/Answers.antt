use Rattle.std.proofs.Common.{arith}
use Rattle.std.proofs.lemmas.Grind.{common_steps}
use Rattle.nbd_words.proofs.transmission.flags_limit.Goals as goal

pub returns-in-WriteZeroes : goal.returns-in-WriteZeroes
returns-in-WriteZeroes c = grind (arith, common_steps) steps 400000

pub returns-in_default : goal.returns-in_default
returns-in_default c = grind (arith, common_steps) steps 400000
