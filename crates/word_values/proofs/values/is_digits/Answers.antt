use Rattle.std.proofs.Common.{arith}
use Rattle.std.proofs.lemmas.Grind.{common_steps}
use Rattle.word_values.proofs.values.is_digits.Goals as goal

pub returns-then-bytes-le20 : goal.returns-then-bytes-le20
returns-then-bytes-le20 c = grind (arith, common_steps) steps 400000

pub returns-else-bytes-le20 : goal.returns-else-bytes-le20
returns-else-bytes-le20 c = grind (arith, common_steps) steps 400000
