use Rattle.std.proofs.Common.{arith}
use Rattle.std.proofs.lemmas.Grind.{common_steps}
use Rattle.aes_core.proofs.rounds.even_rounds.Goals as goal

pub returns-then-count-eq9 : goal.returns-then-count-eq9
returns-then-count-eq9 c = grind (arith, common_steps)

pub returns-then-count-eq11 : goal.returns-then-count-eq11
returns-then-count-eq11 c = grind (arith, common_steps)

pub returns : goal.returns
returns c = grind (arith, common_steps)
