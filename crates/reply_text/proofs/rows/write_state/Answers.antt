use Rattle.std.proofs.Common.{arith}
use Rattle.std.proofs.lemmas.Grind.{common_steps}
use Rattle.reply_text.proofs.rows.write_state.Goals as goal

pub returns-then-row : goal.returns-then-row
returns-then-row g c = grind (arith, common_steps) steps 400000

pub returns-then-row-2 : goal.returns-then-row-2
returns-then-row-2 g c = grind (arith, common_steps) steps 400000

pub returns : goal.returns
returns g c = grind (arith, common_steps) steps 400000
