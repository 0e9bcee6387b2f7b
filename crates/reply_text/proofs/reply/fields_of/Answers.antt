use Rattle.std.proofs.Common.{arith}
use Rattle.std.proofs.lemmas.Grind.{common_steps}
use Rattle.reply_text.proofs.reply.fields_of.Goals as goal

pub returns-in-BadSize : goal.returns-in-BadSize
returns-in-BadSize c = grind (arith, common_steps) steps 400000
