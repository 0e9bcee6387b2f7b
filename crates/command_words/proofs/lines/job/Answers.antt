use Rattle.std.proofs.Common.{arith}
use Rattle.std.proofs.lemmas.Grind.{common_steps}
use Rattle.command_words.proofs.lines.job.Goals as goal

pub returns-in-Read : goal.returns-in-Read
returns-in-Read c = grind (arith, common_steps) steps 400000

pub returns-in-Write : goal.returns-in-Write
returns-in-Write c = grind (arith, common_steps) steps 400000

pub returns-in-Flush : goal.returns-in-Flush
returns-in-Flush c = grind (arith, common_steps) steps 400000
