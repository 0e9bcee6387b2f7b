use Rattle.std.proofs.Common.{arith}
use Rattle.std.proofs.lemmas.Grind.{common_steps}
use Rattle.nbd_words.proofs.negotiation.option_head_in.Goals as goal

pub returns-then-read_u64-ne-OPTION_MAGIC : goal.returns-then-read_u64-ne-OPTION_MAGIC
returns-then-read_u64-ne-OPTION_MAGIC c = grind (arith, common_steps)

pub returns : goal.returns
returns c = grind (arith, common_steps) steps 400000
