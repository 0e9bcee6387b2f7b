use Rattle.std.proofs.Common.{arith}
use Rattle.std.proofs.lemmas.Grind.{common_steps}
use Rattle.nbd_words.proofs.transmission.request_in.Goals as goal

pub returns-then-read_u32-ne-REQUEST_MAGIC : goal.returns-then-read_u32-ne-REQUEST_MAGIC
returns-then-read_u32-ne-REQUEST_MAGIC c = grind (arith, common_steps)

pub returns : goal.returns
returns c = grind (arith, common_steps)
