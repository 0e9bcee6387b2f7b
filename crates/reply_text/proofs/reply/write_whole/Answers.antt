use Rattle.std.proofs.Common.{arith}
use Rattle.std.proofs.lemmas.Grind.{common_steps}
use Rattle.reply_text.proofs.reply.write_whole.Goals as goal

pub returns-in-Done : goal.returns-in-Done
returns-in-Done g c = grind (arith, common_steps) steps 400000

pub returns-in-Payload : goal.returns-in-Payload
returns-in-Payload g c = grind (arith, common_steps) steps 400000

pub returns-in-Digest : goal.returns-in-Digest
returns-in-Digest g c = grind (arith, common_steps) steps 400000

pub returns-in-Rows : goal.returns-in-Rows
returns-in-Rows g c = grind (arith, common_steps) steps 400000

pub returns-in-Dump : goal.returns-in-Dump
returns-in-Dump g c = grind (arith, common_steps)

pub returns-in-Tag : goal.returns-in-Tag
returns-in-Tag g c = grind (arith, common_steps) steps 400000

pub returns-in-Left : goal.returns-in-Left
returns-in-Left g c = grind (arith, common_steps) steps 400000

pub returns-in-Verified : goal.returns-in-Verified
returns-in-Verified g c = grind (arith, common_steps) steps 400000

pub returns-in-Refused : goal.returns-in-Refused
returns-in-Refused g c = grind (arith, common_steps) steps 400000
