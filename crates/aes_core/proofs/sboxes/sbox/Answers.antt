use Rattle.std.proofs.Common.{arith}
use Rattle.aes_core.proofs.Boxes.{sbox_entry}
use Rattle.aes_core.proofs.sboxes.sbox.Goals as goal

pub returns : goal.returns
returns c = sbox_entry c.args.b (omega arith)
