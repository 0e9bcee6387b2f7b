use Rattle.std.proofs.Common.{arith}
use Rattle.std.proofs.lemmas.Grind.{common_steps}
use Rattle.nbd_words.proofs.negotiation.info_request_fits.Goals as goal

pub returns-then-bytes-lt6 : goal.returns-then-bytes-lt6
returns-then-bytes-lt6 c = grind (arith, common_steps) steps 400000

pub returns-then-bytes-name : goal.returns-then-bytes-name
returns-then-bytes-name c = grind (arith, common_steps) steps 400000

pub returns : goal.returns
returns c = grind (arith, common_steps)
