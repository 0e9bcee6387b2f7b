use Rattle.std.proofs.Common.{arith}
use Rattle.std.proofs.lemmas.Grind.{common_steps}
use Rattle.sealing.proofs.open_run.Goals as goal

pub returns-in-AesXts-clause-opened : goal.returns-in-AesXts-clause-opened
returns-in-AesXts-clause-opened c = grind (arith, common_steps) steps 400000

pub returns-in-AesXts-clause-keying : goal.returns-in-AesXts-clause-keying
returns-in-AesXts-clause-keying c = grind (arith, common_steps) steps 400000

pub returns-in-AesCbc-clause-opened : goal.returns-in-AesCbc-clause-opened
returns-in-AesCbc-clause-opened c = grind (arith, common_steps) steps 400000

pub returns-in-AesCbc-clause-keying : goal.returns-in-AesCbc-clause-keying
returns-in-AesCbc-clause-keying c = grind (arith, common_steps) steps 400000
