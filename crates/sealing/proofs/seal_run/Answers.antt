use Rattle.std.proofs.Common.{arith}
use Rattle.std.proofs.lemmas.Grind.{common_steps}
use Rattle.sealing.proofs.seal_run.Goals as goal

pub returns-in-AesXts-clause-sealed : goal.returns-in-AesXts-clause-sealed
returns-in-AesXts-clause-sealed c = grind (arith, common_steps) steps 400000

pub returns-in-AesXts-clause-taken_back : goal.returns-in-AesXts-clause-taken_back
returns-in-AesXts-clause-taken_back c = grind (arith, common_steps) steps 400000

pub returns-in-AesXts-clause-keying : goal.returns-in-AesXts-clause-keying
returns-in-AesXts-clause-keying c = grind (arith, common_steps) steps 400000

pub returns-in-AesCbc-clause-sealed : goal.returns-in-AesCbc-clause-sealed
returns-in-AesCbc-clause-sealed c = grind (arith, common_steps) steps 400000

pub returns-in-AesCbc-clause-taken_back : goal.returns-in-AesCbc-clause-taken_back
returns-in-AesCbc-clause-taken_back c = grind (arith, common_steps) steps 400000

pub returns-in-AesCbc-clause-keying : goal.returns-in-AesCbc-clause-keying
returns-in-AesCbc-clause-keying c = grind (arith, common_steps) steps 400000
