use Rattle.std.proofs.Common.{arith}
use Rattle.std.proofs.lemmas.Grind.{common_steps}
use Rattle.eli_base.proofs.parameters.Params.new.Goals as goal

pub invariant_of-result : goal.invariant_of-result
invariant_of-result c = grind (arith, common_steps)

pub returns-clause-version : goal.returns-clause-version
returns-clause-version c = grind (arith, common_steps) steps 400000

pub returns-clause-auth : goal.returns-clause-auth
returns-clause-auth c = grind (arith, common_steps) steps 400000

pub returns-clause-cipher : goal.returns-clause-cipher
returns-clause-cipher c = grind (arith, common_steps) steps 400000

pub returns-clause-keylen : goal.returns-clause-keylen
returns-clause-keylen c = grind (arith, common_steps) steps 400000

pub returns-clause-sectorsize : goal.returns-clause-sectorsize
returns-clause-sectorsize c = grind (arith, common_steps) steps 400000

pub returns-clause-provsize : goal.returns-clause-provsize
returns-clause-provsize c = grind (arith, common_steps) steps 400000

pub returns-clause-readonly : goal.returns-clause-readonly
returns-clause-readonly c = grind (arith, common_steps) steps 400000
