use Rattle.std.proofs.Common.{arith}
use Rattle.std.proofs.lemmas.Grind.{common_steps}
use Rattle.block_traits.proofs.meta_place.MetaPlace.load.Goals as goal

pub returns-clause-bytes : goal.returns-clause-bytes
returns-clause-bytes g c = grind (arith, common_steps) steps 400000

pub returns-clause-ok : goal.returns-clause-ok
returns-clause-ok g c = grind (arith, common_steps) steps 400000

pub returns-clause-err : goal.returns-clause-err
returns-clause-err g c = grind (arith, common_steps) steps 400000

pub returns-clause-asked : goal.returns-clause-asked
returns-clause-asked g c = grind (arith, common_steps) steps 400000

pub returns-clause-rest : goal.returns-clause-rest
returns-clause-rest g c = grind (arith, common_steps) steps 400000
