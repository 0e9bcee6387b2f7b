use Rattle.std.proofs.Common.{arith}
use Rattle.std.proofs.lemmas.Grind.{common_steps}
use Rattle.eli_base.proofs.geometry.SectorLayout.of.Goals as goal

pub invariant_of-result : goal.invariant_of-result
invariant_of-result c = grind (arith, common_steps) steps 400000

pub returns-clause-size : goal.returns-clause-size
returns-clause-size c = grind (arith, common_steps) steps 400000

pub returns-clause-units : goal.returns-clause-units
returns-clause-units c = grind (arith, common_steps) steps 400000

pub returns-clause-unit_bytes : goal.returns-clause-unit_bytes
returns-clause-unit_bytes c = grind (arith, common_steps) steps 400000
