use Rattle.std.proofs.Common.{arith}
use Rattle.std.proofs.lemmas.Grind.{common_steps}
use Rattle.eli_base.proofs.geometry.Geometry.units_of.Goals as goal

pub returns-clause-first : goal.returns-clause-first
returns-clause-first c = grind (arith, common_steps) steps 400000

pub returns-clause-count : goal.returns-clause-count
returns-clause-count c = grind (arith, common_steps) steps 400000

pub returns-clause-inside : goal.returns-clause-inside
returns-clause-inside c = grind (arith, common_steps) steps 400000
