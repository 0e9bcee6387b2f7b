use Rattle.std.proofs.Common.{arith}
use Rattle.std.proofs.lemmas.Grind.{common_steps}
use Rattle.eli_base.proofs.geometry.Geometry.of.Goals as goal

pub returns-then-sectors-eq0-clause-geometry : goal.returns-then-sectors-eq0-clause-geometry
returns-then-sectors-eq0-clause-geometry c = grind (arith, common_steps) steps 400000

pub returns-then-sectors-eq0-clause-fault : goal.returns-then-sectors-eq0-clause-fault
returns-then-sectors-eq0-clause-fault c = grind (arith, common_steps) steps 400000

pub returns-then-sectors-eq0-clause-room : goal.returns-then-sectors-eq0-clause-room
returns-then-sectors-eq0-clause-room c = grind (arith, common_steps) steps 400000

pub invariant_of-result : goal.invariant_of-result
invariant_of-result c = grind (arith, common_steps)

pub returns-clause-geometry : goal.returns-clause-geometry
returns-clause-geometry c = grind (arith, common_steps) steps 400000

pub returns-clause-fault : goal.returns-clause-fault
returns-clause-fault c = grind (arith, common_steps) steps 400000

pub returns-clause-room : goal.returns-clause-room
returns-clause-room c = grind (arith, common_steps)
