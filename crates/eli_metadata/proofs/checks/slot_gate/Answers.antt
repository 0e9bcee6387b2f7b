use Rattle.std.proofs.Common.{arith}
use Rattle.std.proofs.lemmas.Grind.{common_steps}
use Rattle.eli_metadata.proofs.checks.slot_gate.Goals as goal

pub returns-then-meta-eq0 : goal.returns-then-meta-eq0
returns-then-meta-eq0 c = grind (arith, common_steps) steps 400000

pub returns-in_default : goal.returns-in_default
returns-in_default c = grind (arith, common_steps) steps 400000

pub returns-then-slot-gt1 : goal.returns-then-slot-gt1
returns-then-slot-gt1 c = grind (arith, common_steps) steps 400000

pub returns-then-not-is_set : goal.returns-then-not-is_set
returns-then-not-is_set c = grind (arith, common_steps) steps 400000

pub returns : goal.returns
returns c = grind (arith, common_steps) steps 400000
