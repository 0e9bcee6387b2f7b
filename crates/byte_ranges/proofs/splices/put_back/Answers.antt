use Rattle.std.proofs.Common.{arith}
use Rattle.std.proofs.lemmas.Grind.{common_steps}
use Rattle.byte_ranges.proofs.splices.put_back.Goals as goal

pub returns-then-left-eq0-clause-puts : goal.returns-then-left-eq0-clause-puts
returns-then-left-eq0-clause-puts g c = grind (arith, common_steps) steps 400000

pub returns-then-left-eq0-clause-asked : goal.returns-then-left-eq0-clause-asked
returns-then-left-eq0-clause-asked g c = grind (arith, common_steps) steps 400000

pub returns-then-left-eq0-clause-unasked : goal.returns-then-left-eq0-clause-unasked
returns-then-left-eq0-clause-unasked g c = grind (arith, common_steps) steps 400000

pub returns-then-left-eq0-clause-kept : goal.returns-then-left-eq0-clause-kept
returns-then-left-eq0-clause-kept g c = grind (arith, common_steps) steps 400000

pub returns-then-not-read_edge-clause-puts : goal.returns-then-not-read_edge-clause-puts
returns-then-not-read_edge-clause-puts g c = grind (arith, common_steps) steps 400000

pub returns-then-not-read_edge-clause-asked : goal.returns-then-not-read_edge-clause-asked
returns-then-not-read_edge-clause-asked g c = grind (arith, common_steps) steps 400000

pub returns-then-not-read_edge-clause-unasked : goal.returns-then-not-read_edge-clause-unasked
returns-then-not-read_edge-clause-unasked g c = grind (arith, common_steps) steps 400000

pub returns-then-not-read_edge-clause-kept : goal.returns-then-not-read_edge-clause-kept
returns-then-not-read_edge-clause-kept g c = grind (arith, common_steps) steps 400000

pub returns-clause-puts : goal.returns-clause-puts
returns-clause-puts g c = grind (arith, common_steps)

pub returns-clause-asked : goal.returns-clause-asked
returns-clause-asked g c = grind (arith, common_steps) steps 400000

pub returns-clause-unasked : goal.returns-clause-unasked
returns-clause-unasked g c = grind (arith, common_steps)

pub returns-clause-kept : goal.returns-clause-kept
returns-clause-kept g c = grind (arith, common_steps) steps 400000
