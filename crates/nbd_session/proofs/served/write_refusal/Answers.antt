use Rattle.std.proofs.Common.{arith}
use Rattle.std.proofs.lemmas.Grind.{common_steps}
use Rattle.nbd_session.proofs.served.write_refusal.Goals as goal

pub returns-then-read_only-clause-refuses : goal.returns-then-read_only-clause-refuses
returns-then-read_only-clause-refuses g c = grind (arith, common_steps) steps 400000

pub returns-then-read_only-clause-may : goal.returns-then-read_only-clause-may
returns-then-read_only-clause-may g c = grind (arith, common_steps) steps 400000

pub returns-then-not-is_well_formed-clause-refuses : goal.returns-then-not-is_well_formed-clause-refuses
returns-then-not-is_well_formed-clause-refuses g c = grind (arith, common_steps) steps 400000

pub returns-then-not-is_well_formed-clause-may : goal.returns-then-not-is_well_formed-clause-may
returns-then-not-is_well_formed-clause-may g c = grind (arith, common_steps) steps 400000

pub returns-then-not-has_range-clause-refuses : goal.returns-then-not-has_range-clause-refuses
returns-then-not-has_range-clause-refuses g c = grind (arith, common_steps) steps 400000

pub returns-then-not-has_range-clause-may : goal.returns-then-not-has_range-clause-may
returns-then-not-has_range-clause-may g c = grind (arith, common_steps) steps 400000

pub returns-clause-refuses : goal.returns-clause-refuses
returns-clause-refuses g c = grind (arith, common_steps) steps 400000

pub returns-clause-may : goal.returns-clause-may
returns-clause-may g c = grind (arith, common_steps) steps 400000
