use Rattle.std.proofs.Common.{arith}
use Rattle.std.proofs.lemmas.Grind.{common_steps}
use Rattle.range_keys.proofs.kept.KeptKeys.lent.Goals as goal

pub returns-in-Some-clause-kept : goal.returns-in-Some-clause-kept
returns-in-Some-clause-kept c = grind (arith, common_steps) steps 400000

pub returns-in-Some-clause-unkept : goal.returns-in-Some-clause-unkept
returns-in-Some-clause-unkept c = grind (arith, common_steps) steps 400000

pub returns-in-Some-unkept-clause-kept : goal.returns-in-Some-unkept-clause-kept
returns-in-Some-unkept-clause-kept c = grind (arith, common_steps) steps 400000

pub returns-in-Some-unkept-clause-unkept : goal.returns-in-Some-unkept-clause-unkept
returns-in-Some-unkept-clause-unkept c = grind (arith, common_steps) steps 400000
