use Rattle.std.proofs.Common.{arith}
use Rattle.std.proofs.lemmas.Grind.{common_steps}
use Rattle.nbd_run.proofs.run.serve_words.Goals as goal

pub returns-in-Help-clause-serves : goal.returns-in-Help-clause-serves
returns-in-Help-clause-serves g c = grind (arith, common_steps) steps 400000

pub returns-in-Help-clause-told : goal.returns-in-Help-clause-told
returns-in-Help-clause-told g c = grind (arith, common_steps) steps 400000

pub returns-in-Help-clause-nothing : goal.returns-in-Help-clause-nothing
returns-in-Help-clause-nothing g c = grind (arith, common_steps) steps 400000

pub returns-in-Version-clause-serves : goal.returns-in-Version-clause-serves
returns-in-Version-clause-serves g c = grind (arith, common_steps) steps 400000

pub returns-in-Version-clause-told : goal.returns-in-Version-clause-told
returns-in-Version-clause-told g c = grind (arith, common_steps) steps 400000

pub returns-in-Version-clause-nothing : goal.returns-in-Version-clause-nothing
returns-in-Version-clause-nothing g c = grind (arith, common_steps) steps 400000

pub returns-in-Ok-Some-clause-serves : goal.returns-in-Ok-Some-clause-serves
returns-in-Ok-Some-clause-serves g c = grind (arith, common_steps)

pub returns-in-Ok-Some-clause-told : goal.returns-in-Ok-Some-clause-told
returns-in-Ok-Some-clause-told g c = grind (arith, common_steps) steps 400000

pub returns-in-Ok-Some-clause-nothing : goal.returns-in-Ok-Some-clause-nothing
returns-in-Ok-Some-clause-nothing g c = grind (arith, common_steps)

pub returns-in-Ok-None-clause-serves : goal.returns-in-Ok-None-clause-serves
returns-in-Ok-None-clause-serves g c = grind (arith, common_steps) steps 400000

pub returns-in-Ok-None-clause-told : goal.returns-in-Ok-None-clause-told
returns-in-Ok-None-clause-told g c = grind (arith, common_steps) steps 400000

pub returns-in-Ok-None-clause-nothing : goal.returns-in-Ok-None-clause-nothing
returns-in-Ok-None-clause-nothing g c = grind (arith, common_steps)

pub returns-in-Err-clause-serves : goal.returns-in-Err-clause-serves
returns-in-Err-clause-serves g c = grind (arith, common_steps) steps 400000

pub returns-in-Err-clause-told : goal.returns-in-Err-clause-told
returns-in-Err-clause-told g c = grind (arith, common_steps) steps 400000

pub returns-in-Err-clause-nothing : goal.returns-in-Err-clause-nothing
returns-in-Err-clause-nothing g c = grind (arith, common_steps) steps 400000
