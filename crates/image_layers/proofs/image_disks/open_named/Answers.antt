use Rattle.std.proofs.Common.{arith}
use Rattle.std.proofs.lemmas.Grind.{common_steps}
use Rattle.image_layers.proofs.image_disks.open_named.Goals as goal

pub returns-in_err-push-clause-opens : goal.returns-in_err-push-clause-opens
returns-in_err-push-clause-opens g c = grind (arith, common_steps) steps 400000

pub returns-in_err-push-clause-tells : goal.returns-in_err-push-clause-tells
returns-in_err-push-clause-tells g c = grind (arith, common_steps) steps 400000

pub returns-in_err-push-clause-told : goal.returns-in_err-push-clause-told
returns-in_err-push-clause-told g c = grind (arith, common_steps) steps 400000

pub returns-in_err-push-clause-asked : goal.returns-in_err-push-clause-asked
returns-in_err-push-clause-asked g c = grind (arith, common_steps) steps 400000

pub returns-clause-opens : goal.returns-clause-opens
returns-clause-opens g c = grind (arith, common_steps) steps 400000

pub returns-clause-tells : goal.returns-clause-tells
returns-clause-tells g c = grind (arith, common_steps) steps 400000

pub returns-clause-told : goal.returns-clause-told
returns-clause-told g c = grind (arith, common_steps) steps 400000

pub returns-clause-asked : goal.returns-clause-asked
returns-clause-asked g c = grind (arith, common_steps) steps 400000
