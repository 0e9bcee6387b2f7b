use Rattle.std.proofs.Common.{arith}
use Rattle.std.proofs.lemmas.Grind.{common_steps}
use Rattle.provider.proofs.provider.Provider.attach_opened.Goals as goal

pub returns-clause-attached : goal.returns-clause-attached
returns-clause-attached g c = grind (arith, common_steps)
