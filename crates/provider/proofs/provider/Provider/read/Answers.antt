use Rattle.std.proofs.Common.{arith}
use Rattle.std.proofs.lemmas.Grind.{common_steps}
use Rattle.provider.proofs.provider.Provider.read.Goals as goal

pub returns-then-is_err-clause-cleared : goal.returns-then-is_err-clause-cleared
returns-then-is_err-clause-cleared g c = grind (arith, common_steps)
