use Rattle.std.proofs.Common.{subst}
use Rattle.aes_core.specs.Schedule.{IsKey}
use Rattle.aes_core.proofs.KeyBytes.{IsKey-front}
use Rattle.aes_core.proofs.Schedule.is_of_a_key.Goals as goal

pub returns : goal.returns
returns c = subst IsKey c.self.view_is (IsKey-front c.self.inside.keys c.self.inside.words c.self.invariant)
