use Rattle.std.proofs.Common.{arith}
use Rattle.std.proofs.lemmas.Grind.{common_steps}
use Rattle.range_keys.proofs.derivation.range_base.Goals as goal

pub returns-then-version-lt-BASE_KEY_VERSION : goal.returns-then-version-lt-BASE_KEY_VERSION
returns-then-version-lt-BASE_KEY_VERSION c = grind (arith, common_steps) steps 400000

pub returns-else-version-lt-BASE_KEY_VERSION : goal.returns-else-version-lt-BASE_KEY_VERSION
returns-else-version-lt-BASE_KEY_VERSION c = grind (arith, common_steps) steps 400000
