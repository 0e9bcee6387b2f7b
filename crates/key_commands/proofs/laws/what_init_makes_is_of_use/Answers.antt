use Rattle.key_commands.proofs.Making.{IsUsable-makes}
use Rattle.key_commands.proofs.laws.what_init_makes_is_of_use.Goals as goal

pub returns : goal.returns
returns c = IsUsable-makes
