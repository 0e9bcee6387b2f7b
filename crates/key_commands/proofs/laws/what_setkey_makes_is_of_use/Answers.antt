use Rattle.key_commands.proofs.Changing.{HasNewKey-makes}
use Rattle.key_commands.proofs.laws.what_setkey_makes_is_of_use.Goals as goal

pub returns : goal.returns
returns c = HasNewKey-makes
