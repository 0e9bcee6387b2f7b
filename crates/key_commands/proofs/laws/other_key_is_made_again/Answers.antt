use Rattle.key_commands.proofs.Changing.{same_key-change}
use Rattle.key_commands.proofs.laws.other_key_is_made_again.Goals as goal

pub returns : goal.returns
returns c = same_key-change
