use Rattle.key_commands.proofs.Changing.{changed_iterations-stays}
use Rattle.key_commands.proofs.laws.iterations_stay_for_the_other_key.Goals as goal

pub returns : goal.returns
returns c = changed_iterations-stays
