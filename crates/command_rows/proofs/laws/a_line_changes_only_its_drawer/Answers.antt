use Rattle.command_rows.proofs.Untouched.{turn_only_steps}
use Rattle.command_rows.proofs.laws.a_line_changes_only_its_drawer.Goals as goal

pub returns : goal.returns
returns c = turn_only_steps
