use Rattle.command_rows.proofs.Stopped.{turn_leaves}
use Rattle.command_rows.proofs.laws.a_line_leaves_old_or_new.Goals as goal

pub returns : goal.returns
returns c = turn_leaves
