use Rattle.command_rows.proofs.laws.a_line_says_what_its_drawer_becomes.Goals as goal
use Rattle.command_rows.proofs.LineBecomes.{turn_becomes}

pub returns : goal.returns
returns c = turn_becomes
