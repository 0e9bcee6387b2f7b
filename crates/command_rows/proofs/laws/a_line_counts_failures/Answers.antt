use Rattle.command_rows.proofs.laws.a_line_counts_failures.Goals as goal
use Rattle.command_rows.proofs.LineCounts.{turn_counts}

pub returns : goal.returns
returns c = turn_counts
