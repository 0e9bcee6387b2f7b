use Rattle.command_rows.proofs.laws.no_cause_is_left_where_all_is_found.Goals as goal
use Rattle.command_rows.proofs.LineFits.{fits_refused, fits_unrefused}

pub returns : goal.returns
returns c = record { cause = fits_unrefused; answer = fits_refused }
