use Rattle.command_rows.proofs.laws.a_line_stores_its_file_alone.Goals as goal
use Rattle.command_rows.proofs.LineStores.{turn_stores}

pub returns : goal.returns
returns c = turn_stores
