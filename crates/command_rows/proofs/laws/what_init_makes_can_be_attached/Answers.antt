use Rattle.command_rows.proofs.Opening.{OpensOrFails-tried}
use Rattle.command_rows.proofs.laws.what_init_makes_can_be_attached.Goals as goal

pub returns : goal.returns
returns c = OpensOrFails-tried
