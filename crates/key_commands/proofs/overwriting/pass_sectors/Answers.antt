use Rattle.key_commands.specs.Overwriting.{pass_sectors}
use Rattle.key_commands.proofs.overwriting.pass_sectors.Goals as goal

pub returns-clause-sectors : goal.returns-clause-sectors
unfolding pass_sectors
returns-clause-sectors c = c.passes.ensures
