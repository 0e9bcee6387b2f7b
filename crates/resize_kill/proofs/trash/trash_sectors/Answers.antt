use Rattle.resize_kill.specs.Trash.{trash_sectors}
use Rattle.resize_kill.proofs.trash.trash_sectors.Goals as goal

pub returns : goal.returns
unfolding trash_sectors
returns c = c.passes.ensures
