use Rattle.std.proofs.Common.{refl}
use Rattle.image_run.proofs.Surviving.{survive_in_files}
use Rattle.image_run.proofs.laws.drawers_survive_in_their_files.Goals as goal

pub returns : goal.returns
returns g c = λ words names disks old new status left run tell. survive_in_files g.F.ImageFile.told (λ d. refl) names disks tell words old new status left run
