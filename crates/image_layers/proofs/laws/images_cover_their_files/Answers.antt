-- By the fact that each layer keeps.
use Rattle.std.proofs.Common.{refl}
use Rattle.image_layers.proofs.Covered.{covered}
use Rattle.image_layers.proofs.laws.images_cover_their_files.Goals as goal

pub returns : goal.returns
returns g c = covered g.F.ImageFile.told (λ d. refl)
