-- A sector is one of the first file, or of the second.
use Rattle.std.proofs.Common.{refl}
use Rattle.image_layers.proofs.OfFiles.{are_left}
use Rattle.image_layers.proofs.laws.images_of_files_are_left.Goals as goal

pub returns : goal.returns
returns g c = are_left g.F.ImageFile.told (λ d. refl)
