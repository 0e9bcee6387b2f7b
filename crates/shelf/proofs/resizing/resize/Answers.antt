use Rattle.std.proofs.Common.{refl}
use Rattle.shelf.proofs.resizing.resize.Goals as goal

pub returns : goal.returns
returns g c = λ cabinet. record { resizes = c.resize.ensures; holding = refl; cabinet = refl }
