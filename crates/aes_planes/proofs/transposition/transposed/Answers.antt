use Rattle.std.proofs.Common.{refl}
use Rattle.aes_planes.proofs.transposition.transposed.Goals as goal

pub returns : goal.returns
returns c = refl
