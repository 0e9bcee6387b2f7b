use Rattle.std.proofs.Common.{refl}
use Rattle.aes_planes.proofs.sboxes.sub_bytes.Goals as goal

pub returns : goal.returns
returns c = refl
