use Rattle.block_traits.proofs.Images.{IsAltered-torn}
use Rattle.block_traits.proofs.laws.torn_image_is_altered.Goals as goal

pub returns : goal.returns
returns c = IsAltered-torn
