use Rattle.block_traits.proofs.Images.{IsTorn-image}
use Rattle.block_traits.proofs.laws.crash_image_is_torn.Goals as goal

pub returns : goal.returns
returns c = IsTorn-image
