use Rattle.block_traits.proofs.Contents.{last_of-kept_values}
use Rattle.block_traits.proofs.laws.last_kept_value_is_present.Goals as goal

pub returns : goal.returns
returns c = last_of-kept_values
