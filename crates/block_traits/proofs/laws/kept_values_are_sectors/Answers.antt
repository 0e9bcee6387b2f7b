use Rattle.block_traits.proofs.Contents.{All-kept_values}
use Rattle.block_traits.proofs.laws.kept_values_are_sectors.Goals as goal

pub returns : goal.returns
returns c = All-kept_values
