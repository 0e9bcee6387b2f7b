use Rattle.block_traits.proofs.Contents.{kept_values-flush}
use Rattle.block_traits.proofs.laws.flush_keeps_the_present.Goals as goal

pub returns : goal.returns
returns c = kept_values-flush
