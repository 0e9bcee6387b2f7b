use Rattle.xts_mode.proofs.Lengths.{block-xts_open, block-xts_seal}
use Rattle.xts_mode.proofs.laws.xts_goes_block_by_block.Goals as goal

pub returns : goal.returns
returns c = record {
  sealed = λ key1 key2 unit j plain long fits. block-xts_seal key1 key2 unit j plain long fits;
  opened = λ key1 key2 unit j cipher long fits. block-xts_open key1 key2 unit j cipher long fits;
}
