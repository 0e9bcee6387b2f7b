use Rattle.xts_mode.proofs.Lengths.{length-xts_open, length-xts_seal}
use Rattle.xts_mode.proofs.laws.xts_keeps_lengths.Goals as goal

pub returns : goal.returns
returns c = record {
  sealed = λ key1 key2 unit plain long whole. length-xts_seal key1 key2 unit plain long whole;
  opened = λ key1 key2 unit cipher long whole. length-xts_open key1 key2 unit cipher long whole;
}
