use Rattle.cbc_mode.proofs.Lengths.{length-cbc_open, length-cbc_seal}
use Rattle.cbc_mode.proofs.laws.cbc_keeps_lengths.Goals as goal

pub returns : goal.returns
returns c = record {
  sealed = λ key iv plain long whole. length-cbc_seal key iv plain long whole;
  opened = λ key iv cipher long leniv whole. length-cbc_open key iv cipher long leniv whole;
}
