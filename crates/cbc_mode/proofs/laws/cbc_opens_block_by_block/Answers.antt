use Rattle.cbc_mode.proofs.Lengths.{block-cbc_open-first, block-cbc_open-next}
use Rattle.cbc_mode.proofs.laws.cbc_opens_block_by_block.Goals as goal

pub returns : goal.returns
returns c = record {
  first = λ key iv cipher long leniv fits. block-cbc_open-first key iv cipher long leniv fits;
  next = λ key iv cipher j long leniv fits. block-cbc_open-next key iv cipher j long leniv fits;
}
