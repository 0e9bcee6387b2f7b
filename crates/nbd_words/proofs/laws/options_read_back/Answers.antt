use Rattle.nbd_words.proofs.Fields.{option-reads_back}
use Rattle.nbd_words.proofs.laws.options_read_back.Goals as goal

pub returns : goal.returns
returns c = option-reads_back
