use Rattle.nbd_words.proofs.Fields.{request-reads_back}
use Rattle.nbd_words.proofs.laws.requests_read_back.Goals as goal

pub returns : goal.returns
returns c = λ q fits. request-reads_back q fits
