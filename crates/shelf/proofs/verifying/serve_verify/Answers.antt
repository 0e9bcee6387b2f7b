use Rattle.shelf.specs.Verifying.{swept_part}
use Rattle.shelf.proofs.verifying.serve_verify.Goals as goal

pub returns-clause-serves : goal.returns-clause-serves
returns-clause-serves g c = rw c.in-Verify.is (λ queue entropy. record {
  answer = swept_part c.verify-answer.new.buffer c.verify-answer.result;
  row = c.verify-answer.ensures.row queue entropy;
  replied = c.verified_or.ensures.reply c.verify-answer.new.buffer;
})
