use Rattle.std.proofs.Common.{refl}
use Rattle.shelf.proofs.Rows.{Then-goes_on}
use Rattle.shelf.proofs.killing.kill.Goals as goal

pub returns-clause-serves : goal.returns-clause-serves
returns-clause-serves g c = λ holding cabinet bytes. record {
  answer = c.kill-answer.result;
  row = Then-goes_on _ _ _ _ _ _ _ (refl, refl) (record { kills = c.kill-answer.ensures; holding = refl; cabinet = refl });
  replied = c.done_or.ensures.reply bytes;
}
