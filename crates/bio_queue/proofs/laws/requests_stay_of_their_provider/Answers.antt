use Rattle.bio_queue.proofs.Owned.{reap_keeps, step_keeps, submit_keeps}
use Rattle.bio_queue.proofs.laws.requests_stay_of_their_provider.Goals as goal

pub returns : goal.returns
returns c = record {
  none = λ k media. tt;
  submit = submit_keeps;
  step = step_keeps;
  reap = reap_keeps;
}
