use Rattle.shelf.proofs.ResumingLemmas.{not_taken_up, taken_up}
use Rattle.shelf.proofs.resuming.take_up.Goals as goal

pub returns-in-Ok : goal.returns-in-Ok
returns-in-Ok g c = λ cabinet entropy. rw c.clear.ensures (taken_up g.D.Disk.state c.args.trial.now c.args.suspended c.in-Ok.provider cabinet entropy c.requires c.in-Ok.ensures)

pub returns-in-Err : goal.returns-in-Err
returns-in-Err g c = λ cabinet entropy.
    rw c.resume_refusal.ensures
    (not_taken_up g.D.Disk.state c.args.trial.now c.args.suspended c.in-Err.suspended c.in-Err.fault cabinet entropy c.requires c.in-Err.ensures)
