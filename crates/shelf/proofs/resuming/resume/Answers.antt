use Rattle.command_rows.specs.Rows.{IsSuspended}
use Rattle.shelf.specs.Shelved.{kept_of}
use Rattle.shelf.proofs.ResumingLemmas.{trial_refused, trial_went_on}
use Rattle.shelf.proofs.Rows.{Then-refused}
use Rattle.shelf.proofs.Suspensions.{kept_same}
use Rattle.shelf.proofs.resuming.resume.Goals as goal

pub returns-in-Err : goal.returns-in-Err
returns-in-Err g c =
    let now = c.prepare.new.place in
    let then = c.args.suspended in
    let told = c.rest_tells_all.ensures now then c.in-Err.ensures.rest in
    λ entropy. trial_refused _ _ _ _ _ _ _ _ _ (kept_same then now told.0 told.1 told.2 told.3 told.4)
    (Then-refused _ _ _ _ _ (c.in-Err.ensures.row then.readonly (IsSuspended (kept_of then)) entropy))

pub returns-in-Ok : goal.returns-in-Ok
returns-in-Ok g c =
    let now = c.prepare.new.place in
    let then = c.args.suspended in
    let told = c.rest_tells_all.ensures now then c.in-Ok.ensures.rest in
    λ entropy. trial_went_on _ _ (kept_of then) (kept_of now) c.in-Ok.trial _ _ _ entropy _ _ (kept_same then now told.0 told.1 told.2 told.3 told.4)
    (c.in-Ok.ensures.row then.readonly (IsSuspended (kept_of then)) entropy) (c.take_up.ensures _ entropy)
