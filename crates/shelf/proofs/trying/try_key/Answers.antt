use Rattle.shelf.proofs.Openings.{tries_ill, tries_well}
use Rattle.shelf.proofs.trying.try_key.Goals as goal

pub returns-in-Ok : goal.returns-in-Ok
returns-in-Ok c = λ readonly. tries_well c.args.trial.now c.args.slot readonly c.in-Ok.field-0.slot c.in-Ok.field-0.master.bytes c.in-Ok.ensures

pub returns-in-Err : goal.returns-in-Err
returns-in-Err c = λ readonly. rw c.attach_refusal.ensures (tries_ill c.args.trial.now c.args.slot readonly c.in-Err.fault c.in-Err.ensures)
