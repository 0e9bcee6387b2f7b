use Rattle.std.proofs.Common.{sym, ◌∙◌, arith}
use Rattle.std.proofs.lemmas.Grind.{common_steps}
use Rattle.shelf.specs.Trying.{tried_in}
use Rattle.shelf.proofs.Openings.{no_fit, not_taken, taken_over}
use Rattle.shelf.proofs.attaching.take_over.Goals as goal

pub returns-in-Ok-attach : goal.returns-in-Ok-attach
returns-in-Ok-attach g c = λ cabinet entropy.
    rw c.in-Ok.ensures
    (taken_over g.D.Disk.state c.args.trial.now c.args.slot c.args.readonly c.args.disk c.in-Ok-attach.provider cabinet entropy c.requires c.in-Ok-attach.ensures)

pub returns-in-Err-attach : goal.returns-in-Err-attach
returns-in-Err-attach g c = λ cabinet entropy.
    rw c.attach_refusal.ensures
    (not_taken g.D.Disk.state c.args.trial.now c.args.slot c.args.readonly c.args.disk c.in-Err-attach.disk c.in-Err-attach.fault cabinet entropy c.requires c.in-Err-attach.ensures)

pub returns-in-Err : goal.returns-in-Err
returns-in-Err g c = λ cabinet entropy. no_fit (tried_in c.args.slot c.args.readonly c.args.trial.now) c.in-Err.refusal _ (sym c.in-Err.is ∙ c.try_key.ensures c.args.readonly)

pub returns-in-Ok-try_key : goal.returns-in-Ok-try_key
returns-in-Ok-try_key g c = grind (arith, common_steps) steps 400000
