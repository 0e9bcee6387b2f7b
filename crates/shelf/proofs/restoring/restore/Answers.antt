use Rattle.std.proofs.Common.{ℕ, List, Err, refl, subst}
use Rattle.std.proofs.lemmas.Result.{err_from_is_err_and}
use Rattle.command_rows.specs.Vocabulary.{Restores}
use Rattle.shelf.proofs.Rows.{Then-goes_on, Then-refused}
use Rattle.shelf.proofs.restoring.restore.Goals as goal

pub returns-in_err-bytes : goal.returns-in_err-bytes
returns-in_err-bytes g c =
    let p = err_from_is_err_and c.from_residual.result c.from_residual.ensures.1 in
    let e = c.in_err-bytes.ensures in
    rw (p.1, p.2) (λ entropy. Then-refused _ _ _ _ _ (record { told = e.answer; within = e.within; word = e.word; cause = e.cause; keeps = e.keeps; asked = e.asked; unstored = e.unstored; disk = refl; holding = refl; entropy = refl }))

pub returns-in_err-restore : goal.returns-in_err-restore
returns-in_err-restore g c =
    let p = err_from_is_err_and c.from_residual-in_err-restore.result c.from_residual-in_err-restore.ensures.1 in
    let e = c.in_ok-bytes.ensures in
    rw (p.1, p.2) (λ entropy. Then-goes_on _ _ _ _ _ _ _ (record { told = e.answer; within = e.within; word = e.word; cause = e.cause; keeps = e.keeps; asked = e.asked; unstored = e.unstored; disk = refl; holding = refl; entropy = refl })
    (Then-refused _ _ _ _ _ (record { restores = subst (λ (b : List ℕ). Restores b c.args.force (g.D.Disk.state c.args.disk.now) (Err c.in_err-restore.field-0.0) (g.D.Disk.state c.restore.new.disk)) c.as_slice.ensures c.in_err-restore.ensures; holding = refl; outside = record { cabinet = refl; entropy = refl } })))

pub returns : goal.returns
returns g c =
    let e = c.in_ok-bytes.ensures in
    λ entropy. Then-goes_on _ _ _ _ _ _ _ (record { told = e.answer; within = e.within; word = e.word; cause = e.cause; keeps = e.keeps; asked = e.asked; unstored = e.unstored; disk = refl; holding = refl; entropy = refl })
    (Then-goes_on _ _ _ _ _ _ _ (record { restores = rw c.as_slice.ensures at c.in_ok-restore.ensures; holding = refl; outside = record { cabinet = refl; entropy = refl } }) (refl, refl))
