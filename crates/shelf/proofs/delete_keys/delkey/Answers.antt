use Rattle.std.proofs.Common.{refl}
use Rattle.std.proofs.lemmas.Result.{err_from_is_err_and}
use Rattle.shelf.proofs.Rows.{Then-goes_on, Then-refused}
use Rattle.shelf.proofs.delete_keys.delkey.Goals as goal

pub returns-in_err-meta-clause-row : goal.returns-in_err-meta-clause-row
returns-in_err-meta-clause-row g c =
    let p = err_from_is_err_and c.from_residual.result c.from_residual.ensures.1 in
    λ holding cabinet. rw (p.1, p.2) (Then-refused _ _ _ _ _ (record { reads = c.in_err-meta.ensures.reads; holding = refl; outside = record { cabinet = refl; entropy = refl } }))

pub returns-in_err-which-clause-row : goal.returns-in_err-which-clause-row
returns-in_err-which-clause-row g c =
    let p = err_from_is_err_and c.from_residual-in_err-which.result c.from_residual-in_err-which.ensures.1 in
    λ holding cabinet. rw (p.1, p.2) (Then-goes_on _ _ _ _ _ _ _ (record { reads = c.in_ok-meta.ensures.reads; holding = refl; outside = record { cabinet = refl; entropy = refl } })
    (Then-refused _ _ _ _ _ (c.in_err-which.ensures, refl)))

pub returns-in-Ok-clause-row : goal.returns-in-Ok-clause-row
returns-in-Ok-clause-row g c = λ holding cabinet.
    Then-goes_on _ _ _ _ _ _ _ (record { reads = c.in_ok-meta.ensures.reads; holding = refl; outside = record { cabinet = refl; entropy = refl } })
    (Then-goes_on _ _ _ _ _ _ _ (c.in_ok-which.ensures, refl)
    (record { made = c.delkey.result; deletes = c.delkey.ensures.deletes; answered = rw c.in-Ok.is refl; holding = refl; cabinet = refl }))

pub returns-in-Err-clause-row : goal.returns-in-Err-clause-row
returns-in-Err-clause-row g c = λ holding cabinet.
    Then-goes_on _ _ _ _ _ _ _ (record { reads = c.in_ok-meta.ensures.reads; holding = refl; outside = record { cabinet = refl; entropy = refl } })
    (Then-goes_on _ _ _ _ _ _ _ (c.in_ok-which.ensures, refl)
    (record { made = c.delkey.result; deletes = c.delkey.ensures.deletes; answered = rw c.in-Err.is refl; holding = refl; cabinet = refl }))
