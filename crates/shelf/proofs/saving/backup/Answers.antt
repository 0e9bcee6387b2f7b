use Rattle.std.proofs.lemmas.Result.{err_from_is_err_and}
use Rattle.shelf.proofs.PlaceRows.{backup_refused, backup_stored}
use Rattle.shelf.proofs.saving.backup.Goals as goal

pub returns-in_err-backup-clause-row : goal.returns-in_err-backup-clause-row
returns-in_err-backup-clause-row g c =
    let p = err_from_is_err_and c.from_residual.result c.from_residual.ensures.1 in
    rw (p.1, p.2) (λ holding entropy. backup_refused _ _ holding _ entropy _ _ _ _ _ c.in_err-backup.ensures.saves)

pub returns-clause-row : goal.returns-clause-row
returns-clause-row g c = λ holding entropy. backup_stored _ _ holding _ entropy _ _ _ _ _ c.in_ok-backup.ensures.saves (c.store_at.ensures _ holding entropy)
