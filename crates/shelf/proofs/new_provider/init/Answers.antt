use Rattle.std.proofs.Common.{refl}
use Rattle.std.proofs.lemmas.Result.{err_from_is_err_and}
use Rattle.shelf.proofs.Rows.{Then-goes_on, Then-refused, loaded}
use Rattle.shelf.proofs.new_provider.init.Goals as goal

pub returns-in_err-parts : goal.returns-in_err-parts
returns-in_err-parts g c =
    let p = err_from_is_err_and c.from_residual.result c.from_residual.ensures.1 in
    let e = c.in_err-parts.ensures in
    rw (p.1, p.2) (Then-refused _ _ _ _ _ (loaded _ _ _ _ _ _ _ _ e.answer e.fits e.stops e.keeps e.named e.asked e.unstored))

pub returns-in_err-meta : goal.returns-in_err-meta
returns-in_err-meta g c =
    let p = err_from_is_err_and c.from_residual-in_err-meta.result c.from_residual-in_err-meta.ensures.1 in
    let e = c.in_ok-parts.ensures in
    rw (p.1, p.2) (Then-goes_on _ _ _ _ _ _ _ (loaded _ _ _ _ _ _ _ _ e.answer e.fits e.stops e.keeps e.named e.asked e.unstored)
    (Then-refused _ _ _ _ _ (record { inits = c.in_err-meta.ensures; holding = refl; cabinet = refl })))

pub returns : goal.returns
returns g c =
    let e = c.in_ok-parts.ensures in
    Then-goes_on _ _ _ _ _ _ _ (loaded _ _ _ _ _ _ _ _ e.answer e.fits e.stops e.keeps e.named e.asked e.unstored)
    (Then-goes_on _ _ _ _ _ _ _ (record { inits = c.in_ok-meta.ensures; holding = refl; cabinet = refl }) (c.back_up.ensures _ _ _))
