use Rattle.std.proofs.Common.{◌≡◌, ℕ, Err, Ok, refl, subst, sym, arith}
use Rattle.std.proofs.lemmas.Grind.{common_steps}
use Rattle.std.proofs.lemmas.Result.{err_from_is_err_and}
use Rattle.command_rows.specs.Vocabulary.{settings_of}
use Rattle.shelf.proofs.Rows.{Then-goes_on, Then-refused, loaded}
use Rattle.shelf.proofs.set_key.setkey_attached.Goals as goal
use Rattle.command_rows.specs.verbs.Setkey.{usable}

pub returns-in_err-meta-clause-row : goal.returns-in_err-meta-clause-row
returns-in_err-meta-clause-row g c =
    let p = err_from_is_err_and c.from_residual.result c.from_residual.ensures.1 in
    λ holding entropy. rw (p.1, p.2) (Then-refused _ _ _ _ _ (record { reads = c.in_err-meta.ensures.reads; holding = refl; outside = record { cabinet = refl; entropy = refl } }))

pub returns-in_err-fit-clause-row : goal.returns-in_err-fit-clause-row
returns-in_err-fit-clause-row g c =
    let p = err_from_is_err_and c.from_residual-in_err-fit.result c.from_residual-in_err-fit.ensures.1 in
    let A : ℕ → Type 0 = λ n. usable c.in_ok-meta.meta n ≡ Err c.in_err-fit.field-0.0 in
    let refused = subst A c.sectors.ensures c.in_err-fit.ensures.answer in
    λ holding entropy. rw (p.1, p.2) (Then-goes_on _ _ _ _ _ _ _ (record { reads = c.in_ok-meta.ensures.reads; holding = refl; outside = record { cabinet = refl; entropy = refl } })
    (Then-refused _ _ _ _ _ (sym refused, refl)))

pub returns-in_err-needs_slot-clause-row : goal.returns-in_err-needs_slot-clause-row
returns-in_err-needs_slot-clause-row g c =
    let p = err_from_is_err_and c.from_residual-in_err-needs_slot.result c.from_residual-in_err-needs_slot.ensures.1 in
    let A : ℕ → Type 0 = λ n. usable c.in_ok-meta.meta n ≡ Ok (settings_of c.in_ok-fit.field-0) in
    let passed = subst A c.sectors.ensures c.in_ok-fit.ensures.answer in
    λ holding entropy. rw (p.1, p.2) (Then-goes_on _ _ _ _ _ _ _ (record { reads = c.in_ok-meta.ensures.reads; holding = refl; outside = record { cabinet = refl; entropy = refl } })
    (Then-goes_on _ _ _ _ _ _ _ (sym passed, refl)
    (Then-refused _ _ _ _ _ (c.in_err-needs_slot.ensures, refl))))

pub returns-in_err-parts-clause-row : goal.returns-in_err-parts-clause-row
returns-in_err-parts-clause-row g c =
    let p = err_from_is_err_and c.from_residual-in_err-parts.result c.from_residual-in_err-parts.ensures.1 in
    let A : ℕ → Type 0 = λ n. usable c.in_ok-meta.meta n ≡ Ok (settings_of c.in_ok-fit.field-0) in
    let passed = subst A c.sectors.ensures c.in_ok-fit.ensures.answer in
    let e = c.in_err-parts.ensures in
    λ holding entropy. rw (p.1, p.2) (Then-goes_on _ _ _ _ _ _ _ (record { reads = c.in_ok-meta.ensures.reads; holding = refl; outside = record { cabinet = refl; entropy = refl } })
    (Then-goes_on _ _ _ _ _ _ _ (sym passed, refl)
    (Then-goes_on _ _ _ _ _ _ _ (c.in_ok-needs_slot.ensures, refl)
    (Then-refused _ _ _ _ _ (loaded _ _ _ _ _ _ _ _ e.answer e.fits e.stops e.keeps e.named e.asked e.unstored)))))

pub returns-clause-row : goal.returns-clause-row
returns-clause-row g c =
    let A : ℕ → Type 0 = λ n. usable c.in_ok-meta.meta n ≡ Ok (settings_of c.in_ok-fit.field-0) in
    let passed = subst A c.sectors.ensures c.in_ok-fit.ensures.answer in
    let e = c.in_ok-parts.ensures in
    λ holding entropy. Then-goes_on _ _ _ _ _ _ _ (record { reads = c.in_ok-meta.ensures.reads; holding = refl; outside = record { cabinet = refl; entropy = refl } })
    (Then-goes_on _ _ _ _ _ _ _ (sym passed, refl)
    (Then-goes_on _ _ _ _ _ _ _ (c.in_ok-needs_slot.ensures, refl)
    (Then-goes_on _ _ _ _ _ _ _ (loaded _ _ _ _ _ _ _ _ e.answer e.fits e.stops e.keeps e.named e.asked e.unstored)
    (c.store_key.ensures.stores _ _ _))))

pub returns-in_err-meta-clause-rest : goal.returns-in_err-meta-clause-rest
returns-in_err-meta-clause-rest g c = grind (arith, common_steps) steps 400000

pub returns-in_err-fit-clause-rest : goal.returns-in_err-fit-clause-rest
returns-in_err-fit-clause-rest g c = grind (arith, common_steps) steps 400000

pub returns-in_err-needs_slot-clause-rest : goal.returns-in_err-needs_slot-clause-rest
returns-in_err-needs_slot-clause-rest g c = grind (arith, common_steps) steps 400000

pub returns-in_err-parts-clause-rest : goal.returns-in_err-parts-clause-rest
returns-in_err-parts-clause-rest g c = grind (arith, common_steps)

pub returns-clause-rest : goal.returns-clause-rest
returns-clause-rest g c = grind (arith, common_steps)
