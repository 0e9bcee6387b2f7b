use Rattle.std.proofs.Common.{◌≡◌, ◌+◌, ◌*◌, ◌/◌, ◌%◌, ◌<◌, ℕ, refl, subst, ap, ◌∙◌, arith}
use Rattle.std.proofs.lemmas.Grind.{common_steps}
use Rattle.std.proofs.Math.Nat.{div-add-mod}
use Rattle.sealing.specs.Sectors.{units}
use Rattle.sector_runs.proofs.Verdicts.{judged_at, judges_one, unit_sized}
use Rattle.sector_runs.proofs.judging.judge_one.Goals as goal

pub returns : goal.returns
returns c =
    let k = c.args.ring.now.keying in
    let n = c.args.n in
    let u = c.unit-unit in
    let all : ℕ = c.layout-units.result.units in
    let count = c.layout-units.ensures.units in
    let some = c.layout-units.result.some_units in
    let lt : n % all < all = omega (arith, some) in
    let cut : n ≡ n / all * all + n % all = omega (arith, div-add-mod n all) in
    let at : n ≡ n / all * units k + n % all = cut ∙ ap (λ (r : ℕ). n / all * r + n % all) count in
    let here : n + 0 ≡ n = omega arith in
    judges_one k n c.args.device.now _ refl (omega (arith, c.requires.some))
    (c.unit_accepted-accepted.ensures
    ∙ judged_at k n 0 u.result.offset _ c.args.device.now _ (omega (arith, u.ensures.offset, at)) (unit_sized k (n / all) (n % all) (n + 0) u.result.start u.result.end (subst (λ (r : ℕ). n % all < r) count lt) u.ensures.bytes (here ∙ at)) c.sector_of-from.ensures)

pub invariant_of-result : goal.invariant_of-result
invariant_of-result c = grind (arith, common_steps) steps 400000
