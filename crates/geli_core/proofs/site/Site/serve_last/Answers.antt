use Rattle.std.proofs.Common.{◌≡◌, ◌≤◌, arith, length}
use Rattle.std.proofs.lemmas.Result.{err_from_is_err_and}
use Rattle.std.proofs.lemmas.Grind.{common_steps}
use Rattle.geli_core.proofs.Endings.{all_served-line, all_served-none, all_unprinted-line, no_bytes}
use Rattle.geli_core.proofs.site.Site.serve_last.Goals as goal

pub returns-then-is_empty-clause-ends : goal.returns-then-is_empty-clause-ends
returns-then-is_empty-clause-ends g c =
    let none : length c.args.line.now ≡ 0 = grind (arith, common_steps) in
    λ bytes old h. all_served-none bytes old _ c.args.line.now c.args.refused (no_bytes c.args.line.now none) h

pub returns-in_err-end-clause-ends : goal.returns-in_err-end-clause-ends
returns-in_err-end-clause-ends g c =
    let p = err_from_is_err_and c.from_residual.result c.from_residual.ensures.1 in
    let some : 1 ≤ length c.args.line.now = grind (arith, common_steps) in
    λ bytes old h. rw p.1 (all_unprinted-line bytes old _ _ c.args.line.now c.args.refused _ some c.requires h c.in_err-end.ensures.serves)

pub returns-clause-ends : goal.returns-clause-ends
returns-clause-ends g c =
    let some : 1 ≤ length c.args.line.now = grind (arith, common_steps) in
    λ bytes old h. rw (c.either.ensures, c.is_refusal.ensures) (all_served-line bytes old _ _ c.args.line.now c.args.refused c.in_ok-end.end some c.requires h c.in_ok-end.ensures.serves)
