use Rattle.std.proofs.Common.{◌≡◌, suc, ◌+◌, ◌-◌, arith}
use Rattle.std.proofs.lemmas.Grind.{common_steps}
use Rattle.hmac_kdf.proofs.Iterates.{first_iterate, next_iterate, first_sum, next_sum}
use Rattle.hmac_kdf.proofs.kdf.pbkdf2_sha512.Goals as goal

pub loop-done-init : goal.loop-done-init
loop-done-init c =
    let p = c.args.pass.now in
    let s = c.args.salt.now in
    let first = first_iterate p s _ (c.first_iterate-iterate.ensures p c.new-keyed.ensures) in
    (first, first_sum p s _ first)

pub loop-done-preserved : goal.loop-done-preserved
loop-done-preserved c =
    let p = c.args.pass.now in
    let s = c.args.salt.now in
    let at : c.loop-done._done + 1 - 1 ≡ suc (c.loop-done._done - 1) = omega arith in
    let next = next_iterate p s _ _ (c.loop-done._done - 1) c.loop-done.invariant.0 (c.next_iterate-iterate.ensures p c.new-keyed.ensures) in
    rw at (next, next_sum p s _ _ _ (c.loop-done._done - 1) c.loop-done.invariant.1 next c.xored.ensures)

pub returns : goal.returns
returns c = grind (arith, common_steps) steps 400000
