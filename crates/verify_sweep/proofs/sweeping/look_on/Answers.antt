use Rattle.std.proofs.Common.{◌≡◌, ◌*◌, ◌/◌, ℕ, length, refl, sym, subst, ap, ◌∙◌, arith}
use Rattle.std.proofs.lemmas.Grind.{common_steps}
use Rattle.std.proofs.lemmas.List.{length-take-le}
use Rattle.block_traits.specs.Causes.{Counted}
use Rattle.block_traits.specs.Disk.{DiskState}
use Rattle.block_traits.specs.Parts.{parts}
use Rattle.eli_base.specs.Keying.{Keying}
use Rattle.verify_sweep.specs.Sweeping.{Lists, Looks, failing_units}
use Rattle.verify_sweep.proofs.Listing.{Looks-some, gives_one}
use Rattle.verify_sweep.proofs.sweeping.look_on.Goals as goal

pub returns-then-look-clause-ok : goal.returns-then-look-clause-ok
returns-then-look-clause-ok g c =
    let old = g.D.Disk.state c.args.on.now.disk in
    let new = g.D.Disk.state c.look.new.self.disk in
    let n = c.args.n in
    let many = c.looked_at-many.result in
    let now = c.list_all-now.result in
    let device = c.look.new.into in
    let before = c.args.found.now in
    let after = c.list_all-now.new.found in
    let seen = c.if-look.ensures in
    let long : length device ≡ 512 * many = c.look.auto.into ∙ length-take-le (512 * many) c.args.window.now (omega arith) in
    let count : length device / 512 ≡ many = omega (arith, long) in
    let lists = subst (λ (k : Keying). Lists (failing_units k n (parts 512 (length device / 512) device)) c.args.bad now before after) seen.kept.keying c.list_all-now.ensures in
    let asked : Counted many old.reads new.reads = subst (λ (m : ℕ). Counted m old.reads new.reads) (ap (λ (m : ℕ). m / 512) (sym c.look.auto.into) ∙ count) (seen.asked refl) in
    Looks-some c.args.on.now.keying n many c.args.bad now device before after old new long (seen.stand refl) lists asked (seen.logs refl)

pub returns-clause-ok : goal.returns-clause-ok
returns-clause-ok g c =
    let new = g.D.Disk.state c.get_unit.new.self.disk in
    let n = c.args.n in
    let now = c.list_all-now-2.result in
    let unit = c.get_unit.new.into in
    let before = c.args.found.now in
    let after = c.list_all-now-2.new.found in
    let seen = c.in_ok-get_unit.ensures in
    let missed = c.if-look.ensures.missed refl in
    let kept = seen.kept.keying ∙ c.if-look.ensures.kept.keying in
    let long : length unit ≡ 512 = omega arith in
    let lists = subst (λ (k : Keying). Lists (failing_units k n (parts 512 (length unit / 512) unit)) c.args.bad now before after) kept c.list_all-now-2.ensures in
    subst (λ (disk : DiskState). Looks c.args.on.now.keying n 1 c.args.bad now before after disk new) missed
    (Looks-some c.args.on.now.keying n 1 c.args.bad now unit before after (g.D.Disk.state c.look.new.self.disk) new (omega (arith, long)) (gives_one _ n unit long seen.bytes) lists seen.asked seen.ok)

pub returns-then-look-clause-many : goal.returns-then-look-clause-many
returns-then-look-clause-many g c = grind (arith, common_steps) steps 400000

pub returns-then-look-clause-err : goal.returns-then-look-clause-err
returns-then-look-clause-err g c = grind (arith, common_steps) steps 400000

pub returns-then-look-clause-kept : goal.returns-then-look-clause-kept
returns-then-look-clause-kept g c = grind (arith, common_steps) steps 400000

pub returns-in_err-get_unit-clause-many : goal.returns-in_err-get_unit-clause-many
returns-in_err-get_unit-clause-many g c = grind (arith, common_steps)

pub returns-in_err-get_unit-clause-ok : goal.returns-in_err-get_unit-clause-ok
returns-in_err-get_unit-clause-ok g c = grind (arith, common_steps)

pub returns-in_err-get_unit-clause-err : goal.returns-in_err-get_unit-clause-err
returns-in_err-get_unit-clause-err g c = grind (arith, common_steps)

pub returns-in_err-get_unit-clause-kept : goal.returns-in_err-get_unit-clause-kept
returns-in_err-get_unit-clause-kept g c = grind (arith, common_steps) steps 400000

pub returns-clause-many : goal.returns-clause-many
returns-clause-many g c = grind (arith, common_steps) steps 400000

pub returns-clause-err : goal.returns-clause-err
returns-clause-err g c = grind (arith, common_steps) steps 400000

pub returns-clause-kept : goal.returns-clause-kept
returns-clause-kept g c = grind (arith, common_steps) steps 400000
