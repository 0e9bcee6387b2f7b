use Rattle.std.proofs.Common.{◌≡◌, Bool, ap, refl, ◌∙◌, arith}
use Rattle.std.proofs.lemmas.Grind.{common_steps}
use Rattle.provider.proofs.Checked.{checked}
use Rattle.provider.specs.Answers.{Means, Target}
use Rattle.provider.specs.Attached.{attached_with}
use Rattle.suspend.proofs.Resumed.{back_so, resumed_so}
use Rattle.suspend.specs.Suspension.{Suspension}
use Rattle.suspend.proofs.suspended.Suspended.resume.Goals as goal

pub returns-in-Err : goal.returns-in-Err
returns-in-Err g c = (refl, c.in-Err.ensures)

pub returns-in-Err-attach_opened : goal.returns-in-Err-attach_opened
returns-in-Err-attach_opened g c = (
  back_so c.in-Err-attach_opened.disk c.self.inside.disk c.self.inside.kept.sectorsize c.self.inside.kept.sectors c.self.inside.kept.slot c.self.inside.kept.readonly c.self.inside.kept.mark c.args.self
      c.in-Err-attach_opened.ensures.back c.self.view_is,
  record { slot = c.in-Ok.found.slot; master = c.in-Ok.found.master.bytes; opens = c.in-Ok.ensures.0; same = c.in-Ok.ensures.1 },
)

pub returns-in-Ok-attach_opened : goal.returns-in-Ok-attach_opened
returns-in-Ok-attach_opened g c =
    let t : Target = record { meta = c.args.meta.now; params = c.args.params.now; disk = g.D.Disk.state c.args.self.disk } in
    let by : Means = record { key = c.args.key.now.bytes; named = c.args.slot; readonly = c.args.self.readonly } in
    let is = checked t.meta t.params t.disk.size c.requires.checked c.requires.size in
    let readonly : c.self.inside.kept.readonly ≡ c.args.self.readonly = ap (λ (s : Suspension g.row.D.Denot). s.readonly) c.self.view_is in
    let disk : c.self.inside.disk ≡ c.args.self.disk = ap (λ (s : Suspension g.row.D.Denot). s.disk) c.self.view_is in
    resumed_so t by c.args.self c.in-Ok.found.slot c.in-Ok.found.master c.in-Ok-attach_opened.provider is c.in-Ok.ensures.0 c.in-Ok.ensures.1
    (c.in-Ok-attach_opened.ensures.attached ∙ ap (λ (r : Bool). attached_with t.params c.in-Ok.found.master c.in-Ok.found.slot r c.self.inside.disk) readonly
    ∙ ap (λ (d : g.row.D.Denot). attached_with t.params c.in-Ok.found.master c.in-Ok.found.slot by.readonly d) disk)

pub invariant_of-result : goal.invariant_of-result
invariant_of-result g c = grind (arith, common_steps) steps 400000
