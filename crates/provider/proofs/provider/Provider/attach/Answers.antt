use Rattle.std.proofs.Common.{refl}
use Rattle.provider.specs.Answers.{Means, Target}
use Rattle.provider.proofs.Checked.{checked}
use Rattle.provider.proofs.OpenedSlots.{attached_so, none_attached, without_memory}
use Rattle.provider.proofs.provider.Provider.attach.Goals as goal

pub returns-in-Err : goal.returns-in-Err
returns-in-Err g c =
    let t : Target = record { meta = c.args.meta.now; params = c.args.params.now; disk = g.D.Disk.state c.args.disk } in
    let by : Means = record { key = c.args.key.now.bytes; named = c.args.slot; readonly = c.args.readonly } in
    let is = checked t.meta t.params t.disk.size c.requires.checked c.requires.size in
    (refl, none_attached t by c.in-Err.fault is c.in-Err.ensures)

pub returns-in-Err-attach_opened : goal.returns-in-Err-attach_opened
returns-in-Err-attach_opened g c =
    let t : Target = record { meta = c.args.meta.now; params = c.args.params.now; disk = g.D.Disk.state c.args.disk } in
    let by : Means = record { key = c.args.key.now.bytes; named = c.args.slot; readonly = c.args.readonly } in
    let is = checked t.meta t.params t.disk.size c.requires.checked c.requires.size in
    (c.in-Err-attach_opened.ensures.back, without_memory t by c.in-Ok.found.slot c.in-Ok.found.master.bytes is c.in-Ok.ensures)

pub returns-in-Ok-attach_opened : goal.returns-in-Ok-attach_opened
returns-in-Ok-attach_opened g c =
    let t : Target = record { meta = c.args.meta.now; params = c.args.params.now; disk = g.D.Disk.state c.args.disk } in
    let by : Means = record { key = c.args.key.now.bytes; named = c.args.slot; readonly = c.args.readonly } in
    let is = checked t.meta t.params t.disk.size c.requires.checked c.requires.size in
    attached_so t by c.args.disk c.in-Ok.found.slot c.in-Ok.found.master c.in-Ok-attach_opened.provider is c.in-Ok.ensures c.in-Ok-attach_opened.ensures.attached
