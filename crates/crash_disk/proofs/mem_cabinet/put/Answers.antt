use Rattle.std.proofs.Common.{Some, None, ap, ◌∙◌}
use Rattle.crash_disk.specs.MemCabinet.{file_place}
use Rattle.crash_disk.proofs.Cabinets.{files_of-put_at}
use Rattle.crash_disk.proofs.mem_cabinet.put.Goals as goal

pub returns-in-Some-clause-ok : goal.returns-in-Some-clause-ok
returns-in-Some-clause-ok c =
    let found = c.in-Some.ensures.place ∙ ap (file_place c.args.name.now) c.deref.ensures.value in
    files_of-put_at c.args.name.now c.args.bytes.now c.args.files.now.items (Some c.in-Some.place) c.in_ok-file.file found c.in_ok-file.ensures

pub returns-in_ok-push-in-None-clause-ok : goal.returns-in_ok-push-in-None-clause-ok
returns-in_ok-push-in-None-clause-ok c =
    let found = c.in-None.ensures.place ∙ ap (file_place c.args.name.now) c.deref.ensures.value in
    rw c.in_ok-push-in-None.ensures.items (files_of-put_at c.args.name.now c.args.bytes.now c.args.files.now.items None c.in_ok-file.file found c.in_ok-file.ensures)
