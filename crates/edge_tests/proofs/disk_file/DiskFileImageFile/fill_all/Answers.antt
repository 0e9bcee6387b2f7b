use Rattle.std.proofs.Common.{ap, ◌∙◌, sym, length, take, drop, List, ℕ}
use Rattle.std.proofs.lemmas.List.{take_rest}
use Rattle.crash_disk.proofs.Streams.{left_split}
use Rattle.edge_tests.proofs.disk_file.DiskFileImageFile.fill_all.Goals as goal

pub returns-clause-ok : goal.returns-clause-ok
returns-clause-ok g c =
    let bytes = c.deref.result.now in
    let given = c.args.self.now.given in
    let filled = c.copy_from_slice.new.self in
    let first =
    c.copy_from_slice.ensures.after
    ∙ ap (take (length c.args.into.now)) (take_rest bytes given)
    ∙ ap (λ (n : ℕ). take n (drop given bytes)) (sym c.copy_from_slice.auto.self)
    ∙ ap (λ (l : List ℕ). take (length filled) (drop given l)) c.deref.ensures.value in
    left_split c.args.self.now.bytes.items filled given (length filled) first
