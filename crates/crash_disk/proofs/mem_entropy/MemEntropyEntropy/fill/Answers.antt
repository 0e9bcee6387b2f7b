use Rattle.std.proofs.Common.{ap, ◌∙◌, sym, length, take, drop, List, ℕ}
use Rattle.std.proofs.lemmas.List.{take_rest}
use Rattle.crash_disk.proofs.Streams.{left_split}
use Rattle.crash_disk.proofs.mem_entropy.MemEntropyEntropy.fill.Goals as goal

pub returns-clause-ok : goal.returns-clause-ok
returns-clause-ok c =
    let bytes = c.deref.result.now in
    let used = c.self.inside.used in
    let filled = c.copy_from_slice.new.self in
    let first =
    c.copy_from_slice.ensures.after
    ∙ ap (take (length c.args.into.now)) (take_rest bytes used)
    ∙ ap (λ (n : ℕ). take n (drop used bytes)) (sym c.copy_from_slice.auto.self)
    ∙ ap (λ (l : List ℕ). take (length filled) (drop used l)) c.deref.ensures.value in
    rw (← c.self.view_is) (left_split c.self.inside.bytes.items filled used (length filled) first)
