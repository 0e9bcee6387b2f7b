use Rattle.std.proofs.Common.{arith, ap, ◌∙◌, ◌≡◌, ◌≤◌, length, take, drop, List, ℕ}
use Rattle.std.proofs.lemmas.List.{take_at, take_rest, length-take-le}
use Rattle.std.proofs.lemmas.Grind.{common_steps}
use Rattle.crash_disk.proofs.Streams.{left_split}
use Rattle.crash_disk.proofs.mem_source.MemSourceSource.take.Goals as goal

pub returns-else-count-eq0-clause-bytes : goal.returns-else-count-eq0-clause-bytes
returns-else-count-eq0-clause-bytes c =
    let bytes = c.deref-2.result.now in
    let given = c.self.inside.given in
    let count = c.min-count.result in
    let filled = c.copy_from_slice.new.self in
    let into = c.args.into.now in
    let small : count ≤ length into = grind (arith, common_steps) in
    let size : length filled ≡ count = c.copy_from_slice.auto.self ∙ length-take-le count into small in
    let first =
    take_at filled (drop count into) count size
    ∙ c.copy_from_slice.ensures.after
    ∙ ap (take count) (take_rest bytes given)
    ∙ ap (λ (l : List ℕ). take count (drop given l)) c.deref-2.ensures.value in
    rw (← c.self.view_is) (left_split c.self.inside.bytes.items _ given count first)
