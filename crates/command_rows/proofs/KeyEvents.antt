-- The events of `setkey` and `delkey`.
use Rattle.command_rows.specs.Rows.{Reach, Then}
use Rattle.command_rows.specs.Vocabulary.{DiskState, Event, Refusal}
use Rattle.std.proofs.Common.{List, Ok, Result, false, ◌∙◌, ◌≡◌}
use Rattle.command_rows.proofs.Events.{Did, Quiet, Step, did_then}

-- ---- events after steps without events, on a disk of the same size

abbrev pub DoesFrom : {A : Type 0} → (List Event → Type 0) → DiskState → Step A → Type 0
DoesFrom {A} Row start R = (old : Reach) (answer : Result A Refusal) (new : Reach) → old.disk.size ≡ start.size → R old answer new → Did Row false old.disk answer new.disk

pub after_quiet : {A B : Type 0} {First : Step A} {Next : A → Step B} (Row : List Event → Type 0) (start : DiskState) → Quiet First → ((a : A) → DoesFrom Row start (Next a)) → DoesFrom Row start (Then First Next)
after_quiet Row start quiet next old answer new size h =
    did_then Row false old answer new h quiet
    (λ a middle first behind. next a middle answer new ((quiet old (Ok a) middle first).size ∙ size) behind)
