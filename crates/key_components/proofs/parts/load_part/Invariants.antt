use Rattle.std.proofs.Common.{◌≡◌, ◌≤◌, take, length}
use Rattle.block_traits.specs.Causes.{Counted}
use Rattle.key_components.specs.Answers.{KeepsFiles}
use Rattle.key_components.specs.Parts.{limit_of, taking_of}
use Rattle.key_components.proofs.Taken.{TakenSo}
use Rattle.key_components.proofs.parts.load_part.Given as goal

-- the files so far were loaded without a refusal, each once
abbrev pub invariant-loop-span : goal.invariant-loop-span
invariant-loop-span g l =
    let cabinet = g.C.Cabinet.state in
    TakenSo (taking_of l.part) (g.C.Cabinet.state l.initial.files).files l.line (take l.span-index l.spans) l.joined
    × (length l.joined ≤ limit_of l.part)
    × KeepsFiles (cabinet l.initial.files) (cabinet l.files)
    × Counted l.span-index (cabinet l.initial.files).loads (cabinet l.files).loads
    × ((cabinet l.files).stores ≡ (cabinet l.initial.files).stores)
