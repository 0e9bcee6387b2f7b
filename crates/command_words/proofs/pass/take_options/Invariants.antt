use Rattle.std.proofs.Common.{◌≡◌, ◌+◌, ℕ, [], None, length}
use Rattle.command_words.specs.Cursor.{left}
use Rattle.command_words.specs.Pass.{taken_options}
use Rattle.command_words.specs.Settings.{settings_given}
use Rattle.command_words.proofs.pass.take_options.Given as goal

-- What the words that are left come to is what all of them do, and the count of words stays.
abbrev pub invariant-words : goal.invariant-words
invariant-words l =
    let total : ℕ = l.words.number + length (left l.words) in
    (taken_options l.verb total (left l.at) l.settings l.waiting ≡ taken_options l.verb total (left l.words) (settings_given []) None)
    × (l.at.number + length (left l.at) ≡ total)

abbrev pub decreases-words : goal.decreases-words
decreases-words l = length (left l.at)
