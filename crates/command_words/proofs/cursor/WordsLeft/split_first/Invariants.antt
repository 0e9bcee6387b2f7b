use Rattle.std.proofs.Common.{◌≡◌, ◌+◌, length, cond}
use Rattle.command_words.specs.Cursor.{left}
use Rattle.command_words.proofs.cursor.WordsLeft.split_first.Given as goal

-- What is left gives the words, and none was taken.
abbrev pub invariant-loop-words : goal.invariant-loop-words
invariant-loop-words l = (left l.words ≡ left l.fn.self) × (l.words.number ≡ l.fn.self.number)

abbrev pub decreases-loop-words : goal.decreases-loop-words
decreases-loop-words l = cond l.words.ended 0 (length l.words.rest.now + 1)
