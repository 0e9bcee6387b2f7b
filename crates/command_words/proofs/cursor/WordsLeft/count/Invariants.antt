use Rattle.std.proofs.Common.{◌≡◌, ◌+◌, length}
use Rattle.command_words.specs.Cursor.{left}
use Rattle.command_words.proofs.cursor.WordsLeft.count.Given as goal

-- The words that were taken and those that are left are all.
abbrev pub invariant-count : goal.invariant-count
invariant-count l = l.words.number + length (left l.words) ≡ l.fn.self.number + length (left l.fn.self)

abbrev pub decreases-count : goal.decreases-count
decreases-count l = length (left l.words)
