use Rattle.std.proofs.Common.{◌≡◌, drop}
use Rattle.command_words.specs.Table.{entry}
use Rattle.command_words.proofs.table.entry.Given as goal

-- The letters that are left decide.
abbrev pub invariant-loop-own : goal.invariant-loop-own
invariant-loop-own g l = entry l.letter (drop l.own-index l.letters) ≡ entry l.letter l.letters
