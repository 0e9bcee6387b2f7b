use Rattle.std.proofs.Common.{◌≡◌, length}
use Rattle.command_words.specs.Cursor.{left}
use Rattle.command_words.specs.Table.{are_named}
use Rattle.command_words.proofs.table.are_named.Given as goal

-- The operands that are left decide.
abbrev pub invariant-operands : goal.invariant-operands
invariant-operands l = are_named l.form (left l.at) ≡ are_named l.fn.form (left l.words)

abbrev pub decreases-operands : goal.decreases-operands
decreases-operands l = length l.form
