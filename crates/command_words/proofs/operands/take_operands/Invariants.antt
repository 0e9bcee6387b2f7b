use Rattle.std.proofs.Common.{◌≡◌, [], length}
use Rattle.command_words.specs.Cursor.{left}
use Rattle.command_words.specs.Operands.{operands_of}
use Rattle.command_words.specs.Pass.{taken_operands}
use Rattle.command_words.proofs.operands.take_operands.Given as goal

-- What the operands that are left come to is what all of them do.
abbrev pub invariant-operands : goal.invariant-operands
invariant-operands l = taken_operands l.form (left l.at) l.operands ≡ taken_operands l.fn.form (left l.words) (operands_of [] [])

abbrev pub decreases-operands : goal.decreases-operands
decreases-operands l = length l.form
