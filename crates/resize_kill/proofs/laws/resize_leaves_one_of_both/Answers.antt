use Rattle.resize_kill.proofs.Moved.{KeepsAlone-Moves, KeepsOneOf-Moves, KeepsOneOf-MovesPart}
use Rattle.resize_kill.proofs.laws.resize_leaves_one_of_both.Goals as goal

pub returns-clause-done : goal.returns-clause-done
returns-clause-done c = λ oldsize disk disk' entropy entropy' moves.
    (KeepsOneOf-Moves oldsize disk disk' entropy entropy' moves, KeepsAlone-Moves oldsize disk disk' entropy entropy' moves)

pub returns-clause-part : goal.returns-clause-part
returns-clause-part c = KeepsOneOf-MovesPart
