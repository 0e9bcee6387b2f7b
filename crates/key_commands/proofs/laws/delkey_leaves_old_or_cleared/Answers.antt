use Rattle.key_commands.proofs.Passes.{KeepsAlone-Deletes, Overwrites-Deletes, Overwrites-DeletesPart}
use Rattle.key_commands.proofs.laws.delkey_leaves_old_or_cleared.Goals as goal

pub returns-clause-done : goal.returns-clause-done
returns-clause-done c = λ asked disk disk' entropy entropy' m h. (Overwrites-Deletes asked disk entropy m disk' entropy' h, KeepsAlone-Deletes asked disk entropy m disk' entropy' h)

pub returns-clause-part : goal.returns-clause-part
returns-clause-part c = λ asked disk disk' entropy entropy' h. Overwrites-DeletesPart asked disk entropy disk' entropy' h
