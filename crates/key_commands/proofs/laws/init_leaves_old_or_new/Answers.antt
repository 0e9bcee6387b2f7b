use Rattle.eli_metadata.proofs.Replaced.{KeepsOldOr-replace, KeepsOldOr-replace_part}
use Rattle.key_commands.proofs.Making.{KeepsAlone-replace}
use Rattle.key_commands.proofs.laws.init_leaves_old_or_new.Goals as goal

pub returns-clause-done : goal.returns-clause-done
returns-clause-done c = λ options parts disk disk' entropy entropy' m h. (KeepsOldOr-replace disk disk' m h.logs, KeepsAlone-replace disk disk' m h.logs)

pub returns-clause-part : goal.returns-clause-part
returns-clause-part c = λ options parts disk disk' entropy entropy' part. KeepsOldOr-replace_part disk disk' part.m part.fails
