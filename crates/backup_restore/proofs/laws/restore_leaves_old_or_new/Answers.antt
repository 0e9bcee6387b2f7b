use Rattle.eli_metadata.proofs.Replaced.{KeepsOldOr-replace, KeepsOldOr-replace_part}
use Rattle.backup_restore.proofs.Restored.{KeepsAlone-replace}
use Rattle.backup_restore.proofs.laws.restore_leaves_old_or_new.Goals as goal

pub returns-clause-done : goal.returns-clause-done
returns-clause-done c = λ bytes force disk disk' m h. (KeepsOldOr-replace disk disk' m h.logs, KeepsAlone-replace disk disk' m h.logs)

pub returns-clause-part : goal.returns-clause-part
returns-clause-part c = λ bytes force disk disk' part. KeepsOldOr-replace_part disk disk' part.m part.fails
