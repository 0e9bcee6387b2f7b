use Rattle.eli_metadata.proofs.Replaced.{KeepsAlone-store, KeepsOldOr-store, KeepsOldOr-store_part}
use Rattle.key_commands.proofs.laws.setkey_leaves_old_or_new.Goals as goal

pub returns-clause-done : goal.returns-clause-done
returns-clause-done c = λ asked disk disk' m h. (KeepsOldOr-store disk disk' m h.logs, KeepsAlone-store disk disk' m h.logs)

pub returns-clause-part : goal.returns-clause-part
returns-clause-part c = λ asked disk disk' part. KeepsOldOr-store_part disk disk' part.m part.fails
