use Rattle.backup_restore.proofs.Restored.{IsBackedUp-gives}
use Rattle.backup_restore.proofs.laws.what_restore_writes_is_of_use.Goals as goal

pub returns : goal.returns
returns c = IsBackedUp-gives
