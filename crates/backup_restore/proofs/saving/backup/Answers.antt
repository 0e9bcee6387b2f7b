use Rattle.std.proofs.Common.{arith}
use Rattle.std.proofs.lemmas.Grind.{common_steps}
use Rattle.backup_restore.proofs.saving.backup.Goals as goal

pub returns-then-sectors-lt2-clause-saves : goal.returns-then-sectors-lt2-clause-saves
returns-then-sectors-lt2-clause-saves g c = grind (arith, common_steps) steps 400000

pub returns-then-sectors-lt2-clause-rest : goal.returns-then-sectors-lt2-clause-rest
returns-then-sectors-lt2-clause-rest g c = grind (arith, common_steps) steps 400000

pub returns-then-is_err-clause-saves : goal.returns-then-is_err-clause-saves
returns-then-is_err-clause-saves g c = grind (arith, common_steps) steps 400000

pub returns-then-is_err-clause-rest : goal.returns-then-is_err-clause-rest
returns-then-is_err-clause-rest g c = grind (arith, common_steps) steps 400000

pub returns-in_err-decode-clause-rest : goal.returns-in_err-decode-clause-rest
returns-in_err-decode-clause-rest g c = grind (arith, common_steps) steps 400000

pub returns-clause-saves : goal.returns-clause-saves
returns-clause-saves g c = grind (arith, common_steps)

pub returns-clause-rest : goal.returns-clause-rest
returns-clause-rest g c = grind (arith, common_steps) steps 400000
