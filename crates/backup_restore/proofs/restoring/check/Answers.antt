use Rattle.std.proofs.Common.{arith}
use Rattle.std.proofs.lemmas.Grind.{common_steps}
use Rattle.backup_restore.proofs.restoring.check.Goals as goal

pub returns-then-sectors-lt2-clause-answer : goal.returns-then-sectors-lt2-clause-answer
returns-then-sectors-lt2-clause-answer c = grind (arith, common_steps) steps 400000

pub returns-then-sectors-lt2-clause-room : goal.returns-then-sectors-lt2-clause-room
returns-then-sectors-lt2-clause-room c = grind (arith, common_steps) steps 400000

pub returns-then-sectors-lt2-clause-given : goal.returns-then-sectors-lt2-clause-given
returns-then-sectors-lt2-clause-given c = grind (arith, common_steps) steps 400000

pub returns-then-bytes-lt511-clause-answer : goal.returns-then-bytes-lt511-clause-answer
returns-then-bytes-lt511-clause-answer c = grind (arith, common_steps) steps 400000

pub returns-then-bytes-lt511-clause-room : goal.returns-then-bytes-lt511-clause-room
returns-then-bytes-lt511-clause-room c = grind (arith, common_steps) steps 400000

pub returns-then-bytes-lt511-clause-given : goal.returns-then-bytes-lt511-clause-given
returns-then-bytes-lt511-clause-given c = grind (arith, common_steps) steps 400000

pub returns-in_err-meta-clause-answer : goal.returns-in_err-meta-clause-answer
returns-in_err-meta-clause-answer c = grind (arith, common_steps) steps 400000

pub returns-in_err-meta-clause-room : goal.returns-in_err-meta-clause-room
returns-in_err-meta-clause-room c = grind (arith, common_steps) steps 400000

pub returns-in_err-meta-clause-given : goal.returns-in_err-meta-clause-given
returns-in_err-meta-clause-given c = grind (arith, common_steps) steps 400000

pub returns-then-force-clause-answer : goal.returns-then-force-clause-answer
returns-then-force-clause-answer c = grind (arith, common_steps) steps 400000

pub returns-then-force-clause-room : goal.returns-then-force-clause-room
returns-then-force-clause-room c = grind (arith, common_steps) steps 400000

pub returns-then-force-clause-given : goal.returns-then-force-clause-given
returns-then-force-clause-given c = grind (arith, common_steps)

pub returns-in_err-size_gate-clause-answer : goal.returns-in_err-size_gate-clause-answer
returns-in_err-size_gate-clause-answer c = grind (arith, common_steps) steps 400000

pub returns-in_err-size_gate-clause-room : goal.returns-in_err-size_gate-clause-room
returns-in_err-size_gate-clause-room c = grind (arith, common_steps) steps 400000

pub returns-in_err-size_gate-clause-given : goal.returns-in_err-size_gate-clause-given
returns-in_err-size_gate-clause-given c = grind (arith, common_steps)

pub returns-clause-answer : goal.returns-clause-answer
returns-clause-answer c = grind (arith, common_steps) steps 400000

pub returns-clause-room : goal.returns-clause-room
returns-clause-room c = grind (arith, common_steps) steps 400000

pub returns-clause-given : goal.returns-clause-given
returns-clause-given c = grind (arith, common_steps)
