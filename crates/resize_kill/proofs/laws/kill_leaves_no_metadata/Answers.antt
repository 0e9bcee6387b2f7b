use Rattle.resize_kill.proofs.Destroyed.{gone-FailsIn, gone-Logs}
use Rattle.resize_kill.proofs.laws.kill_leaves_no_metadata.Goals as goal

pub returns-clause-done : goal.returns-clause-done
returns-clause-done c = λ disk disk' entropy entropy' h. gone-Logs h.random disk disk' h.logs

pub returns-clause-part : goal.returns-clause-part
returns-clause-part c = λ disk disk' entropy entropy' h. gone-FailsIn h.random disk disk' h.fails
