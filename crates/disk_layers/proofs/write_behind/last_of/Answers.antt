-- One more write was looked at.
use Rattle.disk_layers.proofs.WaitingLemmas.{found_here, found_before}
use Rattle.disk_layers.proofs.write_behind.last_of.Goals as goal

pub loop-write-preserved-then-write-n : goal.loop-write-preserved-then-write-n
loop-write-preserved-then-write-n c = found_here c.args.n c.loop-write.yielded c.in-Some.write c.if-write-n.true

pub loop-write-preserved : goal.loop-write-preserved
loop-write-preserved c = found_before c.args.n c.loop-write.yielded c.in-Some.write c.loop-write.found c.if-write-n.false c.loop-write.invariant
