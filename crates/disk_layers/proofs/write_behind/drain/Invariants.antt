-- What was taken out was written, and what is left fits.
use Rattle.std.proofs.Common.{◌≡◌, ◌≤◌}
use Rattle.std.specs.VecDeque.{deque_len, deque_capacity}
use Rattle.disk_layers.specs.Waiting.{FitBelow}
use Rattle.disk_layers.proofs.WaitingLemmas.{Wrote}
use Rattle.disk_layers.proofs.write_behind.drain.Given as goal

abbrev pub invariant-loop-first : goal.invariant-loop-first
invariant-loop-first g l = record {
  wrote : Wrote l.initial.waiting.items l.waiting.items (g.D.Disk.state l.initial.under) (g.D.Disk.state l.under);
  fit : FitBelow (g.D.Disk.state l.under).size l.waiting.items;
  fewer : deque_len l.waiting ≤ deque_len l.initial.waiting;
  capacity : deque_capacity l.waiting ≡ deque_capacity l.initial.waiting;
  unasked : (g.D.Disk.state l.under).reads ≡ (g.D.Disk.state l.initial.under).reads;
}

abbrev pub decreases-loop-first : goal.decreases-loop-first
decreases-loop-first g l = deque_len l.waiting
