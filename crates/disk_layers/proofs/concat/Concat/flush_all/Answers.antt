-- A flush of one of the disks alone isn't reported.
use Rattle.std.proofs.Common.{[], ◌∷◌, arith}
use Rattle.block_traits.specs.declared.disk.Event.TheVariants.{Flush}
use Rattle.disk_layers.proofs.JoinedLemmas.{Part-answer, both-cover, both-fit, flush-first-covers, flush-first-fits, flush-second-covers, flush-second-fits}
use Rattle.disk_layers.proofs.concat.Concat.flush_all.Goals as goal

pub invariant_of-self : goal.invariant_of-self
invariant_of-self g c =
    let a = g.A.Disk.state c.args.self.now.first in
    let new = g.A.Disk.state c.flush.new.self in
    let b = g.B.Disk.state c.args.self.now.second in
    let part = Part-answer (Flush ∷ []) c.flush.result {old = a} {new = new} c.flush.ensures.ok c.flush.ensures.err in
    record {
      small = omega (arith, part.size, c.args.self.now.small);
      fits = flush-first-fits c.args.self.now.past.events a new b part c.args.self.now.fits;
      covered = flush-first-covers c.args.self.now.past.events a new b part c.args.self.now.covered;
    }

pub invariant_of-self-in-Break-branch-2 : goal.invariant_of-self-in-Break-branch-2
invariant_of-self-in-Break-branch-2 g c =
    let a = g.A.Disk.state c.args.self.now.first in
    let new = g.A.Disk.state c.flush.new.self in
    let b = g.B.Disk.state c.args.self.now.second in
    let last = g.B.Disk.state c.flush-2.new.self in
    let one = Part-answer (Flush ∷ []) c.flush.result {old = a} {new = new} c.flush.ensures.ok c.flush.ensures.err in
    let other = Part-answer (Flush ∷ []) c.flush-2.result {old = b} {new = last} c.flush-2.ensures.ok c.flush-2.ensures.err in
    record {
      small = omega (arith, one.size, other.size, c.args.self.now.small);
      fits = flush-second-fits c.args.self.now.past.events new b last other (flush-first-fits c.args.self.now.past.events a new b one c.args.self.now.fits);
      covered = flush-second-covers c.args.self.now.past.events new b last other (flush-first-covers c.args.self.now.past.events a new b one c.args.self.now.covered);
    }

pub invariant_of-self-2 : goal.invariant_of-self-2
invariant_of-self-2 g c =
    let past = c.args.self.now.past.events in
    let a = g.A.Disk.state c.args.self.now.first in
    let new = g.A.Disk.state c.flush.new.self in
    let b = g.B.Disk.state c.args.self.now.second in
    let last = g.B.Disk.state c.flush-2.new.self in
    let one = c.in_ok-flush.ensures.ok in
    let other = c.in_ok-flush-2.ensures.ok in
    record {
      small = omega (arith, one.size, other.size, c.args.self.now.small);
      fits = both-fit past c.flushed-self.result.events a new b last one other c.flushed-self.ensures c.args.self.now.fits;
      covered = both-cover past c.flushed-self.result.events a new b last one other c.flushed-self.ensures c.args.self.now.covered;
    }
