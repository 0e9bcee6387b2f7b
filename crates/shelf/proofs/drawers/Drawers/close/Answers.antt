use Rattle.std.proofs.Common.{arith}
use Rattle.shelf.proofs.Naming.{closed_differ}
use Rattle.shelf.proofs.drawers.Drawers.close.Goals as goal

pub invariant_of-self : goal.invariant_of-self
invariant_of-self g c = (
  omega (arith, c.close_all-failed.ensures.length, c.self.invariant.0),
  c.close_all-failed.ensures.room,
  c.self.invariant.2,
  closed_differ g.D.Disk.state c.self.inside.drawers.items c.close_all-failed.result c.close_all-failed.new.drawers.items c.close_all-failed.ensures.closing c.self.invariant.3,
)
