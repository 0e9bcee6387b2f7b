use Rattle.shelf.proofs.drawers.Drawers.names_differ.Goals as goal

pub returns : goal.returns
returns g c = rw (← c.self.view_is) (c.self.invariant.3 g.D.Disk.state)
