use Rattle.shelf.proofs.drawers.Drawers.hold_keyings.Goals as goal

pub returns : goal.returns
returns g c = rw (← c.self.view_is) (rw c.deref.ensures.value at c.hold_keyings.ensures)
