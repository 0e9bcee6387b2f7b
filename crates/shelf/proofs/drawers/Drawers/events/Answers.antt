use Rattle.shelf.proofs.Places.{slice_get-drawers}
use Rattle.shelf.specs.Shelved.{drawer_of}
use Rattle.shelf.proofs.drawers.Drawers.events.Goals as goal

pub returns : goal.returns
returns g c =
    let found = rw (c.deref.ensures.value, c.as_bytes.ensures.value) at c.in_ok-place.ensures.found in
    let bound = rw c.deref.ensures.value at c.in_ok-place.ensures.bound in
    rw (← c.self.view_is, ← found)
    (record {
      drawer = drawer_of g.D.Disk.state c.index.result.now;
      found = slice_get-drawers g.D.Disk.state c.self.inside.drawers.items c.in_ok-place.place c.index.result.now bound c.index.ensures;
      events = c.events.ensures;
    })
