use Rattle.std.proofs.Common.{◌<◌, ◌∙◌, length, arith}
use Rattle.shelf.proofs.Listing.{entries_more}
use Rattle.shelf.proofs.drawers.entries_of.Goals as goal

pub loop-drawer-preserved : goal.loop-drawer-preserved
loop-drawer-preserved g c =
    let drawers = c.args.drawers.now in
    let small : c.loop-drawer.drawer-index < length drawers = omega arith in
    c.in_ok-push.ensures.items ∙ entries_more g.D.Disk.state drawers c.loop-drawer.drawer-index c.drawer-item.result c.loop-drawer.entries.items c.in_ok-entry.field-0 small c.drawer-item.is c.loop-drawer.invariant c.in_ok-entry.ensures
