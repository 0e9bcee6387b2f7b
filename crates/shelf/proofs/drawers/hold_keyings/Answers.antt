use Rattle.std.proofs.Common.{◌<◌, ◌≤◌, List, length, All, arith, subst}
use Rattle.std.proofs.lemmas.List.{take_all}
use Rattle.std.proofs.lemmas.List.Elements.{All-get_or, All-map, All-more}
use Rattle.std.proofs.lemmas.Option.{get_or_from_slice_get, slice_get_within}
use Rattle.command_rows.specs.Rows.{DrawerState, HoldKeyings, HoldsKeying}
use Rattle.command_rows.specs.Vocabulary.{DiskState}
use Rattle.shelf.specs.declared.drawer.Drawer.{Drawer}
use Rattle.shelf.specs.Shelved.{drawer_of, drawers_of, holding_of}
use Rattle.shelf.proofs.drawers.hold_keyings.Goals as goal

every : {D : Type 0} (state : D → DiskState) (drawers : List (Drawer D)) → All (λ d. HoldsKeying (holding_of d.held)) drawers → HoldKeyings (drawers_of state drawers)
every state drawers all drawer there =
    let Held = λ (d : DrawerState). HoldsKeying d.holding in
    let states = drawers_of state drawers in
    subst Held (get_or_from_slice_get states there.0 drawer drawer there.1) (All-get_or Held states there.0 drawer (slice_get_within states there.0 drawer there.1) (All-map Held (drawer_of state) drawers all))

pub loop-drawer-preserved : goal.loop-drawer-preserved
loop-drawer-preserved g c =
    let Held = λ (d : Drawer g.row.D.Denot). HoldsKeying (holding_of d.held) in
    let drawers = c.args.drawers.now in
    let small : c.loop-drawer.drawer-index < length drawers = omega arith in
    All-more Held drawers c.loop-drawer.drawer-index c.drawer-item.result small c.loop-drawer.invariant (subst Held c.drawer-item.is c.holds_keying.ensures)

pub returns : goal.returns
returns g c =
    let drawers = c.args.drawers.now in
    let end : length drawers ≤ c.loop-drawer.drawer-index = omega arith in
    every g.D.Disk.state drawers (rw take_all at c.loop-drawer.invariant)
