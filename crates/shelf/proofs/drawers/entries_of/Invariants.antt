use Rattle.std.proofs.Common.{◌≡◌, map, take}
use Rattle.command_rows.specs.Turn.{entry_of}
use Rattle.shelf.specs.Shelved.{drawers_of}
use Rattle.shelf.proofs.drawers.entries_of.Given as goal

-- the entries of the drawers up to this place
abbrev pub invariant-loop-drawer : goal.invariant-loop-drawer
invariant-loop-drawer g l = l.entries.items ≡ map entry_of (drawers_of g.D.Disk.state (take l.drawer-index l.drawers))
