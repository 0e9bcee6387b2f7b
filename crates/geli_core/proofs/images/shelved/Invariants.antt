use Rattle.std.proofs.Common.{◌≡◌, ◌+◌, ◌++◌, drop, length, map, string_bytes}
use Rattle.command_rows.specs.Rows.{NamesDiffer}
use Rattle.geli_core.specs.Images.{disks_of, idle_drawers}
use Rattle.geli_core.specs.Vocabulary.{drawers_of}
use Rattle.geli_core.proofs.images.shelved.Given as goal

-- with the disks that are left, under the names that are left, the shelf would have them all; there are as many disks
-- left as names; no two have one name, and no disk was lost
abbrev pub invariant-loop-name : goal.invariant-loop-name
invariant-loop-name g l =
    let state = g.D.Disk.state in
    (drawers_of state l.shelf.drawers ++ idle_drawers (map string_bytes (drop l.name-index l.names)) (map state l.disks.items) ≡ idle_drawers (map string_bytes l.names) (map state l.fn.disks.items))
    × (l.name-index + length l.disks.items ≡ length l.names)
    × NamesDiffer (drawers_of state l.shelf.drawers)
    × (disks_of (drawers_of state l.shelf.drawers) ++ map state l.disks.items ≡ map state l.fn.disks.items)
