use Rattle.std.proofs.Common.{◌≡◌, ◌+◌, drop}
use Rattle.std.specs.Option.{option_map}
use Rattle.command_rows.specs.Rows.{place_of}
use Rattle.shelf.specs.Shelved.{drawers_of}
use Rattle.shelf.proofs.drawers.find.Given as goal

-- no drawer before this place has the name
abbrev pub invariant-loop-place : goal.invariant-loop-place
invariant-loop-place g l =
    let world = drawers_of g.D.Disk.state in
    place_of l.name (world l.drawers) ≡ option_map (λ n. n + l.place) (place_of l.name (world (drop l.place l.drawers)))
