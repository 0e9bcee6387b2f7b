-- When a disk is added, and when it is refused.
use Rattle.std.specs.Prelude.{◌≡◌, ℕ, ◌<◌, ◌≤◌, List, [], ◌∷◌, ◌++◌, length, IsSome, IsNone}
use Rattle.command_rows.specs.Rows.{DrawerState, Idle, place_of}
use Rattle.command_rows.specs.Vocabulary.{DiskState}
use Rattle.shelf.specs.declared.drawers.AddFault.{AddFault}
use Rattle.shelf.specs.declared.drawers.AddFault.TheVariants.{Full, Taken, NoMemory}

-- how many drawers a shelf may have
abbrev pub most_drawers : ℕ
most_drawers = 16

-- there is room, and no drawer has the name
pub record IsFreeName (name : List ℕ) (drawers : List DrawerState) : Type 0 where
  pub room : length drawers < most_drawers
  pub new_name : IsNone (place_of name drawers)

-- the disk stands after the others, idle
pub record Adds (name : List ℕ) (disk : DiskState) (old new : List DrawerState) : Type 0 where
  pub free : IsFreeName name old
  pub added : new ≡ old ++ record { name = name; disk = disk; holding = Idle } ∷ []

abbrev pub RefusesToAdd : List ℕ → AddFault → List DrawerState → Type 0
RefusesToAdd name Full drawers = most_drawers ≤ length drawers
RefusesToAdd name Taken drawers = (length drawers < most_drawers) × IsSome (place_of name drawers)
RefusesToAdd name NoMemory drawers = IsFreeName name drawers
