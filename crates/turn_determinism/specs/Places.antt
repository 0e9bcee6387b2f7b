-- Where a drawer stands.
use Rattle.std.specs.Prelude.{◌≡◌, ℕ, List, Some, slice_get}
use Rattle.command_rows.specs.Rows.{DrawerState, World, place_of}

-- the drawer stands at this place
abbrev pub StandsAt : World → ℕ → DrawerState → Type 0
StandsAt world place drawer = slice_get world.drawers place ≡ Some drawer

-- the drawer stands at this place, and it is the first that has this name
abbrev pub IsNamedAt : List ℕ → World → ℕ → DrawerState → Type 0
IsNamedAt name world place drawer = (place_of name world.drawers ≡ Some place) × StandsAt world place drawer
