-- What a line finds if nothing refuses it, in a drawer and a cabinet that report what they hold.
use Rattle.std.specs.Prelude.{List, None, Some, slice_get, ℕ, ◌≡◌}
use Rattle.command_rows.specs.Gate.{needs, refused_by}
use Rattle.command_rows.specs.Rows.{DrawerState, Reach, World, place_of}
use Rattle.command_rows.specs.Turn.{reach}
use Rattle.command_rows.specs.Vocabulary.{Command, Rose}
use Rattle.command_rows.specs.verbs.{verb_of}

-- the row of the line's verb finds what it needs
abbrev pub FitsRow : List ℕ → Command → Reach → Type 0
FitsRow line command old = (verb_of command).fits line old

-- the drawer is in the state that the verb needs, and the row finds what it needs there
pub record Fits (line : List ℕ) (command : Command) (old : Reach) : Type 0 where
  pub gate : refused_by (needs command) old.holding ≡ None
  pub row : FitsRow line command old

-- no count of faults rose
pub record FailsNowhere (old new : Reach) : Type 0 where
  pub disk : ¬ Rose old.disk.faults new.disk.faults
  pub cabinet : ¬ Rose old.cabinet.faults new.cabinet.faults
  pub entropy : ¬ Rose old.entropy.faults new.entropy.faults

-- `Finds` holds at the drawer with this name, and nothing fails
pub record FindsAt (name : List ℕ) (Finds : Reach → Type 0) (old new : World) : Type 0 where
  pub place : ℕ
  pub named : place_of name old.drawers ≡ Some place
  pub before : DrawerState
  pub found : slice_get old.drawers place ≡ Some before
  pub after : DrawerState
  pub there : slice_get new.drawers place ≡ Some after
  pub finds : Finds (reach before old)
  pub unfailed : FailsNowhere (reach before old) (reach after new)
