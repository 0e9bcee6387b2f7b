-- What a run prints about failures, by the counts of what failed.
use Rattle.std.specs.Prelude.{◌≡◌, ◌⊎◌, ℕ, ◌+◌, Bool, false, List, Option, None, Some, slice_get}
use Rattle.command_rows.specs.Rows.{DrawerState, World, place_of}
use Rattle.geli_core.specs.Bounds.{ClosesWithFailures, CountsOutside, RisesBy, RisesUntilOut, device_faults}
use Rattle.geli_core.specs.Trace.{Trace, answers_of, world_behind}
use Rattle.geli_core.specs.Vocabulary.{Closes, failures}

-- a drawer at exit: it was closed, or failed in that; or nothing was done
abbrev pub ClosesDrawer : Option ℕ → DrawerState → Bool → DrawerState → Type 0
ClosesDrawer None last failed new = (failed ≡ false) × (new ≡ last)
ClosesDrawer (Some many) last failed new = Closes last failed new

-- the drawer still has its name at exit, and its disk's count of faults rose by one more if its closing failed
pub record RisesToExit (closing : Option ℕ) (many : ℕ) (before : DrawerState) (name : List ℕ) (behind exit : World) : Type 0 where
  pub place : ℕ
  pub named : place_of name exit.drawers ≡ Some place
  pub last : DrawerState
  pub was : slice_get behind.drawers place ≡ Some last
  pub failed : Bool
  pub rises : RisesBy (many + failures failed) before place exit
  pub closes : ClosesDrawer closing last failed rises.after

-- the replies that say that the cabinet or the entropy failed, or that a file was absent, are counted; each refusal of
-- the closing has its drawer; and the replies to the lines that name a drawer and say that its disk failed are counted
-- by that disk, and so is the failure of its closing
pub record CountsAll (entry : World) (trace : Trace) (exit : World) : Type 0 where
  pub outside : CountsOutside (answers_of trace.lines) entry exit
  pub closing : ClosesWithFailures entry trace exit
  pub disks : (name : List ℕ) (place : ℕ) (before : DrawerState) → place_of name entry.drawers ≡ Some place → slice_get entry.drawers place ≡ Some before →
      RisesToExit trace.closing (device_faults trace.sep name trace.lines) before name (world_behind entry trace.lines) exit
      ⊎ RisesUntilOut trace.sep entry trace.lines (device_faults trace.sep name trace.lines) before name
