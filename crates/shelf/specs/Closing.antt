-- The end of a run: each drawer that isn't idle is flushed, in order, and is idle then.
use Rattle.std.specs.Prelude.{◌≡◌, ℕ, ◌+◌, List, [], ◌∷◌, Bool, true, false}
use Rattle.block_traits.specs.declared.disk.Event.TheVariants.{Flush}
use Rattle.command_rows.specs.Rows.{DrawerState, Idle, World, is_idle}
use Rattle.command_rows.specs.Vocabulary.{DiskState, FailsIn, Logs}

-- a disk is flushed, or fails in that
abbrev pub Flushes : Bool → DiskState → DiskState → Type 0
Flushes false old new = Logs (Flush ∷ []) old new
Flushes true old new = FailsIn (Flush ∷ []) old new

-- one drawer is closed, by whether it is idle, and whether its flush failed: nothing is done to an idle one, and any
-- other is idle afterwards and wasn't read
abbrev pub ClosesAs : Bool → DrawerState → Bool → DrawerState → Type 0
ClosesAs true old failed new = (failed ≡ false) × (new ≡ old)
ClosesAs false old failed new = Flushes failed old.disk new.disk × (new ≡ record { name = old.name; disk = new.disk; holding = Idle }) × (new.disk.reads ≡ old.disk.reads)

abbrev pub Closes : DrawerState → Bool → DrawerState → Type 0
Closes old failed new = ClosesAs (is_idle old.holding) old failed new

-- one if a flush failed, else none
abbrev pub failures : Bool → ℕ
failures false = 0
failures true = 1

-- the drawers are closed in order, and so many flushes failed
abbrev pub Closing : List DrawerState → ℕ → List DrawerState → Type 0
Closing [] count new = (count ≡ 0) × (new ≡ [])
Closing (drawer ∷ drawers) count new =
    (failed : Bool) × (closed : DrawerState) × (others : ℕ) × (behind : List DrawerState)
    × Closes drawer failed closed × Closing drawers others behind × (count ≡ failures failed + others) × (new ≡ closed ∷ behind)

-- the drawers of a world are closed in order, and so many flushes failed; its cabinet and entropy stay
pub record ClosesWorld (old : World) (failed : ℕ) (new : World) : Type 0 where
  pub drawers : Closing old.drawers failed new.drawers
  pub cabinet : new.cabinet ≡ old.cabinet
  pub entropy : new.entropy ≡ old.entropy
