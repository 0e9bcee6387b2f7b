-- Writes that wait for a disk.
use Rattle.std.specs.Prelude.{◌≡◌, ℕ, ◌<◌, ◌==◌, List, [], ◌∷◌, ◌++◌, map, if◌then◌else◌, Option, Some, None, All}
use Rattle.std.proofs.Props.{props}
use Rattle.block_traits.specs.declared.disk.Event.{Event}
use Rattle.block_traits.specs.declared.disk.Event.TheVariants.{Write}
use Rattle.block_traits.specs.Disk.{DiskState, FailsIn, Logs}
use Rattle.disk_layers.specs.declared.write_behind.Waiting.{Waiting}

-- the event of a write
abbrev pub write_of : Waiting → Event
write_of write = Write write.n write.bytes

abbrev pub writes_of : List Waiting → List Event
writes_of waiting = map write_of waiting

-- each write is of a sector below this size
abbrev pub FitBelow : ℕ → List Waiting → Type 0
FitBelow size waiting = All (λ write. write.n < size) waiting

-- writes fit below in one way at most
pub FitBelow-prop : (size : ℕ) (waiting : List Waiting) → IsProp (FitBelow size waiting)
FitBelow-prop size waiting = hlevel props

-- the bytes of the last of the writes that is of sector n, if there is one, or else those that were found before
abbrev pub last_after : ℕ → List Waiting → Option (List ℕ) → Option (List ℕ)
last_after n [] found = found
last_after n (write ∷ waiting) found = last_after n waiting (if write.n == n then Some write.bytes else found)

abbrev pub last_waiting : ℕ → List Waiting → Option (List ℕ)
last_waiting n waiting = last_after n waiting None

-- the first of these writes were done, and then the disk refused one: it and those after it are left
pub record StopsIn (all left : List Waiting) (old new : DiskState) : Type 0 where
  pub done : List Waiting
  pub refused : Waiting
  pub behind : List Waiting
  pub middle : DiskState
  pub were : all ≡ done ++ (refused ∷ behind)
  pub are : left ≡ refused ∷ behind
  pub logs : Logs (writes_of done) old middle
  pub fails : FailsIn (write_of refused ∷ []) middle new
