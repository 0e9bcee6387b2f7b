-- What a call of a disk does, by its result.
use Rattle.std.specs.Prelude.{◌≡◌, ℕ, List, [], ◌∷◌, Result, OnOk, OnErr}
use Rattle.block_traits.specs.declared.disk.DiskFailed.{DiskFailed}
use Rattle.block_traits.specs.declared.disk.Event.{Event}
use Rattle.block_traits.specs.Causes.{Counted}
use Rattle.block_traits.specs.Disk.{DiskState, FailsIn, Gives, Logs}

-- sector n was asked for once, and gave these bytes, or the disk failed
pub record AsksSector (n : ℕ) (bytes : List ℕ) (old new : DiskState) (result : Result (Unit {0}) DiskFailed) : Type 0 where
  pub gives : OnOk result (Gives old n bytes)
  pub ok : OnOk result (Logs [] old new)
  pub err : OnErr result (FailsIn [] old new)
  pub asked : Counted 1 old.reads new.reads

-- this event was logged, or the disk failed and it was or wasn't
pub record ChangesSector (event : Event) (old new : DiskState) (result : Result (Unit {0}) DiskFailed) : Type 0 where
  pub ok : OnOk result (Logs (event ∷ []) old new)
  pub err : OnErr result (FailsIn (event ∷ []) old new)
  pub unasked : new.reads ≡ old.reads
