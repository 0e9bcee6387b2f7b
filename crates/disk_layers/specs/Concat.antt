-- Two disks as one.
use Rattle.std.specs.Prelude.{◌≡◌, ◌⊎◌, ℕ, ◌-◌, ◌<◌, ◌≤◌, nat_lt, List, [], ◌∷◌, if◌then◌else◌, Bool, true, false, Result, Ok, Err}
use Rattle.block_traits.specs.declared.disk.DiskFailed.{DiskFailed}
use Rattle.block_traits.specs.declared.disk.Event.{Event}
use Rattle.block_traits.specs.declared.disk.Event.TheVariants.{Write, Flush}
use Rattle.block_traits.specs.Causes.{Rose}
use Rattle.block_traits.specs.Disk.{DiskState, FailsIn, Logs}
use Rattle.disk_layers.specs.Calls.{AsksSector, ChangesSector}

-- a flush was logged, and no read was asked for
pub record LogsFlush (old new : DiskState) : Type 0 where
  pub logs : Logs (Flush ∷ []) old new
  pub unasked : new.reads ≡ old.reads

-- the disk failed, and a flush was logged or wasn't
pub record FailsInFlush (old new : DiskState) : Type 0 where
  pub fails : FailsIn (Flush ∷ []) old new
  pub unasked : new.reads ≡ old.reads

-- sector n was asked for in the first, or after its sectors in the second, and the other is as it was
pub record AsksOne {A B : Type 0} (a : A → DiskState) (b : B → DiskState) (n : ℕ) (bytes : List ℕ) (old new : A) (old_second new_second : B) (result : Result (Unit {0}) DiskFailed) : Type 0 where
  pub first : n < (a old).size → AsksSector n bytes (a old) (a new) result × (new_second ≡ old_second)
  pub second : (a old).size ≤ n → AsksSector (n - (a old).size) bytes (b old_second) (b new_second) result × (new ≡ old)

-- sector n was written in the first, or after its sectors in the second, and the other is as it was
pub record WritesOne {A B : Type 0} (a : A → DiskState) (b : B → DiskState) (n : ℕ) (bytes : List ℕ) (old new : A) (old_second new_second : B) (result : Result (Unit {0}) DiskFailed) : Type 0 where
  pub first : n < (a old).size → ChangesSector (Write n bytes) (a old) (a new) result × (new_second ≡ old_second)
  pub second : (a old).size ≤ n → ChangesSector (Write (n - (a old).size) bytes) (b old_second) (b new_second) result × (new ≡ old)

-- both were flushed; or the first failed and the second is as it was; or the first was flushed and the second failed
abbrev pub FlushesBoth : {A B : Type 0} → (A → DiskState) → (B → DiskState) → A → A → B → B → Result (Unit {0}) DiskFailed → Type 0
FlushesBoth a b old new old_second new_second (Ok done) = LogsFlush (a old) (a new) × LogsFlush (b old_second) (b new_second)
FlushesBoth a b old new old_second new_second (Err failed) =
    (FailsInFlush (a old) (a new) × (new_second ≡ old_second))
    ⊎ (LogsFlush (a old) (a new) × FailsInFlush (b old_second) (b new_second))

-- by whether the second failed last, the disk that did has counted it
abbrev pub FailedLast : Bool → DiskState → DiskState → DiskState → DiskState → Type 0
FailedLast false a new_a b new_b = Rose a.faults new_a.faults
FailedLast true a new_a b new_b = Rose b.faults new_b.faults

-- ---- what is logged

-- the writes of the first sectors, so many, and the flushes
abbrev pub first_events : ℕ → List Event → List Event
first_events size [] = []
first_events size (Write n bytes ∷ events) = (if nat_lt n size then Write n bytes ∷ first_events size events else first_events size events)
first_events size (Flush ∷ events) = Flush ∷ first_events size events

-- the writes of the sectors of the second disk, by their numbers there, and the flushes
abbrev pub second_events : ℕ → List Event → List Event
second_events size [] = []
second_events size (Write n bytes ∷ events) = (if nat_lt n size then second_events size events else Write (n - size) bytes ∷ second_events size events)
second_events size (Flush ∷ events) = Flush ∷ second_events size events

-- each disk logged the events of its sectors, and the flushes
pub record BothLog (events : List Event) (a new_a b new_b : DiskState) : Type 0 where
  pub first : Logs (first_events a.size events) a new_a
  pub second : Logs (second_events a.size events) b new_b

-- ---- writing whole sectors

-- these events were logged, and no read was asked for; if there are none, the disk is as it was
pub record LogsOnly {A : Type 0} (a : A → DiskState) (events : List Event) (old new : A) : Type 0 where
  pub logs : Logs events (a old) (a new)
  pub unasked : (a new).reads ≡ (a old).reads
  pub untouched : events ≡ [] → new ≡ old

-- the disk failed, the first of these events were logged, and no read was asked for
pub record FailsToDo {A : Type 0} (a : A → DiskState) (events : List Event) (old new : A) : Type 0 where
  pub fails : FailsIn events (a old) (a new)
  pub unasked : (a new).reads ≡ (a old).reads

-- each disk did those of the events that are its own; or the first failed in its own and the second is as it was; or
-- the first did its own and the second failed in its own
abbrev pub BothDo : {A B : Type 0} → (A → DiskState) → (B → DiskState) → List Event → A → A → B → B → Result (Unit {0}) DiskFailed → Type 0
BothDo a b events old new old_second new_second (Ok done) =
    LogsOnly a (first_events (a old).size events) old new × LogsOnly b (second_events (a old).size events) old_second new_second
BothDo a b events old new old_second new_second (Err failed) =
    (FailsToDo a (first_events (a old).size events) old new × (new_second ≡ old_second))
    ⊎ (LogsOnly a (first_events (a old).size events) old new × FailsToDo b (second_events (a old).size events) old_second new_second)
