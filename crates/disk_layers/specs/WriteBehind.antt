-- A disk for which writes wait.
use Rattle.std.specs.Prelude.{◌≡◌, ◌⊎◌, ℕ, ◌<◌, ◌≤◌, Bool, true, false, List, [], ◌∷◌, ◌++◌, length, Option, Some, None, Result, Ok, Err}
use Rattle.block_traits.specs.declared.disk.Disk.{Ghosts}
use Rattle.block_traits.specs.declared.disk.DiskFailed.{DiskFailed}
use Rattle.block_traits.specs.declared.disk.Event.TheVariants.{Flush}
use Rattle.block_traits.specs.Causes.{Counted}
use Rattle.block_traits.specs.Content.{Content, logged}
use Rattle.block_traits.specs.Disk.{DiskState, FailsIn, Gives, Logs}
use Rattle.disk_layers.specs.declared.write_behind.Waiting.{Waiting}
use Rattle.disk_layers.specs.declared.write_behind.WriteBehind.{WriteBehind}
use Rattle.disk_layers.specs.History.{with_history}
use Rattle.disk_layers.specs.Reported.{reported}
use Rattle.disk_layers.specs.Waiting.{StopsIn, writes_of}

-- what the disk below reports of itself, the writes that wait, the first one first, how many may wait, and whether no
-- call below was refused
pub record Behind : Type 0 where
  pub under : DiskState
  pub waiting : List Waiting
  pub room : ℕ
  pub clean : Bool

-- the history below followed by the writes that wait, if the disk below reports its content
abbrev pub order : Behind → Option Content
order b = logged (writes_of b.waiting) b.under.content

-- nothing waits, and no call was made
pub record IsNew (under : DiskState) (most : ℕ) (b : Behind) : Type 0 where
  pub same : b.under ≡ under
  pub none : b.waiting ≡ []
  pub rooms : b.room ≡ most
  pub good : b.clean ≡ true

-- ---- reading

-- the sector was read below, once
pub record ReadsBelow (n : ℕ) (bytes : List ℕ) (old new : Behind) : Type 0 where
  pub gives : Gives old.under n bytes
  pub logs : Logs [] old.under new.under
  pub asked : Counted 1 old.under.reads new.under.reads
  pub waiting : new.waiting ≡ old.waiting
  pub room : new.room ≡ old.room
  pub clean : new.clean ≡ old.clean

-- the disk below refused the one read
pub record RefusesRead (old new : Behind) : Type 0 where
  pub fails : FailsIn [] old.under new.under
  pub asked : Counted 1 old.under.reads new.under.reads
  pub waiting : new.waiting ≡ old.waiting
  pub room : new.room ≡ old.room
  pub clean : new.clean ≡ false

-- what a read of sector n returns, if these bytes wait for it: the last of them, and nothing else happens; or what
-- stands below
abbrev pub BehindReadAnswers : Option (List ℕ) → ℕ → List ℕ → Behind → Behind → Result (Unit {0}) DiskFailed → Type 0
BehindReadAnswers (Some last) n bytes old new result = (result ≡ Ok tt) × (bytes ≡ last) × (new ≡ old)
BehindReadAnswers None n bytes old new (Ok done) = ReadsBelow n bytes old new
BehindReadAnswers None n bytes old new (Err failed) = RefusesRead old new

-- ---- writing, which reads nothing

-- a write was put after those that wait, and nothing was done below
pub record PutsBehind (write : Waiting) (old new : Behind) : Type 0 where
  pub under : new.under ≡ old.under
  pub waiting : new.waiting ≡ old.waiting ++ write ∷ []
  pub room : new.room ≡ old.room
  pub clean : new.clean ≡ old.clean

-- what waited was written below, in order, and this write waits alone
pub record MakesRoom (write : Waiting) (old new : Behind) : Type 0 where
  pub logs : Logs (writes_of old.waiting) old.under new.under
  pub unasked : new.under.reads ≡ old.under.reads
  pub waiting : new.waiting ≡ write ∷ []
  pub room : new.room ≡ old.room
  pub clean : new.clean ≡ old.clean

-- the disk below refused a write that waited: it and those after it wait still
pub record RefusesWrite (old new : Behind) : Type 0 where
  pub stops : StopsIn old.waiting new.waiting old.under new.under
  pub unasked : new.under.reads ≡ old.under.reads
  pub room : new.room ≡ old.room
  pub clean : new.clean ≡ false

-- what a write returns: if fewer wait than may, it is Ok and waits
abbrev pub BehindWriteAnswers : Waiting → Behind → Behind → Result (Unit {0}) DiskFailed → Type 0
BehindWriteAnswers write old new (Ok done) =
    (length old.waiting < old.room → PutsBehind write old new) × (old.room ≤ length old.waiting → MakesRoom write old new)
BehindWriteAnswers write old new (Err failed) = (old.room ≤ length old.waiting) × RefusesWrite old new

-- a write of one sector
abbrev pub BehindWritesSector : ℕ → List ℕ → Behind → Behind → Result (Unit {0}) DiskFailed → Type 0
BehindWritesSector n bytes old new result = BehindWriteAnswers (record { n = n; bytes = bytes }) old new result

-- ---- flushing, which reads nothing

-- what waited was written below, in order, and then the disk was flushed
pub record FlushesWaiting (old new : Behind) : Type 0 where
  pub logs : Logs (writes_of old.waiting ++ Flush ∷ []) old.under new.under
  pub unasked : new.under.reads ≡ old.under.reads
  pub none : new.waiting ≡ []
  pub room : new.room ≡ old.room
  pub clean : new.clean ≡ old.clean

-- what waited was written below, in order, and then the disk refused to flush
pub record RefusesFlush (old new : Behind) : Type 0 where
  pub middle : DiskState
  pub logs : Logs (writes_of old.waiting) old.under middle
  pub fails : FailsIn (Flush ∷ []) middle new.under
  pub unasked : new.under.reads ≡ old.under.reads
  pub none : new.waiting ≡ []
  pub room : new.room ≡ old.room
  pub clean : new.clean ≡ false

abbrev pub FlushAnswers : Behind → Behind → Result (Unit {0}) DiskFailed → Type 0
FlushAnswers old new (Ok done) = FlushesWaiting old new
FlushAnswers old new (Err failed) = RefusesWrite old new ⊎ RefusesFlush old new

-- the disk that a flush leaves
pub record EndsAnswers (old : Behind) (under : DiskState) (result : Result (Unit {0}) DiskFailed) : Type 0 where
  pub new : Behind
  pub answers : FlushAnswers old new result
  pub is : under ≡ new.under

-- ---- what a WriteBehind is

module _ {D : Type 0} {g : Ghosts D} where
  abbrev pub behind_of : (D → DiskState) → WriteBehind D g → Behind
  behind_of state w = record { under = state w.under; waiting = w.waiting.items; room = w.room; clean = w.clean }

  -- as a disk it has the size and the faults of the disk below, counts its own reads, and reports what was done to it
  -- over what the disk below held at first, if that is reported
  abbrev pub behind_disk_of : WriteBehind D g → DiskState
  behind_disk_of w = reported (g.state w.under).size (g.state w.under).faults w.reads (with_history w.past.events (g.state w.under).content) (g.state w.under).well_formed.bound w.fits
