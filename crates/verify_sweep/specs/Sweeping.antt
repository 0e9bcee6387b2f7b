-- A sweep over the units of a provider with authentication: which of them fail, and how far it goes.
use Rattle.std.specs.Prelude.{◌≡◌, ℕ, ◌+◌, ◌-◌, ◌*◌, ◌/◌, ◌<◌, Bool, true, false, List, [], ◌∷◌, ◌++◌, length, take, drop, get_or, min, Result, Ok, Err, All}
use Rattle.block_traits.specs.Causes.{Counted}
use Rattle.block_traits.specs.Content.{IsSector}
use Rattle.block_traits.specs.Disk.{DiskState, Logs}
use Rattle.block_traits.specs.declared.disk.DiskFailed.{DiskFailed}
use Rattle.eli_base.specs.Keying.{Keying}
use Rattle.sector_runs.specs.Reading.{StandFrom}
use Rattle.sector_runs.specs.Reads.{FailsAmong}
use Rattle.range_keys.specs.Keys.{le64}
use Rattle.sealing.specs.Sectors.{unit_reading_at, units}
use Rattle.verify_sweep.specs.declared.sweeping.Swept.{Swept}

-- ---- which units fail

-- what each of these device sectors reads as, as the unit that stands there; the first is the one of number n
abbrev pub unit_readings_at : Keying → ℕ → List (List ℕ) → List (Result (List ℕ) ℕ)
unit_readings_at k n [] = []
unit_readings_at k n (sector ∷ sectors) = unit_reading_at k n sector ∷ unit_readings_at k (n + 1) sectors

-- the faults among what was read, in order
abbrev pub faults_in : List (Result (List ℕ) ℕ) → List ℕ
faults_in [] = []
faults_in (Ok bytes ∷ readings) = faults_in readings
faults_in (Err offset ∷ readings) = offset ∷ faults_in readings

-- the byte offsets of the units that fail among these device sectors, of which the first is the one of number n
abbrev pub failing_units : Keying → ℕ → List (List ℕ) → List ℕ
failing_units k n sectors = faults_in (unit_readings_at k n sectors)

-- one of these device sectors reads as a fault at this offset
pub record Fails (k : Keying) (n : ℕ) (sectors : List (List ℕ)) (offset : ℕ) : Type 0 where
  pub place : ℕ
  pub within : place < length sectors
  pub reads : unit_reading_at k (n + place) (get_or sectors place []) ≡ Err offset

-- numbers one after the other, each as eight bytes
abbrev pub le64s : List ℕ → List ℕ
le64s [] = []
le64s (n ∷ ns) = le64 n ++ le64s ns

-- the byte offsets of the device sectors that aren't accepted, of some of which the first is the one of number n
abbrev pub refused_at : ℕ → List Bool → List ℕ
refused_at n [] = []
refused_at n (true ∷ accepted) = refused_at (n + 1) accepted
refused_at n (false ∷ accepted) = 512 * n ∷ refused_at (n + 1) accepted

-- ---- some units

-- these numbers were put after so many others, and what is after them stays
pub record Lists (ns : List ℕ) (bad now : ℕ) (before after : List ℕ) : Type 0 where
  pub now_is : now ≡ bad + length ns
  pub listed : after ≡ take (8 * bad) before ++ le64s ns ++ drop (8 * now) before

-- so many device sectors from number n on were read once, nothing was logged, and the offsets of those that fail were
-- put after those that were listed before
pub record Looks (k : Keying) (n count bad now : ℕ) (before after : List ℕ) (old new : DiskState) : Type 0 where
  pub sectors : List (List ℕ)
  pub all : length sectors ≡ count
  pub whole : All IsSector sectors
  pub stand : StandFrom old.content n count sectors
  pub lists : Lists (failing_units k n sectors) bad now before after
  pub asked : Counted count old.reads new.reads
  pub logs : Logs [] old new

-- ---- a sweep

-- a sweep: where it is to begin, over how many logical sectors it is to go, and how many the provider has
pub record Sweep : Type 0 where
  pub keying : Keying
  pub media : ℕ
  pub start : ℕ
  pub count : ℕ

-- the logical sectors that a sweep goes over: as many as are asked for, unless there are fewer, or they have more than
-- 16,384 units
abbrev pub sectors_swept : Sweep → ℕ
sectors_swept s = min (min s.count (s.media - s.start)) (16384 / units s.keying)

-- so many device sectors from number n on were read once, nothing was logged, and those that fail are listed at the
-- front of the bytes, of which the others stay
pub record ListsFailing (k : Keying) (n count bad : ℕ) (before after : List ℕ) (old new : DiskState) : Type 0 where
  pub sectors : List (List ℕ)
  pub all : length sectors ≡ count
  pub whole : All IsSector sectors
  pub stand : StandFrom old.content n count sectors
  pub bad_is : bad ≡ length (failing_units k n sectors)
  pub listed : after ≡ le64s (failing_units k n sectors) ++ drop (8 * bad) before
  pub asked : Counted count old.reads new.reads
  pub logs : Logs [] old new

-- what a sweep returns: where the next one begins, and how many units are listed; or a read failed
abbrev pub SweepAnswers : Sweep → List ℕ → List ℕ → Result Swept DiskFailed → DiskState → DiskState → Type 0
SweepAnswers s before after (Ok done) old new =
    (done.next ≡ s.start + sectors_swept s)
    × ListsFailing s.keying (s.start * units s.keying) (sectors_swept s * units s.keying) done.bad before after old new
SweepAnswers s before after (Err failed) old new = FailsAmong (sectors_swept s * units s.keying) old new
