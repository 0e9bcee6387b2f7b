-- What reading a unit, a logical sector, or some of them came to, each result with its cause. Units are read in order,
-- and each is looked at before the next one is read: so a fault is that of the first unit that has one, and if a call
-- of the disk failed, every unit before the one that was to be read was accepted. A read leaves no event, but the disk
-- counts it. The unit with a fault, and the one whose read failed, is that of the last read, and none after it was
-- read.
use Rattle.std.specs.Prelude.{◌≡◌, ◌≢◌, ℕ, ◌+◌, ◌*◌, ◌<◌, List, [], take, Result, Ok, Err, IfSome, IsOk}
use Rattle.block_traits.specs.Causes.{Counted}
use Rattle.block_traits.specs.Content.{Content, present}
use Rattle.block_traits.specs.Disk.{DiskState, FailsIn, Logs}
use Rattle.eli_base.specs.declared.algorithms.Auth.TheVariants.{Off}
use Rattle.eli_base.specs.Keying.{Keying}
use Rattle.sealing.specs.TaggedUnits.{opened_tagged}
use Rattle.sealing.specs.Sectors.{joined, units}
use Rattle.sector_runs.specs.declared.faults.ReadFault.{ReadFault}
use Rattle.sector_runs.specs.declared.faults.ReadFault.TheVariants.{OutOfRange, DeviceFault, Integrity}
use Rattle.sector_runs.specs.Reading.{ReadsAs, data_reading, sector_reading, units_read}

-- so many reads were made, nothing was logged, and this holds of the content if it is reported
pub record ReadSo (count : ℕ) (old new : DiskState) (fact : Content → Type 0) : Type 0 where
  pub asked : Counted count old.reads new.reads
  pub logs : Logs [] old new
  pub reads : IfSome old.content fact

-- so many reads were made, of which the last failed, and nothing was logged
pub record FailsAt (count : ℕ) (old new : DiskState) : Type 0 where
  pub asked : Counted count old.reads new.reads
  pub fails : FailsIn [] old new

-- the read of one of so many units failed: each one before it was read, and none after it
pub record FailsAmong (count : ℕ) (old new : DiskState) : Type 0 where
  pub unit : ℕ
  pub within : unit < count
  pub fails : FailsAt (unit + 1) old new

-- what reading a unit of so many plain bytes in device sector n returns
abbrev pub UnitAnswers : Keying → ℕ → ℕ → DiskState → DiskState → List ℕ → Result (Unit {0}) ReadFault → Type 0
UnitAnswers k n size old new bytes (Ok done) = ReadSo 1 old new (λ c. opened_tagged k (512 * n) size (present c n) ≡ Ok bytes)
UnitAnswers k n size old new bytes (Err (Integrity offset)) = (offset ≡ 512 * n) × ReadSo 1 old new (λ c. opened_tagged k (512 * n) size (present c n) ≡ Err offset)
UnitAnswers k n size old new bytes (Err DeviceFault) = FailsAt 1 old new
UnitAnswers k n size old new bytes (Err (OutOfRange sector count media)) = ⊥

-- ---- one logical sector

-- the first units of a logical sector are accepted: none of them has a fault
abbrev pub AreAccepted : Keying → Content → ℕ → ℕ → Type 0
AreAccepted k c sector count = IsOk (joined (take count (units_read k c sector)))

-- with authentication, this unit is the first of the logical sector whose tag differs; it was the last to be read, and
-- nothing was logged
pub record SectorFault (k : Keying) (sector offset : ℕ) (old new : DiskState) : Type 0 where
  pub tagged : k.auth ≢ Off
  pub unit : ℕ
  pub within : unit < units k
  pub place : offset ≡ 512 * (sector * units k + unit)
  pub asked : Counted (unit + 1) old.reads new.reads
  pub logs : Logs [] old new
  pub reads : IfSome old.content (λ c. sector_reading k c sector ≡ Err offset)

-- the device failed when this unit was to be read, all units before it were accepted, none after it was read, and
-- nothing was logged
pub record SectorFails (k : Keying) (sector : ℕ) (old new : DiskState) : Type 0 where
  pub unit : ℕ
  pub within : unit < units k
  pub accepted : IfSome old.content (λ c. AreAccepted k c sector unit)
  pub fails : FailsAt (unit + 1) old new

-- what reading a logical sector returns
abbrev pub SectorAnswers : Keying → ℕ → DiskState → DiskState → List ℕ → Result (Unit {0}) ReadFault → Type 0
SectorAnswers k sector old new bytes (Ok done) = ReadSo (units k) old new (λ c. sector_reading k c sector ≡ Ok bytes)
SectorAnswers k sector old new bytes (Err (Integrity offset)) = SectorFault k sector offset old new
SectorAnswers k sector old new bytes (Err DeviceFault) = SectorFails k sector old new
SectorAnswers k sector old new bytes (Err (OutOfRange first count media)) = ⊥

-- ---- some logical sectors

-- with authentication, a unit of the logical sector after so many is the first of them all whose tag differs, at this
-- byte offset of the device; it was the last to be read, and nothing was logged
pub record RunFault (k : Keying) (sector count offset : ℕ) (old new : DiskState) : Type 0 where
  pub tagged : k.auth ≢ Off
  pub passed : ℕ
  pub unit : ℕ
  pub more : passed < count
  pub within : unit < units k
  pub place : offset ≡ 512 * ((sector + passed) * units k + unit)
  pub asked : Counted (passed * units k + unit + 1) old.reads new.reads
  pub logs : Logs [] old new
  pub reads : ReadsAs old k sector count (Err offset)

-- the device failed when a unit of the logical sector after so many was to be read, all units before it were accepted,
-- none after it was read, and nothing was logged
pub record RunFails (k : Keying) (sector count : ℕ) (old new : DiskState) : Type 0 where
  pub passed : ℕ
  pub unit : ℕ
  pub more : passed < count
  pub within : unit < units k
  pub accepted : IfSome old.content (λ c. IsOk (data_reading k c sector passed) × AreAccepted k c (sector + passed) unit)
  pub asked : Counted (passed * units k + unit + 1) old.reads new.reads
  pub fails : FailsIn [] old new

-- what reading so many logical sectors returns: the bytes of all, each unit of which was read once, or the first fault
-- among them
abbrev pub RunAnswers : Keying → ℕ → ℕ → DiskState → DiskState → List ℕ → Result (Unit {0}) ReadFault → Type 0
RunAnswers k sector count old new bytes (Ok done) = Counted (count * units k) old.reads new.reads × Logs [] old new × ReadsAs old k sector count (Ok bytes)
RunAnswers k sector count old new bytes (Err (Integrity offset)) = RunFault k sector count offset old new
RunAnswers k sector count old new bytes (Err DeviceFault) = RunFails k sector count old new
RunAnswers k sector count old new bytes (Err (OutOfRange first asked media)) = ⊥
