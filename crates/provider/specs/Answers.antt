-- What the calls of a provider return, each result with its cause.
use Rattle.std.specs.Prelude.{◌≡◌, ℕ, ◌+◌, ◌*◌, ◌/◌, ◌<◌, ◌≤◌, Bool, true, false, ◌||◌, IsSome, List, [], length, Option, Some, None, Result, Ok, Err}
use Rattle.block_traits.specs.Causes.{Counted}
use Rattle.block_traits.specs.Disk.{DiskState, FailsIn, Logs}
use Rattle.eli_base.specs.declared.parameters.Params.{Params}
use Rattle.eli_base.specs.Keying.{Keying, keying_of}
use Rattle.eli_base.specs.Units.{media_sectors}
use Rattle.eli_metadata.specs.Checks.{is_readonly}
use Rattle.eli_metadata.specs.declared.metadata.Metadata.{Metadata}
use Rattle.sealing.specs.Sectors.{units}
use Rattle.provider.specs.declared.faults.AttachFault.{AttachFault}
use Rattle.provider.specs.declared.faults.AttachFault.TheVariants as attach
use Rattle.sector_runs.specs.declared.faults.ReadFault.{ReadFault}
use Rattle.sector_runs.specs.declared.faults.ReadFault.TheVariants as read
use Rattle.provider.specs.declared.faults.WriteFault.{WriteFault}
use Rattle.provider.specs.declared.faults.WriteFault.TheVariants as write
use Rattle.key_slots.specs.Slots.{OpensAsNamed, opened}
use Rattle.provider.specs.Attached.{Attached, media}
use Rattle.sector_runs.specs.Reading.{ReadsAs}
use Rattle.sector_runs.specs.Reads.{RunFails, RunFault}
use Rattle.sector_runs.specs.Writing.{data_writes}

-- ---- attaching

-- what is attached: metadata, the parameters that they say, and the disk's state
pub record Target : Type 0 where
  pub meta : Metadata
  pub params : Params
  pub disk : DiskState

-- what a provider is attached with: a user key, the slot that is named, and whether the provider is to be read-only
pub record Means : Type 0 where
  pub key : List ℕ
  pub named : Option ℕ
  pub readonly : Bool

-- the logical sectors of the provider
abbrev pub target_media : Target → ℕ
target_media t = media_sectors t.params.auth t.params.sectorsize (512 * t.disk.size)

-- the provider that is attached: on this disk, with the master key of the slot that opens
pub record IsAttached {D : Type 0} (t : Target) (by : Means) (given : D) (p : Attached D) : Type 0 where
  pub room : 1 ≤ target_media t
  pub disk : p.disk ≡ given
  pub opened : opened t.meta by.key by.named ≡ Some (record { bytes = p.keying.master }, p.slot)
  pub opens : OpensAsNamed t.meta by.key by.named p.slot p.keying.master
  pub keying : p.keying ≡ keying_of t.params (record { bytes = p.keying.master })
  pub readonly : p.readonly ≡ (by.readonly || is_readonly t.meta)

-- no slot that is asked for opens
abbrev pub OpensToNone : Target → Means → Type 0
OpensToNone t by = (s : ℕ) (master : List ℕ) → ¬ OpensAsNamed t.meta by.key by.named s master

-- why no provider is attached: the disk has no whole logical sector, no slot that is asked for opens, or else there was
-- no memory
abbrev pub AttachFails : Target → Means → AttachFault → Type 0
AttachFails t by (attach.TooSmall size) = (target_media t ≡ 0) × (size ≡ 512 * t.disk.size)
AttachFails t by attach.WrongKey = (1 ≤ target_media t) × (opened t.meta by.key by.named ≡ None) × OpensToNone t by
AttachFails t by attach.NoMemory = (1 ≤ target_media t) × IsSome (opened t.meta by.key by.named)

-- what an attempt to attach returns: the provider, or the disk with the fault
abbrev pub AttachAnswers : {D : Type 0} → Target → Means → D → Result (Attached D) (D × AttachFault) → Type 0
AttachAnswers t by disk (Ok p) = IsAttached t by disk p
AttachAnswers t by disk (Err refused) = (refused.0 ≡ disk) × AttachFails t by refused.1

-- ---- reading and writing

-- a request of whole logical sectors: the first, how many, and how many the provider has
pub record SectorRequest : Type 0 where
  pub sector : ℕ
  pub count : ℕ
  pub media : ℕ

-- a request to a provider, for so many bytes
abbrev pub request : {D : Type 0} → (D → DiskState) → Attached D → ℕ → List ℕ → SectorRequest
request state p sector bytes = record {
  sector = sector;
  count = length bytes / p.keying.sectorsize;
  media = media p.keying (state p.disk);
}

abbrev pub IsInRange : SectorRequest → Type 0
IsInRange r = r.sector + r.count ≤ r.media

-- the request passes the end, and these are its numbers
pub record PassesEnd (r : SectorRequest) (first asked there : ℕ) : Type 0 where
  pub passes : r.media < r.sector + r.count
  pub sector : first ≡ r.sector
  pub count : asked ≡ r.count
  pub media : there ≡ r.media

-- the request was served: each unit was read once, nothing was logged, and this is what the sectors read as
pub record IsRead (k : Keying) (r : SectorRequest) (bytes : List ℕ) (old new : DiskState) : Type 0 where
  pub in_range : IsInRange r
  pub asked : Counted (r.count * units k) old.reads new.reads
  pub logs : Logs [] old new
  pub reads : ReadsAs old k r.sector r.count (Ok bytes)

-- a unit has another tag than its ciphertext: nothing was logged, and it is the first of the request that has, at this
-- byte offset of the device, and the last that was read
pub record FindsFault (k : Keying) (r : SectorRequest) (offset : ℕ) (old new : DiskState) : Type 0 where
  pub in_range : IsInRange r
  pub finds : RunFault k r.sector r.count offset old new

-- a device call failed: nothing was logged, every unit of the request before the one that was to be read was accepted,
-- and none after it was read
pub record FailsRead (k : Keying) (r : SectorRequest) (old new : DiskState) : Type 0 where
  pub in_range : IsInRange r
  pub fails : RunFails k r.sector r.count old new

-- what a read returns
abbrev pub ReadAnswers : {D : Type 0} → (D → DiskState) → SectorRequest → List ℕ → Attached D → Attached D → Result (Unit {0}) ReadFault → Type 0
ReadAnswers state r bytes old new (Ok done) = IsRead old.keying r bytes (state old.disk) (state new.disk)
ReadAnswers state r bytes old new (Err (read.OutOfRange sector count media)) = PassesEnd r sector count media × (new ≡ old)
ReadAnswers state r bytes old new (Err read.DeviceFault) = FailsRead old.keying r (state old.disk) (state new.disk)
ReadAnswers state r bytes old new (Err (read.Integrity offset)) = FindsFault old.keying r offset (state old.disk) (state new.disk)

-- the request was served: exactly the writes of the sealed sectors were logged
pub record IsWritten (k : Keying) (r : SectorRequest) (bytes : List ℕ) (old new : DiskState) : Type 0 where
  pub in_range : IsInRange r
  pub logs : Logs (data_writes k r.sector r.count bytes) old new

-- a device call failed: the first of these writes were logged, or none
pub record FailsWrite (k : Keying) (r : SectorRequest) (bytes : List ℕ) (old new : DiskState) : Type 0 where
  pub in_range : IsInRange r
  pub fails : FailsIn (data_writes k r.sector r.count bytes) old new

-- what a write returns: a read-only provider refuses each one, whatever its range
abbrev pub WriteAnswers : {D : Type 0} → (D → DiskState) → SectorRequest → List ℕ → Attached D → Attached D → Result (Unit {0}) WriteFault → Type 0
WriteAnswers state r bytes old new (Ok done) = (old.readonly ≡ false) × IsWritten old.keying r bytes (state old.disk) (state new.disk)
WriteAnswers state r bytes old new (Err write.ReadOnly) = (old.readonly ≡ true) × (new ≡ old)
WriteAnswers state r bytes old new (Err (write.OutOfRange sector count media)) = (old.readonly ≡ false) × PassesEnd r sector count media × (new ≡ old)
WriteAnswers state r bytes old new (Err write.DeviceFault) = (old.readonly ≡ false) × FailsWrite old.keying r bytes (state old.disk) (state new.disk)
