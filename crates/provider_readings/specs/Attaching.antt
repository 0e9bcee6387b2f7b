-- Attaching a provider on an image that survived, and reading from it.
use Rattle.std.specs.Prelude.{◌≡◌, ℕ, zero, suc, ◌+◌, ◌*◌, ◌-◌, ◌≤◌, ◌<◌, List, [], ◌∷◌, length, get_or, Some, Result, Ok, Err}
use Rattle.block_traits.specs.Causes.{Rose}
use Rattle.block_traits.specs.Disk.{DiskState}
use Rattle.eli_base.specs.declared.parameters.Params.{Params}
use Rattle.eli_base.specs.Keying.{Keying, keying_of}
use Rattle.eli_base.specs.Units.{media_sectors}
use Rattle.eli_metadata.specs.Checks.{settings_of, size_matches, supported}
use Rattle.eli_metadata.specs.Format.{metadata_in}
use Rattle.eli_metadata.specs.declared.metadata.Metadata.{Metadata}
use Rattle.key_slots.specs.Slots.{IsFirstToOpen}
use Rattle.provider.specs.Answers.{SectorRequest}
use Rattle.provider.specs.Attached.{Attached}
use Rattle.provider.specs.declared.faults.AttachFault.{AttachFault}
use Rattle.provider.specs.declared.faults.AttachFault.TheVariants as attach
use Rattle.sector_runs.specs.declared.faults.ReadFault.{ReadFault}
use Rattle.sector_runs.specs.declared.faults.ReadFault.TheVariants as read
use Rattle.readings.specs.Crashes.{image_units}
use Rattle.sealing.specs.Sectors.{joined}
use Rattle.provider_readings.specs.Data.{survivor}

-- the disk reports that it has this image, and nothing was logged since
abbrev pub HasImage : List (List ℕ) → DiskState → Type 0
HasImage image disk = disk.content ≡ Some (survivor image)

-- ---- attaching

-- an image that a user key opens: its last device sector has metadata that a provider can be used by, of the image's
-- size and with a whole logical sector, and slot s is the first that the key opens, to this master key
pub record IsOpenedBy (image : List (List ℕ)) (m : Metadata) (params : Params) (key : List ℕ) (s : ℕ) (master : List ℕ) : Type 0 where
  pub metadata : metadata_in (get_or image (length image - 1) []) ≡ Ok m
  pub checked : supported m ≡ Ok (settings_of params)
  pub size : size_matches m (length image) ≡ Ok tt
  pub room : 1 ≤ media_sectors params.auth params.sectorsize (512 * length image)
  pub opens : IsFirstToOpen m key s master

-- the provider on this disk has the keying of the metadata and of the master key in the slot
pub record IsAttachedOn {D : Type 0} (given : D) (params : Params) (s : ℕ) (master : List ℕ) (p : Attached D) : Type 0 where
  pub disk : p.disk ≡ given
  pub slot : p.slot ≡ s
  pub keying : p.keying ≡ keying_of params (record { bytes = master })

-- the provider is attached, or there was no memory, and the disk comes back
abbrev pub AttachesOrLacksMemory : {D : Type 0} → D → Params → ℕ → List ℕ → Result (Attached D) (D × AttachFault) → Type 0
AttachesOrLacksMemory given params s master (Ok p) = IsAttachedOn given params s master p
AttachesOrLacksMemory given params s master (Err refused) = (refused.0 ≡ given) × (refused.1 ≡ attach.NoMemory)

-- ---- reading

-- what each of so many logical sectors of an image reads as: the bytes of all its units, or the first fault among them
abbrev pub image_sectors : Keying → ℕ → ℕ → List (List ℕ) → List (Result (List ℕ) ℕ)
image_sectors k sector zero image = []
image_sectors k sector (suc count) image = joined (image_units k sector image) ∷ image_sectors k (sector + 1) count image

-- the bytes of these logical sectors one after the other, or the first fault among them
abbrev pub image_data : Keying → ℕ → ℕ → List (List ℕ) → Result (List ℕ) ℕ
image_data k sector count image = joined (image_sectors k sector count image)

-- what a read of some sectors gives: what the image has for them; or the range passes the end, or the disk failed
abbrev pub ReadsImage : Keying → SectorRequest → List (List ℕ) → List ℕ → Result (Unit {0}) ReadFault → DiskState → DiskState → Type 0
ReadsImage k r image bytes (Ok done) old new = image_data k r.sector r.count image ≡ Ok bytes
ReadsImage k r image bytes (Err (read.Integrity offset)) old new = image_data k r.sector r.count image ≡ Err offset
ReadsImage k r image bytes (Err (read.OutOfRange sector count media)) old new = r.media < r.sector + r.count
ReadsImage k r image bytes (Err read.DeviceFault) old new = Rose old.faults new.faults
