-- An attached provider: a disk whose data are read and written under a keying (geli(8), "attach").
use Rattle.std.specs.Prelude.{◌≡◌, ℕ, ◌*◌, ◌/◌, max, Bool, true, false, ◌||◌}
use Rattle.block_traits.specs.Disk.{DiskState}
use Rattle.eli_base.specs.declared.algorithms.Auth.{Auth}
use Rattle.eli_base.specs.declared.algorithms.Auth.TheVariants.{Off, Sha256, Sha384, Sha512}
use Rattle.eli_base.specs.declared.parameters.MasterKey.{MasterKey}
use Rattle.eli_base.specs.declared.parameters.Params.{Params}
use Rattle.eli_base.specs.Keying.{Keying, keying_of}
use Rattle.eli_base.specs.Units.{media_sectors, units_per_sector}

-- a disk, its keying, the slot of the metadata that gave the master key, and whether it is read-only
pub record Attached (D : Type 0) : Type 0 where
  pub disk : D
  pub keying : Keying
  pub slot : ℕ
  pub readonly : Bool

-- the provider on a disk, with these parameters and the master key of a slot
abbrev pub attached_with : {D : Type 0} → Params → MasterKey → ℕ → Bool → D → Attached D
attached_with params master slot readonly disk = record {
  disk = disk;
  keying = keying_of params master;
  slot = slot;
  readonly = readonly || params.readonly;
}

-- keying, slot and read-only state are as before
pub record IsKept {D : Type 0} (old new : Attached D) : Type 0 where
  pub keying : new.keying ≡ old.keying
  pub slot : new.slot ≡ old.slot
  pub readonly : new.readonly ≡ old.readonly

-- the logical sectors that a disk has room for under a keying
abbrev pub media : Keying → DiskState → ℕ
media k d = media_sectors k.auth k.sectorsize (512 * d.size)

-- whether each device sector has a tag
abbrev pub has_tags : Auth → Bool
has_tags Off = false
has_tags Sha256 = true
has_tags Sha384 = true
has_tags Sha512 = true

-- the bytes of the buffer that a provider keeps, in which logical sectors are sealed: those of the device sectors of as
-- many logical sectors as 32 KiB have room for, and of one at least
abbrev pub buffer_bytes : Auth → ℕ → ℕ
buffer_bytes auth sectorsize = let units = units_per_sector auth sectorsize in max 1 (64 / units) * (512 * units)
