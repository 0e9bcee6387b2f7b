-- A provider as a disk.
use Rattle.std.specs.Prelude.{◌-◌, false}
use Rattle.std.specs.Option.{option_map}
use Rattle.block_traits.specs.Disk.{DiskState}
use Rattle.provider_disk.specs.declared.provider_disk.ProviderDisk.{ProviderDisk}
use Rattle.provider_disk.specs.Opened.{opened_content}
use Rattle.provider_disk.specs.OpenedFits.{IsWellFormed-opened}

-- as a disk it has all sectors of the disk below but the last, reports what they read as if that disk reports its
-- sectors, shows no events, and has the faults and the reads of that disk
abbrev pub provider_disk_of : {D : Type 0} → (D → DiskState) → ProviderDisk D → DiskState
provider_disk_of state p = record {
  size = (state p.on.disk).size - 1;
  shows = false;
  content = option_map (opened_content p.on.keying) (state p.on.disk).content;
  faults = (state p.on.disk).faults;
  reads = (state p.on.disk).reads;
  well_formed = IsWellFormed-opened p.on.keying (state p.on.disk) p.valid p.single;
}
