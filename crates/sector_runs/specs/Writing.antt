-- What a write of logical sectors does to the disk.
use Rattle.std.specs.Prelude.{ℕ, zero, suc, ◌+◌, ◌*◌, List, [], ◌++◌, take, drop}
use Rattle.block_traits.specs.declared.disk.Event.{Event}
use Rattle.block_traits.specs.Disk.{writes_from}
use Rattle.eli_base.specs.Keying.{Keying}
use Rattle.sealing.specs.Sectors.{seal, units}

-- the writes of one logical sector with these plain bytes: the device sectors that it is sealed to, in ascending order
abbrev pub sector_writes : Keying → ℕ → List ℕ → List Event
sector_writes k sector bytes = writes_from (sector * units k) (seal k sector bytes)

-- the writes of so many logical sectors, which have these plain bytes one after the other
abbrev pub data_writes : Keying → ℕ → ℕ → List ℕ → List Event
data_writes k sector zero bytes = []
data_writes k sector (suc count) bytes = sector_writes k sector (take k.sectorsize bytes) ++ data_writes k (sector + 1) count (drop k.sectorsize bytes)
