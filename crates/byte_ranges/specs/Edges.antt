-- Reading a sector that a write covers in part, and putting its bytes beside those of the write.
use Rattle.std.specs.Prelude.{◌≡◌, ◌⊎◌, ℕ, ◌-◌, ◌<◌, Bool, true, false, List, [], length, take, drop, Option, Err, IfSome}
use Rattle.block_traits.specs.Content.{Content}
use Rattle.block_traits.specs.Disk.{DiskState, FailsIn, Logs}
use Rattle.eli_base.specs.Keying.{Keying}
use Rattle.sector_runs.specs.Reading.{sector_reading}
use Rattle.byte_ranges.specs.Ranges.{SectorHas}

-- a sector can't be read: the disk failed, or a unit of it has another tag than that of its ciphertext
abbrev pub EdgeFails : Keying → ℕ → DiskState → DiskState → Type 0
EdgeFails k sector old new =
    FailsIn [] old new ⊎ (Logs [] old new × IfSome old.content (λ c. (offset : ℕ) × (sector_reading k c sector ≡ Err offset)))

abbrev pub ReadsEdge : Keying → ℕ → List ℕ → Bool → DiskState → DiskState → Type 0
ReadsEdge k sector bytes true old new = Logs [] old new × IfSome old.content (λ c. SectorHas k c sector bytes)
ReadsEdge k sector bytes false old new = EdgeFails k sector old new

-- the first bytes of a list became those that a sector has there, and no other byte changed
pub record HasFront (told : Option Content) (k : Keying) (sector skip : ℕ) (old new : List ℕ) : Type 0 where
  pub size : length new ≡ length old
  pub rest : drop skip new ≡ drop skip old
  pub front : 0 < skip → IfSome told (λ c. (there : List ℕ) × SectorHas k c sector there × (take skip new ≡ take skip there))

abbrev pub PutsFrontEdge : Keying → ℕ → ℕ → List ℕ → List ℕ → Bool → DiskState → DiskState → Type 0
PutsFrontEdge k sector skip bytes more true old new = Logs [] old new × HasFront old.content k sector skip bytes more
PutsFrontEdge k sector skip bytes more false old new = (0 < skip) × EdgeFails k sector old new

-- the bytes of a list from a place on became the last that a sector has, and no other byte changed
pub record HasBack (told : Option Content) (k : Keying) (sector end : ℕ) (old new : List ℕ) : Type 0 where
  pub size : length new ≡ length old
  pub rest : take end new ≡ take end old
  pub back : end < length old → IfSome told (λ c. (there : List ℕ) × SectorHas k c sector there × (drop end new ≡ drop (k.sectorsize - (length old - end)) there))

abbrev pub PutsBackEdge : Keying → ℕ → ℕ → List ℕ → List ℕ → Bool → DiskState → DiskState → Type 0
PutsBackEdge k sector end bytes more true old new = Logs [] old new × HasBack old.content k sector end bytes more
PutsBackEdge k sector end bytes more false old new = (end < length bytes) × EdgeFails k sector old new
