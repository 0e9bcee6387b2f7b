-- Ranges of bytes of an attached provider: the bytes of its logical sectors one after the other.
use Rattle.std.specs.Prelude.{◌≡◌, ◌⊎◌, ℕ, ◌+◌, ◌-◌, ◌*◌, ◌/◌, ◌%◌, ◌<◌, ◌≤◌, List, length, take, drop, Result, Ok, Err}
use Rattle.block_traits.specs.Content.{Content}
use Rattle.block_traits.specs.Disk.{DiskState}
use Rattle.eli_base.specs.Keying.{Keying}
use Rattle.provider.specs.Attached.{media}
use Rattle.sector_runs.specs.Reading.{data_reading, sector_reading}
use Rattle.byte_ranges.specs.declared.cover.Cover.{Cover}
use Rattle.byte_ranges.specs.declared.ranges.ByteRange.{ByteRange}

-- the bytes of a provider
abbrev pub data_size : Keying → DiskState → ℕ
data_size k d = media k d * k.sectorsize

abbrev pub IsInside : Keying → DiskState → ByteRange → Type 0
IsInside k d r = r.offset + r.count ≤ data_size k d

-- the first logical sector that a range lies in, the bytes of it before the range, and how many sectors it lies in
abbrev pub first_sector : Keying → ByteRange → ℕ
first_sector k r = r.offset / k.sectorsize

abbrev pub skipped : Keying → ByteRange → ℕ
skipped k r = r.offset % k.sectorsize

abbrev pub sectors_covered : Keying → ByteRange → ℕ
sectors_covered k r = (skipped k r + r.count + (k.sectorsize - 1)) / k.sectorsize

-- a cover has the numbers of a range: its first sector, the bytes before it, how many sectors, and all their bytes
pub record IsCoverOf (k : Keying) (r : ByteRange) (cover : Cover) : Type 0 where
  pub first : cover.first ≡ first_sector k r
  pub skip : cover.skip ≡ skipped k r
  pub count : cover.count ≡ sectors_covered k r
  pub whole : cover.whole ≡ cover.count * k.sectorsize
  pub some : 1 ≤ cover.count
  pub covers : cover.skip + r.count ≤ cover.whole
  pub least : cover.whole < cover.skip + r.count + k.sectorsize

-- the part of the bytes of its sectors that is the range
abbrev pub part_of : Keying → ByteRange → Result (List ℕ) ℕ → Result (List ℕ) ℕ
part_of k r (Ok bytes) = Ok (take r.count (drop (skipped k r) bytes))
part_of k r (Err offset) = Err offset

-- what a range reads as now: its part of what its sectors read as, or the first fault among them
abbrev pub range_reading : Keying → Content → ByteRange → Result (List ℕ) ℕ
range_reading k c r = part_of k r (data_reading k c (first_sector k r) (sectors_covered k r))

-- the bytes of a sector, which can be read
pub record SectorHas (k : Keying) (c : Content) (sector : ℕ) (bytes : List ℕ) : Type 0 where
  pub reads : sector_reading k c sector ≡ Ok bytes

-- The plain bytes that a write of a range gives its sectors: those of the write, and beside them, in a first or last
-- sector that the range covers in part, what that sector reads as now.
pub record IsSpliced (k : Keying) (c : Content) (r : ByteRange) (bytes whole : List ℕ) : Type 0 where
  pub fills : length whole ≡ sectors_covered k r * k.sectorsize
  pub written : take r.count (drop (skipped k r) whole) ≡ bytes
  pub front : 0 < skipped k r → (there : List ℕ) × SectorHas k c (first_sector k r) there × (take (skipped k r) whole ≡ take (skipped k r) there)
  pub back : let end = skipped k r + r.count in let last = sectors_covered k r - 1 in
      end < sectors_covered k r * k.sectorsize →
      (there : List ℕ) × SectorHas k c (first_sector k r + last) there × (drop end whole ≡ drop (end - last * k.sectorsize) there)

-- a sector that the range covers in part: the first, or the last
abbrev pub IsEdge : Keying → ByteRange → ℕ → Type 0
IsEdge k r sector =
    ((0 < skipped k r) × (sector ≡ first_sector k r))
    ⊎ ((skipped k r + r.count < sectors_covered k r * k.sectorsize) × (sector ≡ first_sector k r + (sectors_covered k r - 1)))
