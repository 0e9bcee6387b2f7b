-- Zeros that are written to a range: what stands beside them in its first and its last sector.
use Rattle.std.specs.Prelude.{◌≡◌, ℕ, ◌-◌, ◌<◌, Bool, true, false, List, [], ◌++◌, length, take, drop, replicate, IfSome}
use Rattle.block_traits.specs.Disk.{DiskState, Logs}
use Rattle.eli_base.specs.Keying.{Keying}
use Rattle.byte_ranges.specs.Edges.{EdgeFails}
use Rattle.byte_ranges.specs.Ranges.{SectorHas}
use Rattle.byte_ranges.specs.Writes.{CannotSplice, SplicesInto}
use Rattle.byte_ranges.specs.declared.cover.Cover.{Cover}
use Rattle.byte_ranges.specs.declared.ranges.ByteRange.{ByteRange}

-- so many bytes: the front, zeros, and the back
abbrev pub with_zeros : ℕ → List ℕ → List ℕ → List ℕ
with_zeros all front back = front ++ (replicate (all - length front - length back) 0 ++ back)

-- the last bytes of a sector that stands at the beginning of these
abbrev pub after_zeros : Keying → ℕ → List ℕ → List ℕ
after_zeros k left edge = take left (drop (k.sectorsize - left) edge)

-- the last sector was read, if some of its bytes come after the zeros
abbrev pub ReadsLastEdge : Keying → ℕ → ℕ → List ℕ → Bool → DiskState → DiskState → Type 0
ReadsLastEdge k sector left edge true old new = Logs [] old new × (0 < left → IfSome old.content (λ c. SectorHas k c sector (take k.sectorsize edge)))
ReadsLastEdge k sector left edge false old new = (0 < left) × EdgeFails k sector old new

-- what stands beside the zeros is known: what comes before them is at the beginning of the room, and what comes after
-- them is in the last sector
abbrev pub FindsEdges : Keying → ByteRange → Cover → ℕ → List ℕ → List ℕ → List ℕ → Bool → DiskState → DiskState → Type 0
FindsEdges k r cover left room found edge true old new =
    (length found ≡ length room) × (drop cover.skip found ≡ drop cover.skip room)
    × SplicesInto k r cover.skip (replicate cover.whole 0) (with_zeros cover.whole (take cover.skip found) (after_zeros k left edge)) true old new
FindsEdges k r cover left room found edge false old new = CannotSplice k r old new
