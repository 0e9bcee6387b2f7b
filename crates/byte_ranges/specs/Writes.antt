-- What a write of a range does: its sectors are written whole, and flushed if that is asked for.
use Rattle.std.specs.Prelude.{◌≡◌, ◌⊎◌, ℕ, ◌*◌, Bool, true, false, List, [], ◌∷◌, ◌++◌, length, take, drop, Err, IfSome}
use Rattle.aes_core.specs.Schedule.{AreBytes}
use Rattle.block_traits.specs.Disk.{DiskState, FailsIn, Logs}
use Rattle.block_traits.specs.declared.disk.Event.{Event}
use Rattle.block_traits.specs.declared.disk.Event.TheVariants.{Flush}
use Rattle.eli_base.specs.Keying.{Keying}
use Rattle.sector_runs.specs.Reading.{sector_reading}
use Rattle.sector_runs.specs.Writing.{data_writes}
use Rattle.byte_ranges.specs.Ranges.{IsEdge, IsSpliced, first_sector, sectors_covered}
use Rattle.byte_ranges.specs.declared.ranges.ByteRange.{ByteRange}
use Rattle.byte_ranges.specs.declared.splices.Written.{Written}
use Rattle.byte_ranges.specs.declared.splices.Written.TheVariants.{Whole, EdgeUnread, WriteFailed, FlushFailed}

-- a flush, if it is asked for
abbrev pub flush_events : Bool → List Event
flush_events true = Flush ∷ []
flush_events false = []

-- these events were logged, or the disk failed among them
abbrev pub LogsOrFails : List Event → Bool → DiskState → DiskState → Type 0
LogsOrFails events true old new = Logs events old new
LogsOrFails events false old new = FailsIn events old new

-- the events of a write of these bytes to all sectors of a range
abbrev pub range_writes : Keying → ByteRange → List ℕ → List Event
range_writes k r whole = data_writes k (first_sector k r) (sectors_covered k r) whole

-- what the sectors of a write are given
abbrev pub Splices : Keying → ByteRange → List ℕ → List ℕ → DiskState → Type 0
Splices k r bytes whole d = IfSome d.content (λ c. IsSpliced k c r bytes whole)

-- the write was made, whole, and flushed if that was asked for
pub record IsWrittenWhole (k : Keying) (r : ByteRange) (flush : Bool) (bytes : List ℕ) (old new : DiskState) : Type 0 where
  pub whole : List ℕ
  pub are : AreBytes whole
  pub size : length whole ≡ sectors_covered k r * k.sectorsize
  pub splices : Splices k r bytes whole old
  pub logs : Logs (range_writes k r whole ++ flush_events flush) old new

-- the disk failed, and the first of the writes were made and no other, or all of them and not the flush
pub record IsWrittenInPart (k : Keying) (r : ByteRange) (flush : Bool) (bytes : List ℕ) (old new : DiskState) : Type 0 where
  pub whole : List ℕ
  pub are : AreBytes whole
  pub size : length whole ≡ sectors_covered k r * k.sectorsize
  pub splices : Splices k r bytes whole old
  pub fails : FailsIn (range_writes k r whole ++ flush_events flush) old new

-- a first or last sector, which the write covers in part, can't be read, and nothing was written
abbrev pub CannotSplice : Keying → ByteRange → DiskState → DiskState → Type 0
CannotSplice k r old new =
    FailsIn [] old new
    ⊎ (Logs [] old new × IfSome old.content (λ c. (sector offset : ℕ) × IsEdge k r sector × (sector_reading k c sector ≡ Err offset)))

-- the bytes of a range's sectors, which had those of a write at their places, became what the write gives the sectors
abbrev pub SplicesInto : Keying → ByteRange → ℕ → List ℕ → List ℕ → Bool → DiskState → DiskState → Type 0
SplicesInto k r skip bytes whole true old new =
    Logs [] old new × (length whole ≡ length bytes) × Splices k r (take r.count (drop skip bytes)) whole old
SplicesInto k r skip bytes whole false old new = CannotSplice k r old new

-- the disk was flushed if that was asked for, or failed
abbrev pub FlushesWhere : Bool → Written → DiskState → DiskState → Type 0
FlushesWhere wanted Whole old new = Logs (flush_events wanted) old new
FlushesWhere wanted FlushFailed old new = (wanted ≡ true) × FailsIn (flush_events wanted) old new
FlushesWhere wanted EdgeUnread old new = ⊥
FlushesWhere wanted WriteFailed old new = ⊥

-- the write was made whole; or nothing was written, since an edge can't be read; or only its first part was; or it was
-- made and not flushed
abbrev pub WritesRange : Keying → ByteRange → Bool → List ℕ → Written → DiskState → DiskState → Type 0
WritesRange k r flush bytes Whole old new = IsWrittenWhole k r flush bytes old new
WritesRange k r flush bytes EdgeUnread old new = CannotSplice k r old new
WritesRange k r flush bytes WriteFailed old new = IsWrittenInPart k r flush bytes old new
WritesRange k r flush bytes FlushFailed old new = (flush ≡ true) × IsWrittenInPart k r flush bytes old new
