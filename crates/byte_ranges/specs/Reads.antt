-- What reads of sectors and of a range come to.
use Rattle.std.specs.Prelude.{◌≡◌, ◌⊎◌, ℕ, Bool, true, false, List, [], length, Ok, Err, IfSome}
use Rattle.block_traits.specs.Disk.{DiskState, FailsIn, Logs}
use Rattle.eli_base.specs.Keying.{Keying}
use Rattle.sector_runs.specs.Reading.{data_reading}
use Rattle.byte_ranges.specs.Ranges.{range_reading}
use Rattle.byte_ranges.specs.declared.ranges.ByteRange.{ByteRange}

-- some sectors are read: these are their bytes; or the disk failed, or a unit has another tag than that of its
-- ciphertext
abbrev pub ReadsWholeSectors : Keying → ℕ → ℕ → List ℕ → Bool → DiskState → DiskState → Type 0
ReadsWholeSectors k first count bytes true old new = Logs [] old new × IfSome old.content (λ c. data_reading k c first count ≡ Ok bytes)
ReadsWholeSectors k first count bytes false old new =
    FailsIn [] old new ⊎ (Logs [] old new × IfSome old.content (λ c. (offset : ℕ) × (data_reading k c first count ≡ Err offset)))

-- a range can't be read: the disk failed, or a unit of its sectors has another tag than that of its ciphertext
abbrev pub CannotReadRange : Keying → ByteRange → DiskState → DiskState → Type 0
CannotReadRange k r old new =
    FailsIn [] old new
    ⊎ (Logs [] old new × IfSome old.content (λ c. (offset : ℕ) × (range_reading k c r ≡ Err offset)))

-- a range was read as these bytes
pub record IsRangeReadAs (k : Keying) (r : ByteRange) (bytes : List ℕ) (old new : DiskState) : Type 0 where
  pub size : length bytes ≡ r.count
  pub logs : Logs [] old new
  pub reads : IfSome old.content (λ c. range_reading k c r ≡ Ok bytes)

-- a range was read, or it can't be
abbrev pub ReadsRange : Keying → ByteRange → List ℕ → Bool → DiskState → DiskState → Type 0
ReadsRange k r bytes true old new = IsRangeReadAs k r bytes old new
ReadsRange k r bytes false old new = CannotReadRange k r old new
