-- Writes of ranges, from the sectors that they are spliced into.
use Rattle.std.proofs.Common.{◌≡◌, ◌∙◌, ℕ, ◌+◌, ◌≤◌, Bool, true, false, List, [], ◌++◌, length, take, drop, Err, sym, subst, arith}
use Rattle.std.proofs.lemmas.Bool.{false≢true}
use Rattle.aes_core.specs.Schedule.{AreBytes}
use Rattle.block_traits.specs.Disk.{DiskState, FailsIn, Logs}
use Rattle.block_traits.specs.declared.disk.Event.{Event}
use Rattle.block_traits.proofs.Logs.{FailsIn-more, FailsIn-then, Logs-nothing, Logs-then}
use Rattle.eli_base.specs.Keying.{Keying}
use Rattle.provider.specs.Answers.{SectorRequest, WriteAnswers}
use Rattle.provider.specs.Attached.{Attached}
use Rattle.sector_runs.specs.Writing.{data_writes}
use Rattle.provider.specs.declared.faults.WriteFault.{WriteFault}
use Rattle.provider.specs.declared.faults.WriteFault.TheVariants as write
use Rattle.byte_ranges.specs.Ranges.{IsCoverOf}
use Rattle.byte_ranges.specs.Writes.{FlushesWhere, IsWrittenInPart, IsWrittenWhole, SplicesInto, WritesRange, flush_events, range_writes}
use Rattle.byte_ranges.specs.declared.cover.Cover.{Cover}
use Rattle.byte_ranges.specs.declared.ranges.ByteRange.{ByteRange}
use Rattle.byte_ranges.specs.declared.splices.Written.{Written}
use Rattle.byte_ranges.specs.declared.splices.Written.TheVariants.{Whole, EdgeUnread, WriteFailed, FlushFailed}
use Rattle.byte_ranges.proofs.Splicing.{whole_of}

pub no_flush : (wanted : Bool) (d : DiskState) → wanted ≡ false → Logs (flush_events wanted) d d
no_flush true d h = absurd (false≢true (sym h))
no_flush false d h = Logs-nothing d

-- ---- sectors

pub writes_so : (k : Keying) (sector n m : ℕ) (bytes : List ℕ) (old new : DiskState) → m ≡ n → Logs (data_writes k sector m bytes) old new → Logs (data_writes k sector n bytes) old new
writes_so k sector n m bytes old new same h = subst (λ (j : ℕ). Logs (data_writes k sector j bytes) old new) same h

-- a write of sectors that are there is refused only if the disk failed
pub cannot_write : {D : Type 0} (state : D → DiskState) (error : WriteFault) (r : SectorRequest) (n : ℕ) (bytes : List ℕ) (old new : Attached D) → r.count ≡ n → r.sector + n ≤ r.media
    → old.readonly ≡ false → WriteAnswers state r bytes old new (Err error) → FailsIn (data_writes old.keying r.sector n bytes) (state old.disk) (state new.disk)
cannot_write state write.ReadOnly r n bytes old new same inside writable h = absurd (false≢true (sym writable ∙ h.0))
cannot_write state (write.OutOfRange sector count media) r n bytes old new same inside writable h = absurd (omega (arith, same, inside, h.1.passes))
cannot_write state write.DeviceFault r n bytes old new same inside writable h =
    subst (λ (j : ℕ). FailsIn (data_writes old.keying r.sector j bytes) (state old.disk) (state new.disk)) same h.1.fails

-- ---- ranges

events_of_range : (k : Keying) (r : ByteRange) (flush : Bool) (cover : Cover) (whole : List ℕ) → IsCoverOf k r cover
    → data_writes k cover.first cover.count whole ++ flush_events flush ≡ range_writes k r whole ++ flush_events flush
events_of_range k r flush cover whole is = λ i. data_writes k (is.first i) (is.count i) whole ++ flush_events flush

pub wrote : (k : Keying) (r : ByteRange) (flush : Bool) (cover : Cover) (bytes whole : List ℕ) (old middle third new : DiskState) → IsCoverOf k r cover → length bytes ≡ cover.whole → AreBytes whole
    → SplicesInto k r cover.skip bytes whole true old middle → Logs (data_writes k cover.first cover.count whole) middle third → Logs (flush_events flush) third new
    → IsWrittenWhole k r flush (take r.count (drop cover.skip bytes)) old new
wrote k r flush cover bytes whole old middle third new is size are splices writes flushes = record {
  whole = whole;
  are = are;
  size = whole_of k r cover (length whole) is (splices.1 ∙ size);
  splices = splices.2;
  logs = subst (λ (e : List Event). Logs e old new) (events_of_range k r flush cover whole is)
      (Logs-then [] (data_writes k cover.first cover.count whole ++ flush_events flush) splices.0 (Logs-then (data_writes k cover.first cover.count whole) (flush_events flush) writes flushes));
}

part : (k : Keying) (r : ByteRange) (flush : Bool) (cover : Cover) (bytes whole : List ℕ) (old middle new : DiskState) → IsCoverOf k r cover → length bytes ≡ cover.whole → AreBytes whole
    → SplicesInto k r cover.skip bytes whole true old middle → FailsIn (data_writes k cover.first cover.count whole ++ flush_events flush) middle new
    → IsWrittenInPart k r flush (take r.count (drop cover.skip bytes)) old new
part k r flush cover bytes whole old middle new is size are splices fails = record {
  whole = whole;
  are = are;
  size = whole_of k r cover (length whole) is (splices.1 ∙ size);
  splices = splices.2;
  fails = subst (λ (e : List Event). FailsIn e old new) (events_of_range k r flush cover whole is)
      (FailsIn-then [] (data_writes k cover.first cover.count whole ++ flush_events flush) splices.0 fails);
}

pub part_written : (k : Keying) (r : ByteRange) (flush : Bool) (cover : Cover) (bytes whole : List ℕ) (old middle new : DiskState) → IsCoverOf k r cover → length bytes ≡ cover.whole → AreBytes whole
    → SplicesInto k r cover.skip bytes whole true old middle → FailsIn (data_writes k cover.first cover.count whole) middle new
    → IsWrittenInPart k r flush (take r.count (drop cover.skip bytes)) old new
part_written k r flush cover bytes whole old middle new is size are splices fails =
    part k r flush cover bytes whole old middle new is size are splices (FailsIn-more (data_writes k cover.first cover.count whole) (flush_events flush) fails)

pub part_flushed : (k : Keying) (r : ByteRange) (flush : Bool) (cover : Cover) (bytes whole : List ℕ) (old middle third new : DiskState) → IsCoverOf k r cover → length bytes ≡ cover.whole → AreBytes whole
    → SplicesInto k r cover.skip bytes whole true old middle → Logs (data_writes k cover.first cover.count whole) middle third → FailsIn (flush_events flush) third new
    → IsWrittenInPart k r flush (take r.count (drop cover.skip bytes)) old new
part_flushed k r flush cover bytes whole old middle third new is size are splices writes fails =
    part k r flush cover bytes whole old middle new is size are splices (FailsIn-then (data_writes k cover.first cover.count whole) (flush_events flush) writes fails)

-- `part_flushed`, if the writes are said of the keying that the provider still has
pub part_flushed_by : (k other : Keying) (r : ByteRange) (flush : Bool) (cover : Cover) (bytes whole : List ℕ) (old middle third new : DiskState) → other ≡ k → IsCoverOf k r cover → length bytes ≡ cover.whole → AreBytes whole
    → SplicesInto k r cover.skip bytes whole true old middle → Logs (data_writes other cover.first cover.count whole) middle third → FailsIn (flush_events flush) third new
    → IsWrittenInPart k r flush (take r.count (drop cover.skip bytes)) old new
part_flushed_by k other r flush cover bytes whole old middle third new same is size are splices writes fails =
    part_flushed k r flush cover bytes whole old middle third new is size are splices (subst (λ (key : Keying). Logs (data_writes key cover.first cover.count whole) middle third) same writes) fails

-- what flushing says of a write whose sectors were written
pub writes_by : (answer : Written) (k other : Keying) (r : ByteRange) (flush : Bool) (cover : Cover) (bytes whole : List ℕ) (old middle third new : DiskState) → other ≡ k → IsCoverOf k r cover → length bytes ≡ cover.whole
    → AreBytes whole → SplicesInto k r cover.skip bytes whole true old middle → Logs (data_writes other cover.first cover.count whole) middle third → FlushesWhere flush answer third new
    → WritesRange k r flush (take r.count (drop cover.skip bytes)) answer old new
writes_by Whole k other r flush cover bytes whole old middle third new same is size are splices writes flushes =
    wrote k r flush cover bytes whole old middle third new is size are splices (subst (λ (key : Keying). Logs (data_writes key cover.first cover.count whole) middle third) same writes) flushes
writes_by FlushFailed k other r flush cover bytes whole old middle third new same is size are splices writes fails =
    (fails.0, part_flushed_by k other r flush cover bytes whole old middle third new same is size are splices writes fails.1)
writes_by EdgeUnread k other r flush cover bytes whole old middle third new same is size are splices writes fails = absurd fails
writes_by WriteFailed k other r flush cover bytes whole old middle third new same is size are splices writes fails = absurd fails
