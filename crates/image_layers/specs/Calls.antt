-- What each call of the disk of an image does, by the disk that it is.
use Rattle.std.specs.Prelude.{◌≡◌, ◌*◌, ◌/◌, ℕ, List, [], length, Bool, true, false, Result, IsErr, MatchOption, OnOk, is_err, is_ok}
use Rattle.block_traits.specs.Causes.{Counted}
use Rattle.block_traits.specs.Disk.{Logs, write_events}
use Rattle.block_traits.specs.EachWritten.{EachWritten}
use Rattle.block_traits.specs.Parts.{parts}
use Rattle.block_traits.specs.declared.disk.Disk.{Ghosts}
use Rattle.block_traits.specs.declared.disk.DiskFailed.{DiskFailed}
use Rattle.disk_layers.specs.Concat.{AsksOne, BothDo, FlushesBoth, WritesOne}
use Rattle.disk_layers.specs.Waiting.{last_waiting}
use Rattle.disk_layers.specs.WriteBehind.{BehindReadAnswers, BehindWritesSector, FlushAnswers, behind_of}
use Rattle.file_edge.specs.ImageFile.{AsksFile, CountsFault, LeavesFile, ReadAt, SyncData, looked, read_bytes}
use Rattle.file_edge.specs.Writing.{WritesFile, written_as}
use Rattle.file_edge.specs.declared.file_disk.FileDisk.{FileDisk}
use Rattle.file_edge.specs.declared.image_file.ImageFile as file
use Rattle.image_layers.specs.declared.image_disks.ImageDisk.{ImageDisk}
use Rattle.image_layers.specs.declared.image_disks.ImageDisk.TheVariants.{Plain, Behind, Join}

-- ---- the disk of a file alone

module _ {F : Type 0} (f : file.Ghosts F) where
  -- sector n is read where it stands in the file, by one call of it
  pub record ReadsInFile (n : ℕ) (bytes : List ℕ) (old new : FileDisk F) (result : Result (Unit {0}) DiskFailed) : Type 0 where
    pub placed : MatchOption old.file (IsErr result) (λ file. f.reads file (512 * n) (read_bytes result bytes))
    pub asks : AsksFile f.calls (ReadAt (512 * n) 512) old.file new.file
    pub faults : CountsFault result old.faults new.faults
    pub unsynced : new.unsynced ≡ old.unsynced

  -- so many bytes from sector n on are looked at by one read of the file
  pub record LooksInFile (n count : ℕ) (bytes : List ℕ) (old new : FileDisk F) (looks : Bool) : Type 0 where
    pub placed : MatchOption old.file (looks ≡ false) (λ file. f.reads file (512 * n) (looked looks bytes))
    pub asks : AsksFile f.calls (ReadAt (512 * n) count) old.file new.file
    pub unsynced : new.unsynced ≡ old.unsynced

  -- bytes are written from sector n on by one write of the file, if it is held and reaches so far; whether room was
  -- wanting is known of the last write that failed
  pub record WritesInFile (n : ℕ) (bytes : List ℕ) (old new : FileDisk F) (result : Result (Unit {0}) DiskFailed) : Type 0 where
    pub placed : WritesFile f (512 * n) bytes (written_as result new.no_room) old.file new.file
    pub room : OnOk result (new.no_room ≡ old.no_room)
    pub faults : CountsFault result old.faults new.faults
    pub unsynced : new.unsynced ≡ old.unsynced

  -- the file is synced once; after a failed sync each one fails and isn't made
  pub record SyncsFile (old new : FileDisk F) (result : Result (Unit {0}) DiskFailed) : Type 0 where
    pub synced : old.unsynced ≡ false → MatchOption old.file (IsErr result) (λ file. f.syncs file (is_ok result))
    pub stays : old.unsynced ≡ true → IsErr result
    pub unsynced : new.unsynced ≡ is_err result
    pub faults : CountsFault result old.faults new.faults
    pub asks : old.unsynced ≡ false → AsksFile f.calls SyncData old.file new.file
    pub kept : old.unsynced ≡ true → LeavesFile f.calls old.file new.file

  -- ---- each kind

  module _ {g : Ghosts (FileDisk F)} where
    -- sector n is read: in the file; or it waits, or is read below; or in the first or the second
    abbrev pub ImageReads : ℕ → List ℕ → ImageDisk F g → ImageDisk F g → Result (Unit {0}) DiskFailed → Type 0
    ImageReads n bytes (Plain old) (Plain new) result = ReadsInFile n bytes old new result
    ImageReads n bytes (Behind old) (Behind new) result =
        BehindReadAnswers (last_waiting n old.waiting.items) n bytes (behind_of g.state old) (behind_of g.state new) result
    ImageReads n bytes (Join old) (Join new) result = AsksOne g.state g.state n bytes old.first new.first old.second new.second result
    ImageReads n bytes old new result = ⊥

    -- so many bytes from sector n on are looked at: in the file; a layer lets nothing be looked at, and is as it was
    abbrev pub ImageLooks : ℕ → ℕ → List ℕ → ImageDisk F g → ImageDisk F g → Bool → Type 0
    ImageLooks n count bytes (Plain old) (Plain new) looks = LooksInFile n count bytes old new looks
    ImageLooks n count bytes (Behind old) (Behind new) looks = (looks ≡ false) × (new ≡ old)
    ImageLooks n count bytes (Join old) (Join new) looks = (looks ≡ false) × (new ≡ old)
    ImageLooks n count bytes old new looks = ⊥

    -- reads that a look has served are counted: in the disk of a file, or above the one below, or in the first; and
    -- nothing is done
    abbrev pub ImageCounts : ℕ → ImageDisk F g → ImageDisk F g → Type 0
    ImageCounts many (Plain old) (Plain new) = (new.file ≡ old.file) × (new.faults ≡ old.faults) × (new.unsynced ≡ old.unsynced)
    ImageCounts many (Behind old) (Behind new) = behind_of g.state new ≡ behind_of g.state old
    ImageCounts many (Join old) (Join new) =
        Logs [] (g.state old.first) (g.state new.first) × Counted many (g.state old.first).reads (g.state new.first).reads × (new.second ≡ old.second)
    ImageCounts many old new = ⊥

    -- sector n is written: in the file, or the write waits, or in the first or the second
    abbrev pub ImageWrites : ℕ → List ℕ → ImageDisk F g → ImageDisk F g → Result (Unit {0}) DiskFailed → Type 0
    ImageWrites n bytes (Plain old) (Plain new) result = WritesInFile n bytes old new result
    ImageWrites n bytes (Behind old) (Behind new) result = BehindWritesSector n bytes (behind_of g.state old) (behind_of g.state new) result
    ImageWrites n bytes (Join old) (Join new) result = WritesOne g.state g.state n bytes old.first new.first old.second new.second result
    ImageWrites n bytes old new result = ⊥

    -- whole sectors are written, the first of number n: by one write of the file; or each waits in its turn; or by one
    -- call of the first for those that are its own, and then by one of the second
    abbrev pub ImageWritesAll : ℕ → List ℕ → ImageDisk F g → ImageDisk F g → Result (Unit {0}) DiskFailed → Type 0
    ImageWritesAll n bytes (Plain old) (Plain new) result = WritesInFile n bytes old new result
    ImageWritesAll n bytes (Behind old) (Behind new) result =
        EachWritten BehindWritesSector n (parts 512 (length bytes / 512) bytes) (behind_of g.state old) (behind_of g.state new) result
    ImageWritesAll n bytes (Join old) (Join new) result =
        BothDo g.state g.state (write_events n bytes) old.first new.first old.second new.second result
    ImageWritesAll n bytes old new result = ⊥

    -- what was written is kept: the file is synced; or what waits is written, and then the file is synced; or both
    -- files are
    abbrev pub ImageFlushes : ImageDisk F g → ImageDisk F g → Result (Unit {0}) DiskFailed → Type 0
    ImageFlushes (Plain old) (Plain new) result = SyncsFile old new result
    ImageFlushes (Behind old) (Behind new) result = FlushAnswers (behind_of g.state old) (behind_of g.state new) result
    ImageFlushes (Join old) (Join new) result = FlushesBoth g.state g.state old.first new.first old.second new.second result
    ImageFlushes old new result = ⊥
