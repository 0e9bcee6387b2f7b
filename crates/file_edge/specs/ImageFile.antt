-- What a read of a file returns, which calls are made of it, and how failures are counted.
use Rattle.std.specs.Prelude.{◌≡◌, List, [], ◌∷◌, ℕ, Bool, true, false, Option, None, Some, Result, Ok, Err}
use Rattle.block_traits.specs.Causes.{Counted}
use Rattle.file_edge.specs.Asked.{more}

-- the bytes that were read, if they were
abbrev pub read_bytes : {X E : Type 0} → Result X E → List ℕ → Option (List ℕ)
read_bytes (Ok done) bytes = Some bytes
read_bytes (Err error) bytes = None

-- the bytes that a look gave, if it did
abbrev pub looked : Bool → List ℕ → Option (List ℕ)
looked true bytes = Some bytes
looked false bytes = None

-- a call that fails is one fault more, or as many as can be counted; any other is none
abbrev pub CountsFault : {T E : Type 0} → Result T E → ℕ → ℕ → Type 0
CountsFault (Ok done) before now = now ≡ before
CountsFault (Err error) before now = Counted 1 before now

-- one call of a file: it is locked (flock(2)), so many bytes are read at a byte offset (pread(2)), bytes are written at
-- one (pwrite(2)), what was written is brought to the disk (fdatasync(2))
pub data Call : Type 0 where
  Lock : Call
  ReadAt : (at count : ℕ) → Call
  WriteAt : (at : ℕ) → (bytes : List ℕ) → Call
  SyncData : Call

-- nothing was asked of the file yet, if its calls are reported
abbrev pub IsUncalled : Option (List Call) → Type 0
IsUncalled None = Unit {0}
IsUncalled (Some calls) = calls ≡ []

module _ {F : Type 0} (calls : F → Option (List Call)) where
  -- a file that is open stays open, and nothing was asked of it
  abbrev pub LeavesFile : Option F → Option F → Type 0
  LeavesFile None None = Unit {0}
  LeavesFile (Some old) (Some new) = calls new ≡ calls old
  LeavesFile old new = ⊥

  -- a file that is open stays open, and this one call alone was asked of it
  abbrev pub AsksFile : Call → Option F → Option F → Type 0
  AsksFile call None None = Unit {0}
  AsksFile call (Some old) (Some new) = calls new ≡ more (call ∷ []) (calls old)
  AsksFile call old new = ⊥
