-- Where bytes are written in a file, and why they aren't.
use Rattle.std.specs.Prelude.{◌≡◌, ◌≤◌, ◌+◌, ℕ, List, [], ◌∷◌, length, Bool, true, false, Option, None, Some, Result, Ok, Err, MatchBool}
use Rattle.std.specs.IoError.{error_kind}
use Rattle.std.specs.declared.io.Error.{Error}
use Rattle.std.specs.declared.io.ErrorKind.{ErrorKind}
use Rattle.std.specs.declared.io.ErrorKind.TheVariants.{QuotaExceeded, StorageFull}
use Rattle.file_edge.specs.Asked.{more}
use Rattle.file_edge.specs.ImageFile.{WriteAt}
use Rattle.file_edge.specs.declared.image_file.ImageFile as image_file
use Rattle.file_edge.specs.declared.writing.Unwritten.{Unwritten}
use Rattle.file_edge.specs.declared.writing.Unwritten.TheVariants.{Failed, NoRoom}

-- why a write of the system failed: the device is full (ENOSPC), or what its user may take is (EDQUOT); or another
-- reason
abbrev pub why_of : ErrorKind → Unwritten
why_of StorageFull = NoRoom
why_of QuotaExceeded = NoRoom
why_of kind = Failed

-- what a write of a file came to
abbrev pub write_answer : Result (Unit {0}) Error → Result (Unit {0}) Unwritten
write_answer (Ok done) = Ok done
write_answer (Err error) = Err (why_of (error_kind error))

-- why a write failed of which it is known whether room was wanting
abbrev pub why_if : Bool → Unwritten
why_if true = NoRoom
why_if false = Failed

-- what a write of a disk came to that says whether room was wanting
abbrev pub written_as : {E : Type 0} → Result (Unit {0}) E → Bool → Result (Unit {0}) Unwritten
written_as (Ok done) no_room = Ok done
written_as (Err fault) no_room = Err (why_if no_room)

-- so many bytes at a byte offset stand before the end that was found
abbrev pub StandsBeforeEnd : Option ℕ → ℕ → ℕ → Type 0
StandsBeforeEnd None at count = ⊥
StandsBeforeEnd (Some end) at count = at + count ≤ end

module _ {F : Type 0} (f : image_file.Ghosts F) (at : ℕ) (bytes : List ℕ) (answer : Result (Unit {0}) Unwritten) where
  -- the bytes were to be written there by one call, and nothing else was
  pub record PutsBytesThere (old new : F) : Type 0 where
    pub result : Result (Unit {0}) Error
    pub answered : f.writes old at bytes result
    pub why : answer ≡ write_answer result
    pub log : f.calls new ≡ more (WriteAt at bytes ∷ []) (f.calls old)

  -- nothing was to be written
  pub record PutsNone (old new : F) : Type 0 where
    pub failed : answer ≡ Err Failed
    pub log : f.calls new ≡ f.calls old

  -- the bytes were to be written if the file still reaches so far, once its end was found
  pub record WritesWithin (old new : F) : Type 0 where
    pub end : Option ℕ
    pub measured : F
    pub found : f.ends old end measured
    pub unasked : f.calls measured ≡ f.calls old
    pub within : StandsBeforeEnd end at (length bytes) → PutsBytesThere measured new
    pub behind : (StandsBeforeEnd end at (length bytes) → ⊥) → PutsNone measured new

  -- only a file that is held is written
  abbrev pub WritesHeld : F → F → Type 0
  WritesHeld old new = MatchBool (f.held old) (WritesWithin old new) (PutsNone old new)

  -- if a file is open, the bytes were written to it as far as it still reaches, and it stays open; else the write
  -- failed
  abbrev pub WritesFile : Option F → Option F → Type 0
  WritesFile None None = answer ≡ Err Failed
  WritesFile (Some old) (Some new) = WritesHeld old new
  WritesFile old new = ⊥
