-- What a source, a sink and entropy report of themselves, and what calls of them do.
use Rattle.std.specs.Prelude.{◌≡◌, ℕ, ◌≤◌, List, length, take, Option}
use Rattle.std.specs.Io.KnownBytes.{append_known, prepend_known}
use Rattle.block_traits.specs.Causes.{Counted, Rose}

-- a source by the bytes that it has left, if it reports them, how often it failed, how often a call was refused, and
-- how often a call met its end
pub record SourceState : Type 0 where
  pub left : Option (List ℕ)
  pub faults : ℕ
  pub refused : ℕ
  pub ends : ℕ

-- a sink by the bytes that it took, if it reports them, how often it failed, how often a call was refused, and how
-- often it was given nothing
pub record SinkState : Type 0 where
  pub taken : Option (List ℕ)
  pub faults : ℕ
  pub refused : ℕ
  pub idle : ℕ

-- the sink took the whole text, refused no call, and was never given nothing
pub record TookAll (text : List ℕ) (old new : SinkState) : Type 0 where
  pub took : new.taken ≡ append_known old.taken text
  pub later : old.faults ≤ new.faults
  pub refused : new.refused ≡ old.refused
  pub idle : new.idle ≡ old.idle

-- the sink failed, took the first bytes of the text and no others, refused one call, and was never given nothing
pub record TookPart (text : List ℕ) (old new : SinkState) : Type 0 where
  pub count : ℕ
  pub within : count ≤ length text
  pub took : new.taken ≡ append_known old.taken (take count text)
  pub later : old.faults ≤ new.faults
  pub rose : Rose old.faults new.faults
  pub refused : Counted 1 old.refused new.refused
  pub idle : new.idle ≡ old.idle

-- entropy by the bytes that it has left, if it reports them, how often it failed, and how often it was asked
pub record EntropyState : Type 0 where
  pub left : Option (List ℕ)
  pub faults : ℕ
  pub calls : ℕ

-- these bytes were taken in one call, and no others
pub record Takes (bytes : List ℕ) (old new : EntropyState) : Type 0 where
  pub taken : old.left ≡ prepend_known bytes new.left
  pub later : old.faults ≤ new.faults
  pub asked : Counted 1 old.calls new.calls

-- nothing was taken, and the entropy failed in its one call
pub record TakesNone (old new : EntropyState) : Type 0 where
  pub left : new.left ≡ old.left
  pub later : old.faults ≤ new.faults
  pub rose : Rose old.faults new.faults
  pub asked : Counted 1 old.calls new.calls
