-- What is taken of a client and given to it.
use Rattle.std.specs.Prelude.{◌≡◌, ℕ, ◌≤◌, ◌<◌, ◌-◌, ◌^◌, List, [], ◌∷◌, ◌++◌, length, take, Result, Ok, Err}
use Rattle.std.specs.List.{concat}
use Rattle.std.specs.Io.KnownBytes.{IsAtEnd, prepend_known}
use Rattle.block_traits.specs.Causes.{Rose}
use Rattle.block_traits.specs.Streams.{SinkState, SourceState, TookAll, TookPart}
use Rattle.nbd_negotiation.specs.declared.streams.End.{End}
use Rattle.nbd_negotiation.specs.declared.streams.End.TheVariants.{Closed, ReadFault, WriteFault, Malformed}

-- how many options, and how many requests, a session takes at most
abbrev pub limit : ℕ
limit = 2 ^ 64 - 1

-- the source gave these bytes
pub record SourceGave (bytes : List ℕ) (old new : SourceState) : Type 0 where
  pub left : old.left ≡ prepend_known bytes new.left
  pub later : old.faults ≤ new.faults

-- the source gave the first of these bytes, and not all
pub record GavePart (bytes : List ℕ) (old new : SourceState) : Type 0 where
  pub count : ℕ
  pub within : count < length bytes
  pub gave : SourceGave (take count bytes) old new

-- all bytes were filled; or the source ended or failed before
abbrev pub Fills : List ℕ → SourceState → Result (Unit {0}) End → SourceState → Type 0
Fills bytes old (Ok done) new = SourceGave bytes old new
Fills bytes old (Err Closed) new = GavePart bytes old new × IsAtEnd new.left
Fills bytes old (Err ReadFault) new = GavePart bytes old new × Rose old.faults new.faults
Fills bytes old (Err WriteFault) new = ⊥
Fills bytes old (Err Malformed) new = ⊥

-- all bytes were given, or the sink failed
abbrev pub GivesBytes : List ℕ → SinkState → Result (Unit {0}) End → SinkState → Type 0
GivesBytes bytes old (Ok done) new = TookAll bytes old new
GivesBytes bytes old (Err WriteFault) new = TookPart bytes old new
GivesBytes bytes old (Err Closed) new = ⊥
GivesBytes bytes old (Err ReadFault) new = ⊥
GivesBytes bytes old (Err Malformed) new = ⊥

-- all of these texts but the last were given whole; there the sink failed, and took only the first bytes of the last
pub record GaveButLast (texts : List (List ℕ)) (old new : SinkState) : Type 0 where
  pub before : List (List ℕ)
  pub last : List ℕ
  pub are : texts ≡ before ++ last ∷ []
  pub middle : SinkState
  pub gave : TookAll (concat before) old middle
  pub part : TookPart last middle new

-- these texts were given, one after another; or the sink failed in the last
abbrev pub GivesTexts : End → List (List ℕ) → SinkState → SinkState → Type 0
GivesTexts WriteFault texts old new = GaveButLast texts old new
GivesTexts Closed texts old new = TookAll (concat texts) old new
GivesTexts ReadFault texts old new = TookAll (concat texts) old new
GivesTexts Malformed texts old new = TookAll (concat texts) old new

-- these texts were given, and the session goes on, or it ended as said
abbrev pub GivesOn : Result (Unit {0}) End → List (List ℕ) → SinkState → SinkState → Type 0
GivesOn (Ok done) texts old new = TookAll (concat texts) old new
GivesOn (Err end) texts old new = GivesTexts end texts old new
