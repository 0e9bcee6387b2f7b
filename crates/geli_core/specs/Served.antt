-- A script while it is served: what the loops over its bytes keep. What a run comes to stands in `Script`.
use Rattle.std.specs.Prelude.{◌≡◌, ℕ, ◌+◌, ◌<◌, ◌≤◌, List, [], ◌++◌, length, Bool, true, false, ◌||◌, Result, Ok, Err}
use Rattle.std.specs.List.{AllByRecursion}
use Rattle.command_rows.specs.Rows.{World}
use Rattle.command_rows.specs.Vocabulary.{Rose, SinkState, SourceState, TookAll, TookPart}
use Rattle.command_words.specs.declared.spans.Sep.TheVariants.{Blanks}
use Rattle.geli_core.specs.Vocabulary.{ClosesWorld, WriteEnd, line_limit}
use Rattle.run_status.specs.declared.status.Status.{Status}
use Rattle.run_status.specs.declared.status.Status.TheVariants.{Done, SomeRefused, WriteFault, NoMemory}
use Rattle.std.specs.Io.KnownBytes.{IsAtEnd, prepend_known}
use Rattle.geli_core.specs.Lines.{CutsInto, last_line}
use Rattle.geli_core.specs.Script.{MetEnd, MetNothing, MetRefusal, Whole, most_taken, script_limit}
use Rattle.geli_core.specs.declared.feeding.Ending.{Ending}
use Rattle.geli_core.specs.declared.feeding.Ending.TheVariants.{AtEnd, SourceFailed, Full, Stopped}
use Rattle.geli_core.specs.Run.{FailsInLast, answers_text, any_refused, closing_answers}
use Rattle.geli_core.specs.Trace.{IsTrace, Run, ServedLine, Trace, answers_of, lines_of}
use Rattle.geli_core.specs.declared.feeding.Stop.{Stop}
use Rattle.geli_core.specs.declared.feeding.Stop.TheVariants.{TooLong, Unprinted}

-- what a script works on
pub record SiteState : Type 0 where
  pub world : World
  pub sink : SinkState

abbrev pub site_of : World → SinkState → SiteState
site_of world sink = record { world = world; sink = sink }

-- the whole lines of these bytes were served, and nothing else
pub record ServesLines (bytes : List ℕ) (old : SiteState) (rest : List ℕ) (new : SiteState) : Type 0 where
  pub served : List ServedLine
  pub cut : CutsInto bytes (lines_of served) rest
  pub short : AllByRecursion (λ line. length line ≤ line_limit) (lines_of served)
  pub run : Run Blanks old.world served new.world

-- the lines were printed, and something was refused among them or not
pub record IsServed (bytes : List ℕ) (old : SiteState) (rest : List ℕ) (refused : Bool) (new : SiteState) : Type 0 where
  pub serves : ServesLines bytes old rest new
  pub printed : TookAll (answers_text (answers_of serves.served)) old.sink new.sink
  pub any : any_refused (answers_of serves.served) ≡ refused

-- the lines were served, and the sink failed while they were printed
pub record IsUnprinted (bytes : List ℕ) (old : SiteState) (new : SiteState) : Type 0 where
  pub serves : ServesLines bytes old [] new
  pub printed : FailsInLast (answers_of serves.served) old.sink new.sink

-- the last of these bytes makes a line too long
pub record IsTooLong (bytes : List ℕ) (old : SiteState) (new : SiteState) : Type 0 where
  pub rest : List ℕ
  pub refused : Bool
  pub served : IsServed bytes old rest refused new
  pub long : length rest ≡ line_limit + 1

-- why no more bytes are looked at
abbrev pub StopsBy : List ℕ → SiteState → Stop → SiteState → Type 0
StopsBy bytes old TooLong new = IsTooLong bytes old new
StopsBy bytes old Unprinted new = IsUnprinted bytes old new

-- one more byte was looked at
abbrev pub FeedsByte : List ℕ → SiteState → Result (Unit {0}) Stop → List ℕ → Bool → SiteState → Type 0
FeedsByte bytes old (Ok done) rest refused new = IsServed bytes old rest refused new
FeedsByte bytes old (Err stop) rest refused new = StopsBy bytes old stop new

-- some of the bytes were looked at, and then it stopped
pub record StopsWithin (bytes : List ℕ) (old : SiteState) (stop : Stop) (new : SiteState) : Type 0 where
  pub read : List ℕ
  pub unread : List ℕ
  pub whole : bytes ≡ read ++ unread
  pub few : length unread < most_taken
  pub stops : StopsBy read old stop new

-- a piece was looked at
abbrev pub FeedsPiece : List ℕ → SiteState → Result (Unit {0}) Stop → List ℕ → Bool → SiteState → Type 0
FeedsPiece bytes old (Ok done) rest refused new = IsServed bytes old rest refused new
FeedsPiece bytes old (Err stop) rest refused new = StopsWithin bytes old stop new

-- ---- the whole input

-- these bytes of the source were looked at
pub record IsTaken (bytes : List ℕ) (old : SiteState) (source : SourceState) (rest : List ℕ) (refused : Bool) (new : SiteState) (after : SourceState) : Type 0 where
  pub served : IsServed bytes old rest refused new
  pub gave : source.left ≡ prepend_known bytes after.left
  pub faults : source.faults ≤ after.faults
  pub short : length rest ≤ line_limit

-- the input was looked at up to its end, up to a failure, or up to the limit; or it stopped before
abbrev pub FeedsUpTo : List ℕ → SiteState → SourceState → Ending → List ℕ → Bool → SiteState → SourceState → Type 0
FeedsUpTo bytes old source AtEnd rest refused new after = IsTaken bytes old source rest refused new after × (length bytes < script_limit) × IsAtEnd after.left × MetEnd source after
FeedsUpTo bytes old source SourceFailed rest refused new after = IsTaken bytes old source rest refused new after × (length bytes < script_limit) × Rose source.faults after.faults × MetRefusal source after
FeedsUpTo bytes old source Full rest refused new after = IsTaken bytes old source rest refused new after × (length bytes ≡ script_limit) × MetNothing source after
FeedsUpTo bytes old source (Stopped stop) rest refused new after = StopsWithin bytes old stop new × (length bytes ≤ script_limit) × (source.left ≡ prepend_known bytes after.left) × MetNothing source after

pub record FeedsSource (old : SiteState) (source : SourceState) (ending : Ending) (rest : List ℕ) (refused : Bool) (new : SiteState) (after : SourceState) : Type 0 where
  pub bytes : List ℕ
  pub up_to : FeedsUpTo bytes old source ending rest refused new after

-- ---- the end

-- all lines of these bytes were served, also a last one without a newline
pub record ServesAll (bytes : List ℕ) (old new : SiteState) : Type 0 where
  pub lines : List (List ℕ)
  pub rest : List ℕ
  pub cut : CutsInto bytes lines rest
  pub served : List ServedLine
  pub all : lines_of served ≡ lines ++ last_line rest
  pub short : AllByRecursion (λ line. length line ≤ line_limit) (lines_of served)
  pub run : Run Blanks old.world served new.world

pub record IsAllServed (bytes : List ℕ) (old : SiteState) (refused : Bool) (new : SiteState) : Type 0 where
  pub serves : ServesAll bytes old new
  pub printed : TookAll (answers_text (answers_of serves.served)) old.sink new.sink
  pub any : any_refused (answers_of serves.served) ≡ refused

pub record IsAllUnprinted (bytes : List ℕ) (old new : SiteState) : Type 0 where
  pub serves : ServesAll bytes old new
  pub printed : FailsInLast (answers_of serves.served) old.sink new.sink

-- a last line without a newline was served, if there is one
abbrev pub EndsLines : List ℕ → SiteState → Result Bool WriteEnd → SiteState → Type 0
EndsLines bytes old (Ok refused) new = IsAllServed bytes old refused new
EndsLines bytes old (Err failed) new = IsAllUnprinted bytes old new

-- the status if all was printed
abbrev pub status_by : Bool → Status
status_by false = Done
status_by true = SomeRefused

-- the refusals of the closing were printed, and this is the status, something having been refused before or not
abbrev pub PrintsClosing : Bool → ℕ → SinkState → Status → SinkState → Type 0
PrintsClosing refused failed old WriteFault new = (1 ≤ failed) × TookPart (answers_text (closing_answers failed)) old new
PrintsClosing refused failed old status new = (status ≡ status_by (refused || any_refused (closing_answers failed))) × TookAll (answers_text (closing_answers failed)) old new

pub record ClosesAndPrints (refused : Bool) (old : SiteState) (status : Status) (new : SiteState) : Type 0 where
  pub failed : ℕ
  pub closes : ClosesWorld old.world failed new.world
  pub prints : PrintsClosing refused failed old.sink status new.sink

abbrev pub whole_of : SiteState → SourceState → Whole
whole_of site source = record { world = site.world; source = source; sink = site.sink }

-- there is a trace of the run, by which the run is as described
pub record Traced (R : Whole → Trace → Status → Whole → Type 0) (old : Whole) (status : Status) (new : Whole) : Type 0 where
  pub trace : Trace
  pub is_trace : IsTrace old.world trace new.world
  pub runs : R old trace status new

-- by this trace the run is as described
abbrev pub ByTrace : (Whole → Trace → Status → Whole → Type 0) → Trace → Whole → Status → Whole → Type 0
ByTrace R trace old status new = R old trace status new

-- without memory nothing was done
abbrev pub RunsUnless : (Whole → Status → Whole → Type 0) → Whole → Status → Whole → Type 0
RunsUnless R old NoMemory new = new ≡ old
RunsUnless R old status new = R old status new
