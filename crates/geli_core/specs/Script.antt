-- The run of the words of the command line, and the status with which it ends.
use Rattle.std.specs.Prelude.{◌≡◌, ◌≢◌, ◌⊎◌, ℕ, ◌+◌, ◌^◌, ◌<◌, ◌≤◌, List, [], ◌∷◌, ◌++◌, length, true, false, Option, Some, None, codes}
use Rattle.std.specs.List.{AllByRecursion}
use Rattle.std.specs.Io.KnownBytes.{IsAtEnd, prepend_known}
use Rattle.command_rows.specs.Rows.{Answer, World}
use Rattle.command_rows.specs.Vocabulary.{Command, Counted, Rose, SinkState, SourceState, TookAll, TookPart}
use Rattle.command_words.specs.declared.spans.Sep.TheVariants.{Blanks, Zeros}
use Rattle.geli_core.specs.Lines.{CutsInto, last_line}
use Rattle.geli_core.specs.Run.{FailsInClosing, FailsInLast, answers_text, any_refused, closing_answers}
use Rattle.geli_core.specs.Trace.{IsNothing, Trace, answers_of, lines_of}
use Rattle.geli_core.specs.Vocabulary.{command_in, line_limit, line_of, script_images}
use Rattle.run_status.specs.declared.status.Status.{Status}
use Rattle.run_status.specs.declared.status.Status.TheVariants.{Done, SomeRefused, BadWords, ReadFault, WriteFault, NoMemory, LineTooLong, ScriptTooLong}

-- all that a run may change
pub record Whole : Type 0 where
  pub world : World
  pub source : SourceState
  pub sink : SinkState

abbrev pub usage_text : List ℕ
usage_text = codes "usage: geli script IMAGE... or geli VERB ...\n"

-- the most bytes of a script, and one more
abbrev pub script_limit : ℕ
script_limit = 2 ^ 40

-- ---- what was printed

-- all replies, and after them those of the closing; or, if the run broke off, those to its lines; or, if the sink
-- failed, up to a part of the last reply, or of the closing
abbrev pub PrintsAnswers : List (Option Answer) → ℕ → SinkState → Status → SinkState → Type 0
PrintsAnswers answers failed old Done new = (any_refused (answers ++ closing_answers failed) ≡ false) × TookAll (answers_text (answers ++ closing_answers failed)) old new
PrintsAnswers answers failed old SomeRefused new = (any_refused (answers ++ closing_answers failed) ≡ true) × TookAll (answers_text (answers ++ closing_answers failed)) old new
PrintsAnswers answers failed old WriteFault new = FailsInLast answers old new ⊎ FailsInClosing answers failed old new
PrintsAnswers answers failed old ReadFault new = TookAll (answers_text answers) old new
PrintsAnswers answers failed old LineTooLong new = TookAll (answers_text answers) old new
PrintsAnswers answers failed old ScriptTooLong new = TookAll (answers_text answers) old new
PrintsAnswers answers failed old BadWords new = ⊥
PrintsAnswers answers failed old NoMemory new = ⊥

-- ---- a script

-- the bytes that a source gave: those that were read, which are whole lines and a rest, and those after them
pub record Taken : Type 0 where
  pub read : List ℕ
  pub lines : List (List ℕ)
  pub rest : List ℕ
  pub unread : List ℕ

-- the most bytes that are taken at a time
abbrev pub most_taken : ℕ
most_taken = 4096

-- no call of the source was refused, and none met its end
pub record MetNothing (old new : SourceState) : Type 0 where
  pub refused : new.refused ≡ old.refused
  pub ends : new.ends ≡ old.ends

-- one call met its end, and none was refused
pub record MetEnd (old new : SourceState) : Type 0 where
  pub refused : new.refused ≡ old.refused
  pub ends : Counted 1 old.ends new.ends

-- one call was refused, and none met its end
pub record MetRefusal (old new : SourceState) : Type 0 where
  pub refused : Counted 1 old.refused new.refused
  pub ends : new.ends ≡ old.ends

-- the input was read to its end, which was met once, and all its lines were served
pub record IsReadToEnd (taken : Taken) (served : List (List ℕ)) (before after : SourceState) : Type 0 where
  pub small : length taken.read < script_limit
  pub all : served ≡ taken.lines ++ last_line taken.rest
  pub unread : taken.unread ≡ []
  pub end : IsAtEnd after.left
  pub met : MetEnd before after

-- all bytes that the source gave were read, no line among them is too long, and the whole ones were served
pub record IsReadSoFar (taken : Taken) (served : List (List ℕ)) : Type 0 where
  pub whole : served ≡ taken.lines
  pub unread : taken.unread ≡ []
  pub short : length taken.rest ≤ line_limit

-- how far a script was served, by the status: what ends it is the first that is met of the end of the input, a failure
-- and a limit
abbrev pub ServesUpTo : Taken → List (List ℕ) → List (Option Answer) → Whole → Status → Whole → Type 0
ServesUpTo taken served answers old Done new = IsReadToEnd taken served old.source new.source
ServesUpTo taken served answers old SomeRefused new = IsReadToEnd taken served old.source new.source
ServesUpTo taken served answers old WriteFault new = ((served ≡ taken.lines) × (taken.rest ≡ []) × FailsInLast answers old.sink new.sink × MetNothing old.source new.source) ⊎ IsReadToEnd taken served old.source new.source
ServesUpTo taken served answers old ReadFault new = IsReadSoFar taken served × (length taken.read < script_limit) × Rose old.source.faults new.source.faults × MetRefusal old.source new.source
ServesUpTo taken served answers old LineTooLong new = (served ≡ taken.lines) × (length taken.rest ≡ line_limit + 1) × MetNothing old.source new.source
ServesUpTo taken served answers old ScriptTooLong new = IsReadSoFar taken served × (length taken.read ≡ script_limit) × MetNothing old.source new.source
ServesUpTo taken served answers old BadWords new = ⊥
ServesUpTo taken served answers old NoMemory new = ⊥

-- a script was run: the source gave bytes, the lines of the trace among them were served, the drawers were closed, and
-- the replies were printed; no more bytes are taken from the source than make a script too long, and no further piece
-- after the byte that ended it
pub record RunsScript (old : Whole) (trace : Trace) (status : Status) (new : Whole) : Type 0 where
  pub sep : trace.sep ≡ Blanks
  pub taken : Taken
  pub gave : old.source.left ≡ prepend_known (taken.read ++ taken.unread) new.source.left
  pub limit : length (taken.read ++ taken.unread) ≤ script_limit
  pub behind : length taken.unread < most_taken
  pub cut : CutsInto taken.read taken.lines taken.rest
  pub short : AllByRecursion (λ line. length line ≤ line_limit) (lines_of trace.lines)
  pub up_to : ServesUpTo taken (lines_of trace.lines) (answers_of trace.lines) old status new
  pub failed : ℕ
  pub closed : trace.closing ≡ Some failed
  pub prints : PrintsAnswers (answers_of trace.lines) failed old.sink status new.sink

-- ---- one command

-- how one command may end
abbrev pub EndsCommand : Status → Type 0
EndsCommand Done = Unit {0}
EndsCommand SomeRefused = Unit {0}
EndsCommand WriteFault = Unit {0}
EndsCommand status = ⊥

-- the one command was served as a script of one line, and the input was not read
pub record RunsCommand (line : List ℕ) (old : Whole) (trace : Trace) (status : Status) (new : Whole) : Type 0 where
  pub answer : Answer
  pub next : World
  pub failed : ℕ
  pub is : trace ≡ record { sep = Zeros; lines = record { line = line; answer = Some answer; next = next } ∷ []; closing = Some failed }
  pub prints : PrintsAnswers (Some answer ∷ []) failed old.sink status new.sink
  pub source : new.source ≡ old.source
  pub ended : EndsCommand status

-- the words asked for nothing: the usage line is printed
abbrev pub PrintsUsage : SinkState → Status → SinkState → Type 0
PrintsUsage old BadWords new = TookAll usage_text old new
PrintsUsage old WriteFault new = TookPart usage_text old new
PrintsUsage old status new = ⊥

-- the words asked for nothing: nothing was done but to print the usage line
pub record Declines (old : Whole) (trace : Trace) (status : Status) (new : Whole) : Type 0 where
  pub nothing : IsNothing trace
  pub source : new.source ≡ old.source
  pub prints : PrintsUsage old.sink status new.sink

-- ---- the words

abbrev pub RunsLine : List ℕ → Option Command → Whole → Trace → Status → Whole → Type 0
RunsLine line None old trace status new = Declines old trace status new
RunsLine line (Some command) old trace status new = RunsCommand line old trace status new

abbrev pub RunsAs : Option (List (List ℕ)) → List (List ℕ) → Whole → Trace → Status → Whole → Type 0
RunsAs (Some names) words old trace status new = RunsScript old trace status new
RunsAs None words old trace status new = RunsLine (line_of words) (command_in (line_of words)) old trace status new

-- the run of the words of the command line: a script if they are `script` and names, and else one command or nothing;
-- without memory for it nothing is read, printed or changed
abbrev pub Runs : List (List ℕ) → Whole → Trace → Status → Whole → Type 0
Runs words old trace NoMemory new = IsNothing trace × (new ≡ old)
Runs words old trace status new = RunsAs (script_images words) words old trace status new

-- how a run may end, by what the words ask for: a script by any status but BadWords, one command by those of its reply,
-- and other words by BadWords; or the sink failed, or there was no memory
abbrev pub EndsBy : Option (List (List ℕ)) → Option Command → Status → Type 0
EndsBy names command WriteFault = Unit {0}
EndsBy names command NoMemory = Unit {0}
EndsBy (Some names) command status = status ≢ BadWords
EndsBy None (Some command) status = (status ≡ Done) ⊎ (status ≡ SomeRefused)
EndsBy None None status = status ≡ BadWords

-- how a run of these words may end
abbrev pub Ends : List (List ℕ) → Status → Type 0
Ends words status = EndsBy (script_images words) (command_in (line_of words)) status

-- ---- why a run broke off

-- the source gave a line up to the byte that makes it too long
pub record GaveLongLine (old new : SourceState) : Type 0 where
  pub taken : Taken
  pub gave : old.left ≡ prepend_known (taken.read ++ taken.unread) new.left
  pub cut : CutsInto taken.read taken.lines taken.rest
  pub long : length taken.rest ≡ line_limit + 1

-- the source gave as many bytes as are too many for a script
pub record GaveTooMuch (old new : SourceState) : Type 0 where
  pub read : List ℕ
  pub gave : old.left ≡ prepend_known read new.left
  pub size : length read ≡ script_limit

-- the cause of a status that breaks a run off: a count that rose, or the bytes that the source gave
abbrev pub StatusHasCause : Status → Whole → Whole → Type 0
StatusHasCause ReadFault old new = Rose old.source.faults new.source.faults
StatusHasCause WriteFault old new = Rose old.sink.faults new.sink.faults
StatusHasCause LineTooLong old new = GaveLongLine old.source new.source
StatusHasCause ScriptTooLong old new = GaveTooMuch old.source new.source
StatusHasCause status old new = Unit {0}
