-- Which runs go to their end: if nothing failed and the input is within its limits, all is served and printed.
use Rattle.std.specs.Prelude.{◌≡◌, ℕ, ◌<◌, ◌≤◌, List, [], ◌∷◌, ◌++◌, length, Option, Some, None}
use Rattle.std.specs.Io.KnownBytes.{IsAtEnd, prepend_known}
use Rattle.command_rows.specs.Vocabulary.{Command, Rose, SourceState, TookAll}
use Rattle.command_words.specs.declared.spans.Sep.TheVariants.{Blanks, Zeros}
use Rattle.geli_core.specs.Lines.{CutsInto, IsOneLine, last_line}
use Rattle.geli_core.specs.Run.{answers_text, any_refused, closing_answers}
use Rattle.geli_core.specs.Script.{Whole, script_limit}
use Rattle.geli_core.specs.Served.{ByTrace, RunsUnless, status_by}
use Rattle.geli_core.specs.Trace.{Trace, answers_of, lines_of}
use Rattle.geli_core.specs.Vocabulary.{Sep, command_in, line_limit, line_of, script_images}
use Rattle.run_status.specs.declared.status.Status.{Status}

-- the bytes are fewer than are too many for a script, and at any place those without a newline among them are at most
-- those of a line
pub record IsWithinLimits (bytes : List ℕ) : Type 0 where
  pub small : length bytes < script_limit
  pub short : (before line after : List ℕ) → bytes ≡ before ++ line ++ after → IsOneLine line → length line ≤ line_limit

-- a source didn't fail, and the bytes that it reported and gave are within the limits
pub record GaveWithinLimits (old new : SourceState) : Type 0 where
  pub quiet : Rose old.faults new.faults → ⊥
  pub within : (bytes : List ℕ) → old.left ≡ prepend_known bytes new.left → IsWithinLimits bytes

-- the lines of the trace are all of these, the drawers were closed, and all replies and the refusals of the closing
-- were printed: the status is Done if no refusal is among them, and else SomeRefused
pub record RunsToEnd (sep : Sep) (lines : List (List ℕ)) (old : Whole) (trace : Trace) (status : Status) (new : Whole) : Type 0 where
  pub cut_by : trace.sep ≡ sep
  pub all : lines_of trace.lines ≡ lines
  pub failed : ℕ
  pub closed : trace.closing ≡ Some failed
  pub printed : TookAll (answers_text (answers_of trace.lines ++ closing_answers failed)) old.sink new.sink
  pub by_answers : status ≡ status_by (any_refused (answers_of trace.lines ++ closing_answers failed))

-- a script was run to its end: the trace has all lines that the source gave, which is at its end
pub record ScriptToEnd (old : Whole) (trace : Trace) (status : Status) (new : Whole) : Type 0 where
  pub read : List ℕ
  pub gave : old.source.left ≡ prepend_known read new.source.left
  pub at_end : IsAtEnd new.source.left
  pub lines : List (List ℕ)
  pub rest : List ℕ
  pub cut : CutsInto read lines rest
  pub to_end : RunsToEnd Blanks (lines ++ last_line rest) old trace status new

-- one command was run to its end: the trace has its line alone, and the source was not read
pub record CommandToEnd (line : List ℕ) (old : Whole) (trace : Trace) (status : Status) (new : Whole) : Type 0 where
  pub source : new.source ≡ old.source
  pub to_end : RunsToEnd Zeros (line ∷ []) old trace status new

-- A script, and one command that is served, go to their end; or there was no memory, and nothing was done. A script
-- needs a source that doesn't fail and gives no more than is allowed.
abbrev pub CompletesBy : Option (List (List ℕ)) → Option Command → List ℕ → Whole → Trace → Status → Whole → Type 0
CompletesBy (Some names) command line old trace status new = GaveWithinLimits old.source new.source → RunsUnless (ByTrace ScriptToEnd trace) old status new
CompletesBy None (Some command) line old trace status new = RunsUnless (ByTrace (CommandToEnd line) trace) old status new
CompletesBy None None line old trace status new = Unit {0}

-- the words are run to their end as `CompletesBy` says, unless the sink failed
abbrev pub Completes : List (List ℕ) → Whole → Trace → Status → Whole → Type 0
Completes words old trace status new = (Rose old.sink.faults new.sink.faults → ⊥) → CompletesBy (script_images words) (command_in (line_of words)) (line_of words) old trace status new
