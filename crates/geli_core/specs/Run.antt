-- What lines do and return, one after another, and what is printed.
use Rattle.std.specs.Prelude.{◌++◌, ◌≡◌, ◌≤◌, ℕ, List, [], ◌∷◌, replicate, Option, Some, None, Bool, true, false, Result, Ok, Err}
use Rattle.std.specs.List.{flat_map, list_any}
use Rattle.command_rows.specs.Rows.{Answer, World, answer_text}
use Rattle.command_rows.specs.Vocabulary.{Command, SinkState, TookAll, TookPart}
use Rattle.eli_base.specs.declared.refusals.Refusal.TheVariants as refusals
use Rattle.reply_text.specs.Answer as answers
use Rattle.geli_core.specs.Vocabulary.{Sep, Turn, Usage, WriteEnd, line_reading}
use Rattle.reply_text.specs.LineEnds.{PrintsAnswer}
use Rattle.reply_text.specs.declared.line_ends.LineEnd.{LineEnd}

-- ---- one line

-- what a line says is done and answered: nothing if it says nothing, the refusal of its words, or the turn of its
-- command
abbrev pub ServesReading : Result (Option Command) Usage → List ℕ → World → Option Answer → World → Type 0
ServesReading (Ok None) line old answer new = (answer ≡ None) × (new ≡ old)
ServesReading (Err usage) line old answer new = (answer ≡ Some (answers.Refused (refusals.Usage usage.word usage.reason))) × (new ≡ old)
ServesReading (Ok (Some command)) line old None new = ⊥
ServesReading (Ok (Some command)) line old (Some answer) new = Turn line command old answer new

abbrev pub ServesLine : Sep → List ℕ → World → Option Answer → World → Type 0
ServesLine sep line old answer new = ServesReading (line_reading sep line) line old answer new

-- the text of what was answered to a line
abbrev pub text_of : Option Answer → List ℕ
text_of None = []
text_of (Some answer) = answer_text answer

-- a line was served, and then its reply was printed
pub record ServesAndPrints (sep : Sep) (line : List ℕ) (old : World) (sink : SinkState) (result : Result LineEnd WriteEnd) (new : World) (after : SinkState) : Type 0 where
  pub answer : Option Answer
  pub serves : ServesLine sep line old answer new
  pub prints : PrintsAnswer answer sink result after

-- ---- lines

-- the text of some replies
abbrev pub answers_text : List (Option Answer) → List ℕ
answers_text answers = flat_map text_of answers

-- all replies but the last were printed, and the sink failed in the last, which is that to a line that says something
pub record FailsInLast (answers : List (Option Answer)) (old new : SinkState) : Type 0 where
  pub printed : List (Option Answer)
  pub last : Answer
  pub are : answers ≡ printed ++ Some last ∷ []
  pub middle : SinkState
  pub before : TookAll (answers_text printed) old middle
  pub part : TookPart (answer_text last) middle new

-- whether something was refused
abbrev pub refuses : Option Answer → Bool
refuses None = false
refuses (Some (answers.Refused refusal)) = true
refuses (Some answer) = false

abbrev pub any_refused : List (Option Answer) → Bool
any_refused answers = list_any refuses answers

-- ---- the end of a run

-- a refusal for each flush that failed
abbrev pub closing_answers : ℕ → List (Option Answer)
closing_answers failed = replicate failed (Some (answers.Refused refusals.DeviceFault))

-- all replies were printed, some drawer failed to close, and the sink failed in the refusals of the closing
pub record FailsInClosing (answers : List (Option Answer)) (failed : ℕ) (old new : SinkState) : Type 0 where
  pub some : 1 ≤ failed
  pub middle : SinkState
  pub before : TookAll (answers_text answers) old middle
  pub part : TookPart (answers_text (closing_answers failed)) middle new
