-- What holds of each line, whatever the row of its command.
use Rattle.std.specs.Prelude.{◌≡◌, ℕ, IsTrue, List, Option, Some, Result, Ok}
use Rattle.command_rows.specs.Rows.{Answer, World}
use Rattle.command_rows.specs.Vocabulary.{Command, Refusal, SinkState, Span, bytes_at, provider_of}
use Rattle.eli_base.specs.declared.refusals.Refusal.TheVariants as refusals
use Rattle.reply_text.specs.Answer as answers
use Rattle.command_rows.specs.Counts.{CountsFailures}
use Rattle.command_rows.specs.Fits.{FindsAt, Fits}
use Rattle.command_rows.specs.Stops.{LeavesOldOrNew}
use Rattle.command_rows.specs.Storing.{StoresItsFile}
use Rattle.geli_core.specs.Run.{ServesLine}
use Rattle.reply_text.specs.LineEnds.{PrintsAnswer}
use Rattle.geli_core.specs.Vocabulary.{BecomesSo, Caused, OnlySteps, Sep, Usage, WriteEnd, line_reading, may_lack_memory}
use Rattle.reply_text.specs.declared.line_ends.LineEnd.{LineEnd}

-- this holds of the refusal, if the reply is one
abbrev pub IfRefused : Answer → (Refusal → Type 0) → Type 0
IfRefused (answers.Refused refusal) Holds = Holds refusal
IfRefused answer Holds = Unit {0}

-- The laws that a command keeps. A refusal has its cause. Want of memory is the reply only to verbs that may lack it.
-- If the drawer that it names has what its verb needs, and nothing fails, it is served, or there was no memory and its
-- verb may lack it. It changes only the drawer that it names, whose disk logs events of the line. If it changes
-- metadata, the disk holds the old or the new at each moment of it. What the drawer does with its disk changes only by
-- the verbs that do that. No count of the cabinet or the entropy falls, and a failure of theirs is the reply only if
-- its count rose. The files stay except the one that `backup`, `init -B` or `verify` names, of which no more than one
-- store is made; no other verb makes a store.
pub record KeepsLaws (line : List ℕ) (command : Command) (old : World) (answer : Answer) (new : World) : Type 0 where
  pub caused : IfRefused answer (λ refusal. Caused line command refusal old new)
  pub memory : IfRefused answer (λ refusal. refusal ≡ refusals.NoMemory → IsTrue (may_lack_memory command))
  pub fits : (prov : Span) → provider_of command ≡ Some prov → FindsAt (bytes_at line prov) (Fits line command) old new
      → IfRefused answer (λ refusal. (refusal ≡ refusals.NoMemory) × IsTrue (may_lack_memory command))
  pub drawers : OnlySteps line command answer old.drawers new.drawers
  pub leaves : LeavesOldOrNew line command answer old new
  pub becomes : BecomesSo line command answer old new
  pub counts : CountsFailures old answer new
  pub files : StoresItsFile line command old new

-- a line that says a command keeps the laws of every line
abbrev pub LineKeepsLaws : Result (Option Command) Usage → List ℕ → World → Option Answer → World → Type 0
LineKeepsLaws (Ok (Some command)) line old (Some answer) new = KeepsLaws line command old answer new
LineKeepsLaws read line old answer new = Unit {0}

-- a line was served, by the laws, and then its reply was printed
pub record ServesLawfully (sep : Sep) (line : List ℕ) (old : World) (sink : SinkState) (result : Result LineEnd WriteEnd) (new : World) (after : SinkState) : Type 0 where
  pub answer : Option Answer
  pub serves : ServesLine sep line old answer new
  pub prints : PrintsAnswer answer sink result after
  pub laws : LineKeepsLaws (line_reading sep line) line old answer new
