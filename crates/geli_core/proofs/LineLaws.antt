-- The laws of lines that are served.
use Rattle.std.proofs.Common.{◌≡◌, ℕ, List, Option, None, Some, Result, Ok, Err, refl, subst, IsTrue, MatchOption}
use Rattle.command_rows.specs.Rows.{Answer, World, place_of}
use Rattle.command_rows.specs.Vocabulary.{Command, Refusal, SinkState, Span, bytes_at, provider_of}
use Rattle.command_words.specs.declared.commands.Command.TheVariants as commands
use Rattle.eli_base.specs.declared.refusals.Refusal.TheVariants as refusals
use Rattle.reply_text.specs.Answer as answers
use Rattle.command_rows.specs.Fits.{FindsAt, Fits}
use Rattle.command_rows.proofs.LineCauses.{refusal_caused}
use Rattle.command_rows.proofs.Stopped.{turn_leaves}
use Rattle.command_rows.proofs.Untouched.{turn_only_steps}
use Rattle.command_rows.proofs.LineBecomes.{turn_becomes}
use Rattle.command_rows.proofs.LineCounts.{turn_counts}
use Rattle.command_rows.proofs.LineFits.{fits_refused}
use Rattle.command_rows.proofs.LineStores.{turn_stores}
use Rattle.geli_core.specs.Laws.{IfRefused, KeepsLaws, LineKeepsLaws, ServesLawfully}
use Rattle.geli_core.specs.Run.{ServesAndPrints, ServesLine, ServesReading}
use Rattle.geli_core.specs.Vocabulary.{Caused, CausedAt, CausedBy, Sep, Turn, Usage, WriteEnd, line_reading, may_lack_memory}
use Rattle.reply_text.specs.declared.line_ends.LineEnd.{LineEnd}

-- ---- want of memory

-- a line that names a drawer lacks memory only if its verb may
lacks_at : (line : List ℕ) (command : Command) (old new : World) (place : Option ℕ) → MatchOption place (refusals.NoMemory ≡ refusals.UnknownProvider) (CausedAt line command refusals.NoMemory old new)
    → IsTrue (may_lack_memory command)
lacks_at line command old new None h = absurd (let none : ⊥ = cc h in none)
lacks_at line command old new (Some place) h = h.cause

-- only `list` names no drawer
unnamed_lacks : (command : Command) → provider_of command ≡ None → IsTrue (may_lack_memory command)
unnamed_lacks commands.List is = refl
unnamed_lacks command is = absurd (let none : ⊥ = cc is in none)

lacks_by : (line : List ℕ) (command : Command) (old new : World) (named : Option Span) → provider_of command ≡ named → CausedBy named line command refusals.NoMemory old new → IsTrue (may_lack_memory command)
lacks_by line command old new None is h = unnamed_lacks command is
lacks_by line command old new (Some prov) is h = lacks_at line command old new (place_of (bytes_at line prov) old.drawers) h

lacks : (line : List ℕ) (command : Command) (old new : World) → Caused line command refusals.NoMemory old new → IsTrue (may_lack_memory command)
lacks line command old new h = lacks_by line command old new (provider_of command) refl h

-- ---- a reply

caused_of : (line : List ℕ) (command : Command) (old : World) (answer : Answer) (new : World) → Turn line command old answer new → IfRefused answer (λ refusal. Caused line command refusal old new)
caused_of line command old (answers.Refused refusal) new h = refusal_caused line command old refusal new h
caused_of line command old answer new h = tt

memory_of : (line : List ℕ) (command : Command) (old : World) (answer : Answer) (new : World) → IfRefused answer (λ refusal. Caused line command refusal old new)
    → IfRefused answer (λ refusal. refusal ≡ refusals.NoMemory → IsTrue (may_lack_memory command))
memory_of line command old (answers.Refused refusal) new h = λ is. lacks line command old new (subst (λ (r : Refusal). Caused line command r old new) is h)
memory_of line command old answer new h = tt

fits_of : (line : List ℕ) (command : Command) (old : World) (answer : Answer) (new : World) → Turn line command old answer new
    → (prov : Span) → provider_of command ≡ Some prov → FindsAt (bytes_at line prov) (Fits line command) old new
    → IfRefused answer (λ refusal. (refusal ≡ refusals.NoMemory) × IsTrue (may_lack_memory command))
fits_of line command old (answers.Refused refusal) new h prov names finds = fits_refused line command prov refusal old new names finds h
fits_of line command old answer new h prov names finds = tt

turn_laws : (line : List ℕ) (command : Command) (old : World) (answer : Answer) (new : World) → Turn line command old answer new → KeepsLaws line command old answer new
turn_laws line command old answer new h =
    let caused = caused_of line command old answer new h in
    record {
      caused = caused;
      memory = memory_of line command old answer new caused;
      fits = fits_of line command old answer new h;
      drawers = turn_only_steps line command old answer new h;
      leaves = turn_leaves line command old answer new h;
      becomes = turn_becomes line command old answer new h;
      counts = turn_counts line command old answer new h;
      files = turn_stores line command old answer new h;
    }

reading_laws : (read : Result (Option Command) Usage) (line : List ℕ) (old : World) (answer : Option Answer) (new : World) → ServesReading read line old answer new → LineKeepsLaws read line old answer new
reading_laws (Err usage) line old answer new h = tt
reading_laws (Ok None) line old answer new h = tt
reading_laws (Ok (Some command)) line old None new h = absurd h
reading_laws (Ok (Some command)) line old (Some answer) new h = turn_laws line command old answer new h

pub line_laws : (sep : Sep) (line : List ℕ) (old : World) (answer : Option Answer) (new : World) → ServesLine sep line old answer new → LineKeepsLaws (line_reading sep line) line old answer new
line_laws sep line old answer new h = reading_laws (line_reading sep line) line old answer new h

-- a line that was served and printed keeps the laws
pub served_lawfully : (sep : Sep) (line : List ℕ) (old : World) (sink : SinkState) (result : Result LineEnd WriteEnd) (new : World) (after : SinkState) → ServesAndPrints sep line old sink result new after
    → ServesLawfully sep line old sink result new after
served_lawfully sep line old sink result new after h = record { answer = h.answer; serves = h.serves; prints = h.prints; laws = line_laws sep line old h.answer new h.serves }
