-- What the status says of the words and of the sink.
use Rattle.std.specs.Io.KnownBytes.{prepend_known}
use Rattle.std.proofs.lemmas.List.{append-nil}
use Rattle.std.proofs.Common.{◌∙◌, ◌++◌, inl, inr, ℕ, List, [], ◌∷◌, Option, None, Some, ap, refl}
use Rattle.block_traits.proofs.Causes.{Rose-earlier}
use Rattle.command_rows.specs.Rows.{Answer}
use Rattle.command_rows.specs.Vocabulary.{Command, Rose, SinkState}
use Rattle.geli_core.specs.Script.{Ends, EndsBy, EndsCommand, StatusHasCause, PrintsAnswers, PrintsUsage, Runs, RunsAs, RunsCommand, RunsLine, RunsScript, Whole}
use Rattle.geli_core.specs.Trace.{Trace, answers_of}
use Rattle.geli_core.specs.Vocabulary.{command_in, line_of, script_images}
use Rattle.run_status.specs.declared.status.Status.{Status}
use Rattle.run_status.specs.declared.status.Status.TheVariants.{Done, SomeRefused, BadWords, ReadFault, WriteFault, NoMemory, LineTooLong, ScriptTooLong}

pub rose_prints : (answers : List (Option Answer)) (failed : ℕ) (old new : SinkState) → PrintsAnswers answers failed old WriteFault new → Rose old.faults new.faults
rose_prints answers failed old new (inl part) = Rose-earlier old.faults part.middle.faults new.faults part.before.later part.part.rose
rose_prints answers failed old new (inr part) = Rose-earlier old.faults part.middle.faults new.faults part.before.later part.part.rose

-- ---- how the run ended

not_bad : (names : List (List ℕ)) (command : Option Command) (answers : List (Option Answer)) (failed : ℕ) (old new : SinkState) (status : Status) → PrintsAnswers answers failed old status new → EndsBy (Some names) command status
not_bad names command answers failed old new WriteFault h = tt
not_bad names command answers failed old new NoMemory h = tt
not_bad names command answers failed old new BadWords h = absurd h
not_bad names command answers failed old new Done h = λ is. (let no : ⊥ = cc is in no)
not_bad names command answers failed old new SomeRefused h = λ is. (let no : ⊥ = cc is in no)
not_bad names command answers failed old new ReadFault h = λ is. (let no : ⊥ = cc is in no)
not_bad names command answers failed old new LineTooLong h = λ is. (let no : ⊥ = cc is in no)
not_bad names command answers failed old new ScriptTooLong h = λ is. (let no : ⊥ = cc is in no)

command_ends : (command : Command) (status : Status) → EndsCommand status → EndsBy None (Some command) status
command_ends command WriteFault h = tt
command_ends command Done h = inl refl
command_ends command SomeRefused h = inr refl
command_ends command status h = absurd h

usage_ends : (old new : SinkState) (status : Status) → PrintsUsage old status new → EndsBy None None status
usage_ends old new WriteFault h = tt
usage_ends old new BadWords h = refl
usage_ends old new status h = absurd h

line_ends : (line : List ℕ) (command : Option Command) (old new : Whole) (trace : Trace) (status : Status) → RunsLine line command old trace status new → EndsBy None command status
line_ends line None old new trace status h = usage_ends old.sink new.sink status h.prints
line_ends line (Some command) old new trace status h = command_ends command status h.ended

ends_as : (asks : Option (List (List ℕ))) (words : List (List ℕ)) (old new : Whole) (trace : Trace) (status : Status) → RunsAs asks words old trace status new → EndsBy asks (command_in (line_of words)) status
ends_as (Some names) words old new trace status h = not_bad names (command_in (line_of words)) (answers_of trace.lines) h.failed old.sink new.sink status h.prints
ends_as None words old new trace status h = line_ends (line_of words) (command_in (line_of words)) old new trace status h

pub runs_end : (words : List (List ℕ)) (old new : Whole) (trace : Trace) (status : Status) → Runs words old trace status new → Ends words status
runs_end words old new trace NoMemory h = tt
runs_end words old new trace Done h = ends_as (script_images words) words old new trace Done h
runs_end words old new trace SomeRefused h = ends_as (script_images words) words old new trace SomeRefused h
runs_end words old new trace BadWords h = ends_as (script_images words) words old new trace BadWords h
runs_end words old new trace ReadFault h = ends_as (script_images words) words old new trace ReadFault h
runs_end words old new trace WriteFault h = tt
runs_end words old new trace LineTooLong h = ends_as (script_images words) words old new trace LineTooLong h
runs_end words old new trace ScriptTooLong h = ends_as (script_images words) words old new trace ScriptTooLong h

-- ---- why it broke off

script_caused : (old new : Whole) (trace : Trace) (status : Status) → RunsScript old trace status new → StatusHasCause status old new
script_caused old new trace Done h = tt
script_caused old new trace SomeRefused h = tt
script_caused old new trace BadWords h = tt
script_caused old new trace NoMemory h = tt
script_caused old new trace WriteFault h = rose_prints (answers_of trace.lines) h.failed old.sink new.sink h.prints
script_caused old new trace ReadFault h = h.up_to.2
script_caused old new trace LineTooLong h = record { taken = h.taken; gave = h.gave; cut = h.cut; long = h.up_to.1 }
script_caused old new trace ScriptTooLong h = record {
  read = h.taken.read;
  gave = h.gave ∙ ap (λ (l : List ℕ). prepend_known (h.taken.read ++ l) new.source.left) h.up_to.0.unread ∙ ap (λ (l : List ℕ). prepend_known l new.source.left) (append-nil h.taken.read);
  size = h.up_to.1;
}

command_caused : (line : List ℕ) (old new : Whole) (trace : Trace) (status : Status) → RunsCommand line old trace status new → StatusHasCause status old new
command_caused line old new trace WriteFault h = rose_prints (Some h.answer ∷ []) h.failed old.sink new.sink h.prints
command_caused line old new trace ReadFault h = absurd h.ended
command_caused line old new trace LineTooLong h = absurd h.ended
command_caused line old new trace ScriptTooLong h = absurd h.ended
command_caused line old new trace Done h = tt
command_caused line old new trace SomeRefused h = tt
command_caused line old new trace BadWords h = tt
command_caused line old new trace NoMemory h = tt

usage_caused : (old new : Whole) (status : Status) → PrintsUsage old.sink status new.sink → StatusHasCause status old new
usage_caused old new WriteFault h = h.rose
usage_caused old new BadWords h = tt
usage_caused old new status h = absurd h

line_caused : (line : List ℕ) (command : Option Command) (old new : Whole) (trace : Trace) (status : Status) → RunsLine line command old trace status new → StatusHasCause status old new
line_caused line None old new trace status h = usage_caused old new status h.prints
line_caused line (Some command) old new trace status h = command_caused line old new trace status h

caused_as : (asks : Option (List (List ℕ))) (words : List (List ℕ)) (old new : Whole) (trace : Trace) (status : Status) → RunsAs asks words old trace status new → StatusHasCause status old new
caused_as (Some names) words old new trace status h = script_caused old new trace status h
caused_as None words old new trace status h = line_caused (line_of words) (command_in (line_of words)) old new trace status h

pub runs_caused : (words : List (List ℕ)) (old new : Whole) (trace : Trace) (status : Status) → Runs words old trace status new → StatusHasCause status old new
runs_caused words old new trace NoMemory h = tt
runs_caused words old new trace Done h = tt
runs_caused words old new trace SomeRefused h = tt
runs_caused words old new trace BadWords h = tt
runs_caused words old new trace ReadFault h = caused_as (script_images words) words old new trace ReadFault h
runs_caused words old new trace WriteFault h = caused_as (script_images words) words old new trace WriteFault h
runs_caused words old new trace LineTooLong h = caused_as (script_images words) words old new trace LineTooLong h
runs_caused words old new trace ScriptTooLong h = caused_as (script_images words) words old new trace ScriptTooLong h
