-- Runs in which nothing failed go to their end.
use Rattle.std.specs.Io.KnownBytes.{prepend_known}
use Rattle.std.proofs.lemmas.List.{append-nil}
use Rattle.std.proofs.Common.{◌∙◌, ◌++◌, ◌≡◌, ◌+◌, ◌<◌, ◌≤◌, ℕ, List, [], ◌∷◌, length, Bool, Option, None, Some, ap, refl, sym, subst, true, false, arith}
use Rattle.command_rows.specs.Rows.{Answer}
use Rattle.command_rows.specs.Vocabulary.{Command, Rose, SourceState, TookAll}
use Rattle.command_words.specs.declared.spans.Sep.TheVariants.{Blanks}
use Rattle.geli_core.specs.Complete.{CommandToEnd, Completes, CompletesBy, GaveWithinLimits, ScriptToEnd}
use Rattle.geli_core.specs.Lines.{CutsInto, ended}
use Rattle.geli_core.specs.Run.{answers_text, any_refused, closing_answers}
use Rattle.geli_core.specs.Script.{IsReadToEnd, Runs, RunsAs, RunsCommand, RunsLine, RunsScript, Taken, Whole, script_limit}
use Rattle.geli_core.specs.Served.{ByTrace, RunsUnless, status_by}
use Rattle.geli_core.specs.Trace.{Trace, answers_of, lines_of}
use Rattle.geli_core.specs.Vocabulary.{command_in, line_limit, line_of, script_images}
use Rattle.run_status.specs.declared.status.Status.{Status}
use Rattle.run_status.specs.declared.status.Status.TheVariants.{Done, SomeRefused, BadWords, ReadFault, WriteFault, NoMemory, LineTooLong, ScriptTooLong}
use Rattle.geli_core.proofs.Causes.{rose_prints}
use Rattle.std.specs.List.{flat_map}

not_both : (a b : ℕ) → a < b → b ≤ a → ⊥
not_both a b less most = omega arith

not_below : (a b : ℕ) → a ≡ b → a < b → ⊥
not_below a b same less = omega arith

-- ---- a script

all_given : (old new : SourceState) (taken : Taken) → old.left ≡ prepend_known (taken.read ++ taken.unread) new.left → taken.unread ≡ [] → old.left ≡ prepend_known taken.read new.left
all_given old new taken gave none =
    gave ∙ ap (λ (l : List ℕ). prepend_known (taken.read ++ l) new.left) none ∙ ap (λ (l : List ℕ). prepend_known l new.left) (append-nil taken.read)

ended_script : (old new : Whole) (trace : Trace) (status : Status) (taken : Taken) (failed : ℕ) (refused : Bool)
    → old.source.left ≡ prepend_known (taken.read ++ taken.unread) new.source.left → CutsInto taken.read taken.lines taken.rest → IsReadToEnd taken (lines_of trace.lines) old.source new.source
    → trace.sep ≡ Blanks → trace.closing ≡ Some failed → any_refused (answers_of trace.lines ++ closing_answers failed) ≡ refused → status ≡ status_by refused
    → TookAll (answers_text (answers_of trace.lines ++ closing_answers failed)) old.sink new.sink → ScriptToEnd old trace status new
ended_script old new trace status taken failed refused gave cut end sep closed any is printed = record {
  read = taken.read;
  gave = all_given old.source new.source taken gave end.unread;
  at_end = end.end;
  lines = taken.lines;
  rest = taken.rest;
  cut = cut;
  to_end = record { cut_by = sep; all = end.all; failed = failed; closed = closed; printed = printed; by_answers = is ∙ ap status_by (sym any) };
}

-- a line of too many bytes is not within the limits
no_long_line : (old new : SourceState) (taken : Taken) → old.left ≡ prepend_known (taken.read ++ taken.unread) new.left → CutsInto taken.read taken.lines taken.rest → length taken.rest ≡ line_limit + 1
    → GaveWithinLimits old new → ⊥
no_long_line old new taken gave cut long limits =
    let parts : taken.read ++ taken.unread ≡ flat_map ended taken.lines ++ taken.rest ++ taken.unread =
    ap (λ (l : List ℕ). l ++ taken.unread) cut.whole in
    not_both line_limit (length taken.rest) (omega (arith, long)) ((limits.within (taken.read ++ taken.unread) gave).short (flat_map ended taken.lines) taken.rest taken.unread parts cut.behind)

script_complete : (old new : Whole) (trace : Trace) (status : Status) → (Rose old.sink.faults new.sink.faults → ⊥) → GaveWithinLimits old.source new.source
    → RunsUnless (ByTrace RunsScript trace) old status new → RunsUnless (ByTrace ScriptToEnd trace) old status new
script_complete old new trace NoMemory quiet limits h = h
script_complete old new trace Done quiet limits h = ended_script old new trace Done h.taken h.failed false h.gave h.cut h.up_to h.sep h.closed h.prints.0 refl h.prints.1
script_complete old new trace SomeRefused quiet limits h = ended_script old new trace SomeRefused h.taken h.failed true h.gave h.cut h.up_to h.sep h.closed h.prints.0 refl h.prints.1
script_complete old new trace BadWords quiet limits h = absurd h.prints
script_complete old new trace WriteFault quiet limits h = absurd (quiet (rose_prints (answers_of trace.lines) h.failed old.sink new.sink h.prints))
script_complete old new trace ReadFault quiet limits h = absurd (limits.quiet h.up_to.2)
script_complete old new trace LineTooLong quiet limits h = absurd (no_long_line old.source new.source h.taken h.gave h.cut h.up_to.1 limits)
script_complete old new trace ScriptTooLong quiet limits h =
    absurd (not_below (length h.taken.read) script_limit h.up_to.1 (limits.within h.taken.read (all_given old.source new.source h.taken h.gave h.up_to.0.unread)).small)

-- ---- one command

command_ended : (line : List ℕ) (old new : Whole) (trace : Trace) (status : Status) (refused : Bool) (h : RunsCommand line old trace status new) → any_refused (Some h.answer ∷ closing_answers h.failed) ≡ refused → status ≡ status_by refused
    → TookAll (answers_text (Some h.answer ∷ closing_answers h.failed)) old.sink new.sink → CommandToEnd line old trace status new
command_ended line old new trace status refused h any is printed =
    let answers : answers_of trace.lines ≡ Some h.answer ∷ [] = ap (λ (t : Trace). answers_of t.lines) h.is in
    record {
      source = h.source;
      to_end = record {
        cut_by = ap (λ (t : Trace). t.sep) h.is;
        all = ap (λ (t : Trace). lines_of t.lines) h.is;
        failed = h.failed;
        closed = ap (λ (t : Trace). t.closing) h.is;
        printed = subst (λ (a : List (Option Answer)). TookAll (answers_text (a ++ closing_answers h.failed)) old.sink new.sink) (sym answers) printed;
        by_answers = is ∙ ap status_by (sym any) ∙ ap (λ (a : List (Option Answer)). status_by (any_refused (a ++ closing_answers h.failed))) (sym answers);
      };
    }

command_complete : (line : List ℕ) (command : Command) (old new : Whole) (trace : Trace) (status : Status) → (Rose old.sink.faults new.sink.faults → ⊥)
    → RunsUnless (ByTrace (RunsLine line (Some command)) trace) old status new → RunsUnless (ByTrace (CommandToEnd line) trace) old status new
command_complete line command old new trace NoMemory quiet h = h
command_complete line command old new trace Done quiet h = command_ended line old new trace Done false h h.prints.0 refl h.prints.1
command_complete line command old new trace SomeRefused quiet h = command_ended line old new trace SomeRefused true h h.prints.0 refl h.prints.1
command_complete line command old new trace WriteFault quiet h = absurd (quiet (rose_prints (Some h.answer ∷ []) h.failed old.sink new.sink h.prints))
command_complete line command old new trace BadWords quiet h = absurd h.ended
command_complete line command old new trace ReadFault quiet h = absurd h.ended
command_complete line command old new trace LineTooLong quiet h = absurd h.ended
command_complete line command old new trace ScriptTooLong quiet h = absurd h.ended

-- ---- the words

line_complete : (line : List ℕ) (command : Option Command) (old new : Whole) (trace : Trace) (status : Status) → (Rose old.sink.faults new.sink.faults → ⊥)
    → RunsUnless (ByTrace (RunsLine line command) trace) old status new → CompletesBy None command line old trace status new
line_complete line None old new trace status quiet h = tt
line_complete line (Some command) old new trace status quiet h = command_complete line command old new trace status quiet h

complete_as : (asks : Option (List (List ℕ))) (words : List (List ℕ)) (old new : Whole) (trace : Trace) (status : Status) → (Rose old.sink.faults new.sink.faults → ⊥)
    → RunsUnless (ByTrace (RunsAs asks words) trace) old status new → CompletesBy asks (command_in (line_of words)) (line_of words) old trace status new
complete_as (Some names) words old new trace status quiet h = λ limits. script_complete old new trace status quiet limits h
complete_as None words old new trace status quiet h = line_complete (line_of words) (command_in (line_of words)) old new trace status quiet h

as_run : (words : List (List ℕ)) (old new : Whole) (trace : Trace) (status : Status) → Runs words old trace status new → RunsUnless (ByTrace (RunsAs (script_images words) words) trace) old status new
as_run words old new trace NoMemory h = h.1
as_run words old new trace Done h = h
as_run words old new trace SomeRefused h = h
as_run words old new trace BadWords h = h
as_run words old new trace ReadFault h = h
as_run words old new trace WriteFault h = h
as_run words old new trace LineTooLong h = h
as_run words old new trace ScriptTooLong h = h

pub runs_complete : (words : List (List ℕ)) (old new : Whole) (trace : Trace) (status : Status) → Runs words old trace status new → Completes words old trace status new
runs_complete words old new trace status h = λ quiet. complete_as (script_images words) words old new trace status quiet (as_run words old new trace status h)
