-- One command, as a script of one line.
use Rattle.std.proofs.Common.{[], ◌∷◌, ◌≡◌, ◌∙◌, inl, inr, ℕ, List, length, refl, ap, sym, subst, Option, None, Some, Bool, true, false, cond, Result, Ok, Err, ◌||◌, nat_le}
use Rattle.std.proofs.lemmas.List.{append-nil}
use Rattle.command_rows.specs.Rows.{Answer}
use Rattle.command_rows.specs.Vocabulary.{Command, SinkState, SourceState, TookAll, TookPart}
use Rattle.command_words.specs.declared.spans.Sep.TheVariants.{Blanks, Zeros}
use Rattle.text_page.proofs.Printing.{TookAll-nothing, TookAll-then}
use Rattle.geli_core.specs.Run.{ServesAndPrints, ServesLine, ServesReading, answers_text, any_refused, closing_answers, refuses, text_of}
use Rattle.reply_text.specs.LineEnds.{PrintsAnswer, end_of, is_refusal}
use Rattle.geli_core.specs.Script.{EndsCommand, PrintsAnswers, PrintsUsage, Runs, RunsAs, RunsCommand, RunsLine, Whole}
use Rattle.geli_core.specs.Served.{ClosesAndPrints, RunsUnless, SiteState, Traced, status_by, whole_of}
use Rattle.geli_core.specs.Trace.{Trace}
use Rattle.geli_core.specs.Vocabulary.{ClosesWorld, Usage, WriteEnd, command_in, line_limit, line_of, line_reading, said, script_images}
use Rattle.reply_text.specs.declared.line_ends.LineEnd.{LineEnd}
use Rattle.run_status.specs.declared.status.Status.{Status}
use Rattle.run_status.specs.declared.status.Status.TheVariants.{Done, SomeRefused, BadWords, ReadFault, WriteFault, NoMemory, LineTooLong, ScriptTooLong}
use Rattle.geli_core.proofs.Running.{refuses-end, served_line}

-- what a line reads as that says a command
commanded : (short : Bool) (read : Result (Option Command) Usage) (command : Command) → cond short (said read) None ≡ Some command → read ≡ Ok (Some command)
commanded false read command h = absurd (let no : ⊥ = cc in no)
commanded true (Ok found) command h = ap Ok h
commanded true (Err usage) command h = absurd (let no : ⊥ = cc in no)

pub says : (line : List ℕ) (command : Command) → command_in line ≡ Some command → line_reading Zeros line ≡ Ok (Some command)
says line command h = commanded (nat_le (length line) line_limit) (line_reading Zeros line) command h

-- the line was served, and then the drawers were closed
one_traced : (line : List ℕ) (old middle new : SiteState) (source : SourceState) (status : Status) (answer : Answer) (failed : ℕ) → ServesLine Zeros line old.world (Some answer) middle.world → ClosesWorld middle.world failed new.world → EndsCommand status
    → PrintsAnswers (Some answer ∷ []) failed old.sink status new.sink → Traced (RunsCommand line) (whole_of old source) status (whole_of new source)
one_traced line old middle new source status answer failed serves closes ended prints = record {
  trace = record { sep = Zeros; lines = served_line line (Some answer) middle.world ∷ []; closing = Some failed };
  is_trace = record { served = (serves, tt); closes = closes };
  runs = record { answer = answer; next = middle.world; failed = failed; is = refl; prints = prints; source = refl; ended = ended };
}

-- all of the command was served and printed
one_whole : (line : List ℕ) (command : Command) (old middle new : SiteState) (source : SourceState) (answer : Answer) (failed : ℕ) (all : Bool) → ServesLine Zeros line old.world (Some answer) middle.world
    → ClosesWorld middle.world failed new.world → (refuses (Some answer) || any_refused (closing_answers failed)) ≡ all → TookAll (text_of (Some answer)) old.sink middle.sink
    → TookAll (answers_text (closing_answers failed)) middle.sink new.sink → RunsUnless (Traced (RunsLine line (Some command))) (whole_of old source) (status_by all) (whole_of new source)
one_whole line command old middle new source answer failed false serves closes is first second =
    one_traced line old middle new source Done answer failed serves closes tt (is, TookAll-then (text_of (Some answer)) (answers_text (closing_answers failed)) first second)
one_whole line command old middle new source answer failed true serves closes is first second =
    one_traced line old middle new source SomeRefused answer failed serves closes tt (is, TookAll-then (text_of (Some answer)) (answers_text (closing_answers failed)) first second)

one_by : (line : List ℕ) (command : Command) (old middle new : SiteState) (source : SourceState) (answer : Answer) (end : LineEnd) (failed : ℕ) (status : Status) → ServesLine Zeros line old.world (Some answer) middle.world
    → ClosesWorld middle.world failed new.world → end ≡ end_of (Some answer) → TookAll (text_of (Some answer)) old.sink middle.sink
    → (status ≡ status_by (is_refusal end || any_refused (closing_answers failed))) × TookAll (answers_text (closing_answers failed)) middle.sink new.sink
    → RunsUnless (Traced (RunsLine line (Some command))) (whole_of old source) status (whole_of new source)
one_by line command old middle new source answer end failed status serves closes is first p =
    let same : (refuses (Some answer) || any_refused (closing_answers failed)) ≡ (is_refusal end || any_refused (closing_answers failed)) =
    ap (λ (b : Bool). b || any_refused (closing_answers failed)) (refuses-end (Some answer) ∙ ap is_refusal (sym is)) in
    subst (λ (s : Status). RunsUnless (Traced (RunsLine line (Some command))) (whole_of old source) s (whole_of new source)) (sym p.0)
    (one_whole line command old middle new source answer failed _ serves closes same first p.1)

one_command : (line : List ℕ) (command : Command) (old middle new : SiteState) (source : SourceState) (answer : Answer) (end : LineEnd) (status : Status) → ServesLine Zeros line old.world (Some answer) middle.world
    → end ≡ end_of (Some answer) → TookAll (text_of (Some answer)) old.sink middle.sink → (c : ClosesAndPrints (is_refusal end) middle status new)
    → RunsUnless (Traced (RunsLine line (Some command))) (whole_of old source) status (whole_of new source)
one_command line command old middle new source answer end WriteFault serves is first c = one_traced line old middle new source WriteFault answer c.failed serves c.closes tt (inr (record {
  some = c.prints.0;
  middle = middle.sink;
  before = subst (λ (t : List ℕ). TookAll t old.sink middle.sink) (sym (append-nil (text_of (Some answer)))) first;
  part = c.prints.1;
}))
one_command line command old middle new source answer end Done serves is first c = one_by line command old middle new source answer end c.failed Done serves c.closes is first c.prints
one_command line command old middle new source answer end SomeRefused serves is first c = one_by line command old middle new source answer end c.failed SomeRefused serves c.closes is first c.prints
one_command line command old middle new source answer end BadWords serves is first c = one_by line command old middle new source answer end c.failed BadWords serves c.closes is first c.prints
one_command line command old middle new source answer end ReadFault serves is first c = one_by line command old middle new source answer end c.failed ReadFault serves c.closes is first c.prints
one_command line command old middle new source answer end NoMemory serves is first c = one_by line command old middle new source answer end c.failed NoMemory serves c.closes is first c.prints
one_command line command old middle new source answer end LineTooLong serves is first c = one_by line command old middle new source answer end c.failed LineTooLong serves c.closes is first c.prints
one_command line command old middle new source answer end ScriptTooLong serves is first c = one_by line command old middle new source answer end c.failed ScriptTooLong serves c.closes is first c.prints

ran : (line : List ℕ) (command : Command) (old middle new : SiteState) (source : SourceState) (answer : Option Answer) (end : LineEnd) (status : Status) → ServesReading (Ok (Some command)) line old.world answer middle.world
    → ServesLine Zeros line old.world answer middle.world → PrintsAnswer answer old.sink (Ok end) middle.sink → ClosesAndPrints (is_refusal end) middle status new
    → RunsUnless (Traced (RunsLine line (Some command))) (whole_of old source) status (whole_of new source)
ran line command old middle new source None end status answered serves prints c = absurd answered
ran line command old middle new source (Some answer) end status answered serves prints c = one_command line command old middle new source answer end status serves prints.0 prints.1 c

-- the command was served, printed, and the drawers closed
pub ran_command : (line : List ℕ) (command : Command) (old middle new : SiteState) (source : SourceState) (end : LineEnd) (refused : Bool) (status : Status) → command_in line ≡ Some command
    → ServesAndPrints Zeros line old.world old.sink (Ok end) middle.world middle.sink → refused ≡ is_refusal end → ClosesAndPrints refused middle status new
    → RunsUnless (Traced (RunsLine line (Some command))) (whole_of old source) status (whole_of new source)
ran_command line command old middle new source end refused status is s same c =
    ran line command old middle new source s.answer end status
    (subst (λ (r : Result (Option Command) Usage). ServesReading r line old.world s.answer middle.world) (says line command is) s.serves) s.serves s.prints (subst (λ (b : Bool). ClosesAndPrints b middle status new) same c)

broke : (line : List ℕ) (command : Command) (old middle new : SiteState) (source : SourceState) (answer : Option Answer) (end : WriteEnd) (failed : ℕ) → ServesReading (Ok (Some command)) line old.world answer middle.world
    → ServesLine Zeros line old.world answer middle.world → PrintsAnswer answer old.sink (Err end) middle.sink → ClosesWorld middle.world failed new.world → new.sink ≡ middle.sink
    → Traced (RunsCommand line) (whole_of old source) WriteFault (whole_of new source)
broke line command old middle new source None end failed answered serves part closes same = absurd answered
broke line command old middle new source (Some answer) end failed answered serves part closes same =
    let here : TookPart (text_of (Some answer)) old.sink new.sink = subst (λ (s : SinkState). TookPart (text_of (Some answer)) old.sink s) (sym same) part in
    one_traced line old middle new source WriteFault answer failed serves closes tt (inl (record { printed = []; last = answer; are = refl; middle = old.sink; before = TookAll-nothing old.sink; part = here }))

-- the command was served, and its reply was not printed
pub broke_command : (line : List ℕ) (command : Command) (old middle new : SiteState) (source : SourceState) (end : WriteEnd) (failed : ℕ) → command_in line ≡ Some command
    → ServesAndPrints Zeros line old.world old.sink (Err end) middle.world middle.sink → ClosesWorld middle.world failed new.world → new.sink ≡ middle.sink
    → RunsUnless (Traced (RunsLine line (Some command))) (whole_of old source) WriteFault (whole_of new source)
broke_command line command old middle new source end failed is s closes same =
    broke line command old middle new source s.answer end failed
    (subst (λ (r : Result (Option Command) Usage). ServesReading r line old.world s.answer middle.world) (says line command is) s.serves) s.serves s.prints closes same

-- ---- nothing was done

abbrev no_trace : Trace
no_trace = record { sep = Blanks; lines = []; closing = None }

-- the usage line was printed
pub declined : (line : List ℕ) (old new : Whole) (status : Status) → new.world ≡ old.world → new.source ≡ old.source → PrintsUsage old.sink status new.sink
    → RunsUnless (Traced (RunsLine line None)) old status new
declined line old new status world source prints = by status prints
  where
    by_prints : (status : Status) → PrintsUsage old.sink status new.sink → Traced (RunsLine line None) old status new
    by_prints status prints = record { trace = no_trace; is_trace = record { served = tt; closes = world }; runs = record { nothing = (refl, refl); source = source; prints = prints } }

    by : (status : Status) → PrintsUsage old.sink status new.sink → RunsUnless (Traced (RunsLine line None)) old status new
    by NoMemory prints = absurd prints
    by BadWords prints = by_prints BadWords prints
    by WriteFault prints = by_prints WriteFault prints
    by Done prints = absurd prints
    by SomeRefused prints = absurd prints
    by ReadFault prints = absurd prints
    by LineTooLong prints = absurd prints
    by ScriptTooLong prints = absurd prints

-- ---- the words

-- what the words say as one line
pub run_as_said : (words : List (List ℕ)) (line : List ℕ) (said : Option Command) (old new : Whole) (status : Status) → line ≡ line_of words → command_in (line_of words) ≡ said
    → RunsUnless (Traced (RunsLine line said)) old status new → RunsUnless (Traced (RunsAs None words)) old status new
run_as_said words line said old new status here is h =
    subst (λ (o : Option Command). RunsUnless (Traced (RunsLine (line_of words) o)) old status new) (sym is)
    (subst (λ (l : List ℕ). RunsUnless (Traced (RunsLine l said)) old status new) here h)

-- there was no memory
pub nothing_done : (words : List (List ℕ)) (old new : Whole) → new ≡ old → Traced (Runs words) old NoMemory new
nothing_done words old new same = record { trace = no_trace; is_trace = record { served = tt; closes = ap (λ (w : Whole). w.world) same }; runs = ((refl, refl), same) }

traced_as : (words : List (List ℕ)) (asks : Option (List (List ℕ))) (old new : Whole) (status : Status) → script_images words ≡ asks → ((trace : Trace) → RunsAs (script_images words) words old trace status new → Runs words old trace status new)
    → Traced (RunsAs asks words) old status new → Traced (Runs words) old status new
traced_as words asks old new status is same h = record {
  trace = h.trace;
  is_trace = h.is_trace;
  runs = same h.trace (subst (λ (b : Option (List (List ℕ))). RunsAs b words old h.trace status new) (sym is) h.runs);
}

pub runs_as : (words : List (List ℕ)) (asks : Option (List (List ℕ))) (old new : Whole) (status : Status) → script_images words ≡ asks → RunsUnless (Traced (RunsAs asks words)) old status new → Traced (Runs words) old status new
runs_as words asks old new NoMemory is h = nothing_done words old new h
runs_as words asks old new Done is h = traced_as words asks old new Done is (λ trace r. r) h
runs_as words asks old new SomeRefused is h = traced_as words asks old new SomeRefused is (λ trace r. r) h
runs_as words asks old new BadWords is h = traced_as words asks old new BadWords is (λ trace r. r) h
runs_as words asks old new ReadFault is h = traced_as words asks old new ReadFault is (λ trace r. r) h
runs_as words asks old new WriteFault is h = traced_as words asks old new WriteFault is (λ trace r. r) h
runs_as words asks old new LineTooLong is h = traced_as words asks old new LineTooLong is (λ trace r. r) h
runs_as words asks old new ScriptTooLong is h = traced_as words asks old new ScriptTooLong is (λ trace r. r) h
