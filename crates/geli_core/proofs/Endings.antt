-- How a script ends.
use Rattle.std.proofs.Common.{◌≡◌, ◌∙◌, inl, inr, ℕ, ◌+◌, ◌-◌, ◌≤◌, ◌<◌, List, [], ◌∷◌, ◌++◌, length, refl, ap, sym, subst, arith, Option, Some, Bool, true, false, Ok, Err, zero, suc, ◌||◌, nat_lt}
use Rattle.std.proofs.lemmas.Bool.Decides.{nat_tests}
use Rattle.std.proofs.lemmas.List.{replicate-append-replicate}
use Rattle.command_rows.specs.Rows.{Answer, World, answer_text}
use Rattle.command_rows.specs.Vocabulary.{Rose, SinkState, SourceState, TookAll, TookPart}
use Rattle.eli_base.specs.declared.refusals.Refusal.TheVariants as refusals
use Rattle.reply_text.specs.Answer as answers
use Rattle.std.proofs.lemmas.List.{append-nil}
use Rattle.std.proofs.lemmas.Grind.{flat_map-append}
use Rattle.std.proofs.lemmas.List.Folds.{list_any-append}
use Rattle.std.specs.Io.KnownBytes.{IsAtEnd, prepend_known}
use Rattle.command_words.specs.declared.spans.Sep.TheVariants.{Blanks}
use Rattle.text_page.proofs.Printing.{TookAll-then}
use Rattle.geli_core.specs.Lines.{CutsInto, last_line}
use Rattle.geli_core.specs.Run.{FailsInLast, ServesAndPrints, ServesLine, answers_text, any_refused, closing_answers, refuses, text_of}
use Rattle.reply_text.specs.LineEnds.{is_refusal}
use Rattle.geli_core.specs.Script.{MetEnd, MetNothing, MetRefusal, RunsScript, script_limit}
use Rattle.geli_core.specs.Served.{ClosesAndPrints, IsAllServed, IsAllUnprinted, IsServed, IsTaken, PrintsClosing, ServesAll, ServesLines, SiteState, StopsWithin, Traced, status_by, whole_of}
use Rattle.geli_core.specs.Trace.{Run, ServedLine, Trace, answers_of, lines_of}
use Rattle.std.specs.List.{AllByRecursion}
use Rattle.geli_core.specs.Vocabulary.{ClosesWorld, WriteEnd, line_limit}
use Rattle.geli_core.specs.declared.feeding.Stop.TheVariants.{TooLong, Unprinted}
use Rattle.reply_text.specs.declared.line_ends.LineEnd.{LineEnd}
use Rattle.run_status.specs.declared.status.Status.{Status}
use Rattle.run_status.specs.declared.status.Status.TheVariants.{Done, SomeRefused, BadWords, ReadFault, WriteFault, NoMemory, LineTooLong, ScriptTooLong}
use Rattle.geli_core.proofs.Running.{Run-more, all_more, answers_of-more, failed_more, lines_of-more, refused_more, served_line, took_more}

last_line-some : (line : List ℕ) → 1 ≤ length line → last_line line ≡ line ∷ []
last_line-some [] some = absurd (omega arith)
last_line-some (b ∷ bs) some = refl

-- ---- the last line

pub all_served-none : (bytes : List ℕ) (old new : SiteState) (rest : List ℕ) (refused : Bool) → rest ≡ [] → IsServed bytes old rest refused new → IsAllServed bytes old refused new
all_served-none bytes old new rest refused none h = record {
  serves = record {
    lines = lines_of h.serves.served;
    rest = [];
    cut = subst (λ (r : List ℕ). CutsInto bytes (lines_of h.serves.served) r) none h.serves.cut;
    served = h.serves.served;
    all = sym (append-nil (lines_of h.serves.served));
    short = h.serves.short;
    run = h.serves.run;
  };
  printed = h.printed;
  any = h.any;
}

serves_last : (bytes : List ℕ) (old middle new : SiteState) (line : List ℕ) (h : ServesLines bytes old line middle) (answer : Option Answer) → 1 ≤ length line → length line ≤ line_limit
    → ServesLine Blanks line middle.world answer new.world → ServesAll bytes old new
serves_last bytes old middle new line h answer some short serves =
    let l : ServedLine = served_line line answer new.world in
    let are : lines_of (h.served ++ l ∷ []) ≡ lines_of h.served ++ line ∷ [] = lines_of-more h.served l in
    record {
      lines = lines_of h.served;
      rest = line;
      cut = h.cut;
      served = h.served ++ l ∷ [];
      all = are ∙ ap (λ (ls : List (List ℕ)). lines_of h.served ++ ls) (sym (last_line-some line some));
      short = subst (λ (ls : List (List ℕ)). AllByRecursion (λ x. length x ≤ line_limit) ls) (sym are) (all_more _ (lines_of h.served) line h.short short);
      run = Run-more Blanks old.world middle.world h.served l h.run serves;
    }

pub all_served-line : (bytes : List ℕ) (old middle new : SiteState) (line : List ℕ) (refused : Bool) (end : LineEnd) → 1 ≤ length line → length line ≤ line_limit → IsServed bytes old line refused middle
    → ServesAndPrints Blanks line middle.world middle.sink (Ok end) new.world new.sink → IsAllServed bytes old (refused || is_refusal end) new
unfolding serves_last
all_served-line bytes old middle new line refused end some short h s = record {
  serves = serves_last bytes old middle new line h.serves s.answer some short s.serves;
  printed = subst (λ (a : List (Option Answer)). TookAll (answers_text a) old.sink new.sink) (sym (answers_of-more h.serves.served (served_line line s.answer new.world)))
      (took_more (answers_of h.serves.served) s.answer end old.sink middle.sink new.sink h.printed s.prints);
  any = ap any_refused (answers_of-more h.serves.served (served_line line s.answer new.world)) ∙ refused_more (answers_of h.serves.served) s.answer refused end middle.sink new.sink h.any s.prints;
}

pub all_unprinted-line : (bytes : List ℕ) (old middle new : SiteState) (line : List ℕ) (refused : Bool) (failed : WriteEnd) → 1 ≤ length line → length line ≤ line_limit → IsServed bytes old line refused middle
    → ServesAndPrints Blanks line middle.world middle.sink (Err failed) new.world new.sink → IsAllUnprinted bytes old new
unfolding serves_last
all_unprinted-line bytes old middle new line refused failed some short h s = record {
  serves = serves_last bytes old middle new line h.serves s.answer some short s.serves;
  printed = subst (λ (a : List (Option Answer)). FailsInLast a old.sink new.sink) (sym (answers_of-more h.serves.served (served_line line s.answer new.world)))
      (failed_more (answers_of h.serves.served) s.answer failed old.sink middle.sink new.sink h.printed s.prints);
}

-- ---- the script

gave_all : (bytes : List ℕ) (source after : SourceState) → source.left ≡ prepend_known bytes after.left → source.left ≡ prepend_known (bytes ++ []) after.left
gave_all bytes source after gave = rw (append-nil bytes) gave

limit_all : (bytes : List ℕ) → length bytes ≤ script_limit → length (bytes ++ []) ≤ script_limit
limit_all bytes limit = rw (append-nil bytes) limit

any_all : (said : List (Option Answer)) (failed : ℕ) (refused : Bool) → any_refused said ≡ refused → any_refused (said ++ closing_answers failed) ≡ (refused || any_refused (closing_answers failed))
any_all said failed refused was = list_any-append refuses said (closing_answers failed) ∙ ap (λ (b : Bool). b || any_refused (closing_answers failed)) was

-- these lines were served, and then the drawers were closed
abbrev script_trace : List ServedLine → ℕ → Trace
script_trace served failed = record { sep = Blanks; lines = served; closing = Some failed }

traced : (old middle new : SiteState) (source after : SourceState) (status : Status) (served : List ServedLine) (failed : ℕ) → Run Blanks old.world served middle.world → ClosesWorld middle.world failed new.world
    → RunsScript (whole_of old source) (script_trace served failed) status (whole_of new after) → Traced RunsScript (whole_of old source) status (whole_of new after)
traced old middle new source after status served failed run closes runs = record {
  trace = script_trace served failed;
  is_trace = record { served = run.0; closes = subst (λ (w : World). ClosesWorld w failed new.world) run.1 closes };
  runs = runs;
}

-- all of a script was served and printed
ended_by : (bytes : List ℕ) (old middle new : SiteState) (source after : SourceState) (h : ServesAll bytes old middle) (failed : ℕ) (all : Bool) → length bytes < script_limit → IsAtEnd after.left → MetEnd source after
    → source.left ≡ prepend_known bytes after.left → ClosesWorld middle.world failed new.world → any_refused (answers_of h.served ++ closing_answers failed) ≡ all
    → TookAll (answers_text (answers_of h.served ++ closing_answers failed)) old.sink new.sink → Traced RunsScript (whole_of old source) (status_by all) (whole_of new after)
ended_by bytes old middle new source after h failed false small end met gave closes refused took = traced old middle new source after Done h.served failed h.run closes (record {
  sep = refl;
  taken = record { read = bytes; lines = h.lines; rest = h.rest; unread = [] };
  gave = gave_all bytes source after gave;
  behind = omega arith;
  limit = limit_all bytes (omega (arith, small));
  cut = h.cut;
  short = h.short;
  up_to = record { small = small; all = h.all; unread = refl; end = end; met = met };
  failed = failed;
  closed = refl;
  prints = (refused, took);
})
ended_by bytes old middle new source after h failed true small end met gave closes refused took = traced old middle new source after SomeRefused h.served failed h.run closes (record {
  sep = refl;
  taken = record { read = bytes; lines = h.lines; rest = h.rest; unread = [] };
  gave = gave_all bytes source after gave;
  behind = omega arith;
  limit = limit_all bytes (omega (arith, small));
  cut = h.cut;
  short = h.short;
  up_to = record { small = small; all = h.all; unread = refl; end = end; met = met };
  failed = failed;
  closed = refl;
  prints = (refused, took);
})

ended_whole : (bytes : List ℕ) (old middle new : SiteState) (source after : SourceState) (refused : Bool) (failed : ℕ) (status : Status) → IsAllServed bytes old refused middle → length bytes < script_limit → IsAtEnd after.left → MetEnd source after
    → source.left ≡ prepend_known bytes after.left → ClosesWorld middle.world failed new.world
    → (status ≡ status_by (refused || any_refused (closing_answers failed))) × TookAll (answers_text (closing_answers failed)) middle.sink new.sink
    → Traced RunsScript (whole_of old source) status (whole_of new after)
ended_whole bytes old middle new source after refused failed status h small end met gave closes p =
    let all : Bool = refused || any_refused (closing_answers failed) in
    let text = flat_map-append text_of (answers_of h.serves.served) (closing_answers failed) in
    let took : TookAll (answers_text ((answers_of h.serves.served) ++ closing_answers failed)) old.sink new.sink = rw text (TookAll-then _ _ h.printed p.1) in
    subst (λ (s : Status). Traced RunsScript (whole_of old source) s (whole_of new after)) (sym p.0)
    (ended_by bytes old middle new source after h.serves failed all small end met gave closes (any_all (answers_of h.serves.served) failed refused h.any) took)

ended_part : (bytes : List ℕ) (old middle new : SiteState) (source after : SourceState) (refused : Bool) (failed : ℕ) → IsAllServed bytes old refused middle → length bytes < script_limit → IsAtEnd after.left → MetEnd source after
    → source.left ≡ prepend_known bytes after.left → ClosesWorld middle.world failed new.world → (1 ≤ failed) × TookPart (answers_text (closing_answers failed)) middle.sink new.sink
    → Traced RunsScript (whole_of old source) WriteFault (whole_of new after)
ended_part bytes old middle new source after refused failed h small end met gave closes p = traced old middle new source after WriteFault h.serves.served failed h.serves.run closes (record {
  sep = refl;
  taken = record { read = bytes; lines = h.serves.lines; rest = h.serves.rest; unread = [] };
  gave = gave_all bytes source after gave;
  behind = omega arith;
  limit = limit_all bytes (omega (arith, small));
  cut = h.serves.cut;
  short = h.serves.short;
  up_to = inr (record { small = small; all = h.serves.all; unread = refl; end = end; met = met });
  failed = failed;
  closed = refl;
  prints = inr (record { some = p.0; middle = middle.sink; before = h.printed; part = p.1 });
})

pub ended_script : (bytes : List ℕ) (old middle new : SiteState) (source after : SourceState) (refused : Bool) (status : Status) → IsAllServed bytes old refused middle → length bytes < script_limit → IsAtEnd after.left → MetEnd source after
    → source.left ≡ prepend_known bytes after.left → (c : ClosesAndPrints refused middle status new) → Traced RunsScript (whole_of old source) status (whole_of new after)
ended_script bytes old middle new source after refused WriteFault h small end met gave c = ended_part bytes old middle new source after refused c.failed h small end met gave c.closes c.prints
ended_script bytes old middle new source after refused Done h small end met gave c = ended_whole bytes old middle new source after refused c.failed Done h small end met gave c.closes c.prints
ended_script bytes old middle new source after refused SomeRefused h small end met gave c = ended_whole bytes old middle new source after refused c.failed SomeRefused h small end met gave c.closes c.prints
ended_script bytes old middle new source after refused BadWords h small end met gave c = ended_whole bytes old middle new source after refused c.failed BadWords h small end met gave c.closes c.prints
ended_script bytes old middle new source after refused ReadFault h small end met gave c = ended_whole bytes old middle new source after refused c.failed ReadFault h small end met gave c.closes c.prints
ended_script bytes old middle new source after refused NoMemory h small end met gave c = ended_whole bytes old middle new source after refused c.failed NoMemory h small end met gave c.closes c.prints
ended_script bytes old middle new source after refused LineTooLong h small end met gave c = ended_whole bytes old middle new source after refused c.failed LineTooLong h small end met gave c.closes c.prints
ended_script bytes old middle new source after refused ScriptTooLong h small end met gave c = ended_whole bytes old middle new source after refused c.failed ScriptTooLong h small end met gave c.closes c.prints

-- the last line was not printed
pub ended_unprinted : (bytes : List ℕ) (old middle new : SiteState) (source after : SourceState) (failed : ℕ) → IsAllUnprinted bytes old middle → length bytes < script_limit → IsAtEnd after.left → MetEnd source after
    → source.left ≡ prepend_known bytes after.left → ClosesWorld middle.world failed new.world → new.sink ≡ middle.sink → Traced RunsScript (whole_of old source) WriteFault (whole_of new after)
ended_unprinted bytes old middle new source after failed h small end met gave closes same = traced old middle new source after WriteFault h.serves.served failed h.serves.run closes (record {
  sep = refl;
  taken = record { read = bytes; lines = h.serves.lines; rest = h.serves.rest; unread = [] };
  gave = gave_all bytes source after gave;
  behind = omega arith;
  limit = limit_all bytes (omega (arith, small));
  cut = h.serves.cut;
  short = h.serves.short;
  up_to = inr (record { small = small; all = h.serves.all; unread = refl; end = end; met = met });
  failed = failed;
  closed = refl;
  prints = inl (subst (λ (s : SinkState). FailsInLast (answers_of h.serves.served) old.sink s) (sym same) h.printed);
})

-- the source failed
pub ended_failed : (bytes : List ℕ) (old middle new : SiteState) (source after : SourceState) (rest : List ℕ) (refused : Bool) (failed : ℕ) → IsTaken bytes old source rest refused middle after → length bytes < script_limit → Rose source.faults after.faults → MetRefusal source after
    → ClosesWorld middle.world failed new.world → new.sink ≡ middle.sink → Traced RunsScript (whole_of old source) ReadFault (whole_of new after)
ended_failed bytes old middle new source after rest refused failed h small rose met closes same = traced old middle new source after ReadFault h.served.serves.served failed h.served.serves.run closes (record {
  sep = refl;
  taken = record { read = bytes; lines = lines_of h.served.serves.served; rest = rest; unread = [] };
  gave = gave_all bytes source after h.gave;
  behind = omega arith;
  limit = limit_all bytes (omega (arith, small));
  cut = h.served.serves.cut;
  short = h.served.serves.short;
  up_to = (record { whole = refl; unread = refl; short = h.short }, small, rose, met);
  failed = failed;
  closed = refl;
  prints = subst (λ (s : SinkState). TookAll (answers_text (answers_of h.served.serves.served)) old.sink s) (sym same) h.served.printed;
})

-- the limit was reached
pub ended_full : (bytes : List ℕ) (old middle new : SiteState) (source after : SourceState) (rest : List ℕ) (refused : Bool) (failed : ℕ) → IsTaken bytes old source rest refused middle after → length bytes ≡ script_limit → MetNothing source after
    → ClosesWorld middle.world failed new.world → new.sink ≡ middle.sink → Traced RunsScript (whole_of old source) ScriptTooLong (whole_of new after)
ended_full bytes old middle new source after rest refused failed h full met closes same = traced old middle new source after ScriptTooLong h.served.serves.served failed h.served.serves.run closes (record {
  sep = refl;
  taken = record { read = bytes; lines = lines_of h.served.serves.served; rest = rest; unread = [] };
  gave = gave_all bytes source after h.gave;
  behind = omega arith;
  limit = limit_all bytes (omega (arith, full));
  cut = h.served.serves.cut;
  short = h.served.serves.short;
  up_to = (record { whole = refl; unread = refl; short = h.short }, full, met);
  failed = failed;
  closed = refl;
  prints = subst (λ (s : SinkState). TookAll (answers_text (answers_of h.served.serves.served)) old.sink s) (sym same) h.served.printed;
})

-- a line was too long
pub ended_long : (bytes : List ℕ) (old middle new : SiteState) (source after : SourceState) (failed : ℕ) → StopsWithin bytes old TooLong middle → length bytes ≤ script_limit → source.left ≡ prepend_known bytes after.left → MetNothing source after
    → ClosesWorld middle.world failed new.world → new.sink ≡ middle.sink → Traced RunsScript (whole_of old source) LineTooLong (whole_of new after)
ended_long bytes old middle new source after failed h limit gave met closes same = traced old middle new source after LineTooLong h.stops.served.serves.served failed h.stops.served.serves.run closes (record {
  sep = refl;
  taken = record { read = h.read; lines = lines_of h.stops.served.serves.served; rest = h.stops.rest; unread = h.unread };
  gave = subst (λ (l : List ℕ). source.left ≡ prepend_known l after.left) h.whole gave;
  behind = h.few;
  limit = subst (λ (l : List ℕ). length l ≤ script_limit) h.whole limit;
  cut = h.stops.served.serves.cut;
  short = h.stops.served.serves.short;
  up_to = (refl, h.stops.long, met);
  failed = failed;
  closed = refl;
  prints = subst (λ (s : SinkState). TookAll (answers_text (answers_of h.stops.served.serves.served)) old.sink s) (sym same) h.stops.served.printed;
})

-- a reply was not printed
pub ended_broken : (bytes : List ℕ) (old middle new : SiteState) (source after : SourceState) (failed : ℕ) → StopsWithin bytes old Unprinted middle → length bytes ≤ script_limit → source.left ≡ prepend_known bytes after.left → MetNothing source after
    → ClosesWorld middle.world failed new.world → new.sink ≡ middle.sink → Traced RunsScript (whole_of old source) WriteFault (whole_of new after)
ended_broken bytes old middle new source after failed h limit gave met closes same =
    let failed_last = subst (λ (s : SinkState). FailsInLast (answers_of h.stops.serves.served) old.sink s) (sym same) h.stops.printed in
    traced old middle new source after WriteFault h.stops.serves.served failed h.stops.serves.run closes (record {
      sep = refl;
      taken = record { read = h.read; lines = lines_of h.stops.serves.served; rest = []; unread = h.unread };
      gave = subst (λ (l : List ℕ). source.left ≡ prepend_known l after.left) h.whole gave;
      behind = h.few;
      limit = subst (λ (l : List ℕ). length l ≤ script_limit) h.whole limit;
      cut = h.stops.serves.cut;
      short = h.stops.serves.short;
      up_to = inl (refl, refl, failed_last, met);
      failed = failed;
      closed = refl;
      prints = inl failed_last;
    })

-- ---- the refusals of the closing

failures_text-add : (n m : ℕ) → answers_text (closing_answers (n + m)) ≡ answers_text (closing_answers n) ++ answers_text (closing_answers m)
failures_text-add n m =
    ap answers_text (sym (replicate-append-replicate n m (Some (answers.Refused refusals.DeviceFault))))
    ∙ flat_map-append text_of (closing_answers n) (closing_answers m)

failures_text-one : answers_text (closing_answers 1) ≡ answer_text (answers.Refused refusals.DeviceFault)
failures_text-one = append-nil _

pub failures_text-more : (n : ℕ) → answers_text (closing_answers (n + 1)) ≡ answers_text (closing_answers n) ++ answer_text (answers.Refused refusals.DeviceFault)
failures_text-more n = failures_text-add n 1 ∙ ap (λ (l : List ℕ). answers_text (closing_answers n) ++ l) failures_text-one

any_failed : (n : ℕ) → any_refused (closing_answers n) ≡ nat_lt 0 n
any_failed zero = refl
any_failed (suc n) = grind (arith, nat_tests)

pub failures-refuse : (refused : Bool) (n : ℕ) → (refused || nat_lt 0 n) ≡ (refused || any_refused (closing_answers n))
failures-refuse refused n = ap (λ (b : Bool). refused || b) (sym (any_failed n))

pub failures_text-split : (i n : ℕ) → i < n
    → answers_text (closing_answers n) ≡ (answers_text (closing_answers i) ++ answer_text (answers.Refused refusals.DeviceFault)) ++ answers_text (closing_answers (n - (i + 1)))
failures_text-split i n small =
    let whole : n ≡ i + 1 + (n - (i + 1)) = omega arith in
    ap (λ (k : ℕ). answers_text (closing_answers k)) whole ∙ failures_text-add (i + 1) (n - (i + 1))
    ∙ ap (λ (l : List ℕ). l ++ answers_text (closing_answers (n - (i + 1)))) (failures_text-more i)

pub prints_closing : (refused : Bool) (failed : ℕ) (old new : SinkState) (all : Bool) → all ≡ (refused || any_refused (closing_answers failed)) → TookAll (answers_text (closing_answers failed)) old new
    → PrintsClosing refused failed old (status_by all) new
prints_closing refused failed old new false is took = (ap status_by is, took)
prints_closing refused failed old new true is took = (ap status_by is, took)

pub no_bytes : (line : List ℕ) → length line ≡ 0 → line ≡ []
no_bytes [] none = refl
no_bytes (b ∷ bs) none = absurd (omega arith)
