-- All that is said of a run follows from its trace, and from what is attached at entry.
use Rattle.std.proofs.Common.{List, [], ◌∷◌, ◌++◌, refl, ℕ}
use Rattle.command_rows.specs.Rows.{HoldKeyings, NamesDiffer, World}
use Rattle.geli_core.specs.Complete.{Completes}
use Rattle.geli_core.specs.Histories.{KeepsDrawers}
use Rattle.geli_core.specs.Lawful.{LineHolds, RunsLawfully}
use Rattle.geli_core.specs.Script.{Ends, StatusHasCause, Runs, Whole}
use Rattle.geli_core.specs.Served.{Traced}
use Rattle.geli_core.specs.Suspensions.{AreSuspended}
use Rattle.geli_core.specs.Trace.{EachLine, EachServed, Run, ServedLine}
use Rattle.geli_core.specs.Vocabulary.{Sep, line_reading}
use Rattle.run_status.specs.declared.status.Status.{Status}
use Rattle.geli_core.proofs.Bounded.{counts_all}
use Rattle.geli_core.proofs.Causes.{runs_caused, runs_end}
use Rattle.geli_core.proofs.Completing.{runs_complete}
use Rattle.geli_core.proofs.Drawn.{trace_grew}
use Rattle.geli_core.proofs.Keyings.{line_keeps}
use Rattle.geli_core.proofs.LineLaws.{line_laws}
use Rattle.geli_core.proofs.Placing.{each_survives, run_survives}
use Rattle.geli_core.proofs.ReadsBack.{reads_line}
use Rattle.geli_core.proofs.Running.{Run-more}
use Rattle.geli_core.proofs.Suspensions.{entry_suspends, line_suspends, resumes_line}
use Rattle.geli_core.proofs.Sweeps.{each_begins}

-- ---- the lines

each_line : (sep : Sep) (entry : World) (served : List ServedLine) (start : World) (lines : List ServedLine) → Run sep entry served start → EachServed sep start lines → HoldKeyings entry.drawers → HoldKeyings start.drawers → AreSuspended sep entry served start
    → EachLine (LineHolds sep entry) served start lines
each_line sep entry served start [] run each keyed here suspended = tt
each_line sep entry served start (l ∷ lines) run each keyed here suspended =
    let more : Run sep entry (served ++ l ∷ []) l.next = Run-more sep entry start served l run each.0 in
    let behind : AreSuspended sep entry (served ++ l ∷ []) l.next = line_suspends sep entry served start l run.1 each.0 suspended in (
      record {
        laws = line_laws sep l.line start l.answer l.next each.0;
        reads = reads_line sep entry served start l.next (line_reading sep l.line) l.line l.answer run keyed here each.0;
        resumes = resumes_line sep entry served start (line_reading sep l.line) l.line l.answer l.next each.0 suspended;
        drawers = record { survivors = each_survives sep (served ++ l ∷ []) entry l.next more keyed; suspended = behind };
      },
      each_line sep entry (served ++ l ∷ []) l.next lines more each.1 keyed (line_keeps sep l.line start l.answer l.next each.0 here) behind,
    )

-- ---- a run

pub runs_lawfully : (words : List (List ℕ)) (old new : Whole) (status : Status) → Traced (Runs words) old status new → HoldKeyings old.world.drawers → NamesDiffer old.world.drawers → RunsLawfully words old status new
runs_lawfully words old new status h keyed differ =
    let entry : World = old.world in
    let sep : Sep = h.trace.sep in
    let nothing : Run sep entry [] entry = (tt, refl) in
    let suspended : AreSuspended sep entry [] entry = entry_suspends sep entry in
    record {
      trace = h.trace;
      is_trace = h.is_trace;
      runs = h.runs;
      entry = record { survivors = each_survives sep [] entry entry nothing keyed; suspended = suspended };
      lines = each_line sep entry [] entry h.trace.lines nothing h.is_trace.served keyed keyed suspended;
      exit = run_survives entry new.world h.trace h.is_trace keyed;
      counts = counts_all entry new.world h.trace h.is_trace differ;
      sweeps = λ course. each_begins course sep entry h.trace.lines h.is_trace.served;
    }

-- ---- what follows of it

pub run_caused : (words : List (List ℕ)) (old new : Whole) (status : Status) → RunsLawfully words old status new → StatusHasCause status old new
run_caused words old new status h = runs_caused words old new h.trace status h.runs

pub run_ends : (words : List (List ℕ)) (old new : Whole) (status : Status) → RunsLawfully words old status new → Ends words status
run_ends words old new status h = runs_end words old new h.trace status h.runs

pub run_completes : (words : List (List ℕ)) (old new : Whole) (status : Status) (h : RunsLawfully words old status new) → Completes words old h.trace status new
run_completes words old new status h = runs_complete words old new h.trace status h.runs

pub run_keeps_drawers : (words : List (List ℕ)) (old new : Whole) (status : Status) (h : RunsLawfully words old status new) → KeepsDrawers old.world h.trace new.world
run_keeps_drawers words old new status h = trace_grew old.world new.world h.trace h.is_trace
