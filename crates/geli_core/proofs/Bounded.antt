-- What a run prints about failures is counted by what failed, also by the closing of the drawers.
use Rattle.std.proofs.Common.{◌≡◌, ◌∙◌, ◌⊎◌, inl, inr, ℕ, ◌+◌, ◌-◌, ◌≤◌, zero, suc, List, [], ◌∷◌, refl, ap, sym, subst, arith, Bool, true, false, cond, Option, None, Some, slice_get, ◌<◌, ◌^◌}
use Rattle.std.specs.Option.{option_map}
use Rattle.std.specs.Str.{bytes_eq}
use Rattle.command_rows.specs.Rows.{Answer, DrawerState, NamesDiffer, World, is_idle, place_of}
use Rattle.command_rows.specs.Vocabulary.{CabinetState, DiskState, EntropyState, Rose}
use Rattle.shelf.specs.Closing.{Flushes}
use Rattle.geli_core.specs.Bounded.{CountsAll, RisesToExit}
use Rattle.geli_core.specs.Trace.{ClosesBy, IsTrace, Trace, answers_of, world_behind}
use Rattle.geli_core.specs.Bounds.{CountsOutside, RisesNamed, RisesUntilOut, RoseBy, device_faults, how_many, is_cabinet_fault, is_entropy_fault, is_miss}
use Rattle.geli_core.specs.Vocabulary.{Closes, ClosesAs, ClosesWorld, Closing, failures}
use Rattle.geli_core.proofs.Bounding.{closes_with_failures}
use Rattle.geli_core.proofs.Counting.{run_rises_or}
use Rattle.geli_core.proofs.Drawn.{same_some}
use Rattle.geli_core.proofs.OutsideCounts.{run_counts}

-- ---- drawers that are closed

flushed_later : (failed : Bool) (old new : DiskState) → Flushes failed old new → old.faults ≤ new.faults
flushed_later false old new h = h.faults
flushed_later true old new h = h.logs.faults

closed_one : (idle : Bool) (old : DrawerState) (failed : Bool) (new : DrawerState) → ClosesAs idle old failed new → (new.name ≡ old.name) × (old.disk.faults ≤ new.disk.faults)
closed_one true old failed new h = (ap (λ (d : DrawerState). d.name) h.1, rw h.1 (omega arith))
closed_one false old failed new h = (ap (λ (d : DrawerState). d.name) h.1, flushed_later failed old.disk new.disk h.0)

record ClosedAt (before : DrawerState) (drawers : List DrawerState) (place : ℕ) : Type 0 where
  failed : Bool
  after : DrawerState
  there : slice_get drawers place ≡ Some after
  closes : Closes before failed after
  later : before.disk.faults ≤ after.disk.faults

closing_at : (olds : List DrawerState) (count : ℕ) (news : List DrawerState) (place : ℕ) (before : DrawerState) → Closing olds count news → slice_get olds place ≡ Some before → ClosedAt before news place
closing_at [] count news place before h found = absurd (let none : ⊥ = cc found in none)
closing_at (d ∷ ds) count news zero before h found =
    subst (λ (l : List DrawerState). ClosedAt before l zero) (sym h.7) (record {
      failed = h.0;
      after = h.1;
      there = refl;
      closes = subst (λ (x : DrawerState). Closes x h.0 h.1) (same_some d before found) h.4;
      later = subst (λ (x : DrawerState). x.disk.faults ≤ h.1.disk.faults) (same_some d before found) (closed_one (is_idle d.holding) d h.0 h.1 h.4).1;
    })
closing_at (d ∷ ds) count news (suc place) before h found =
    let c = closing_at ds h.2 h.3 place before h.5 found in
    subst (λ (l : List DrawerState). ClosedAt before l (suc place)) (sym h.7) (record { failed = c.failed; after = c.after; there = c.there; closes = c.closes; later = c.later })

same_place : (name one other : List ℕ) (x y : Option ℕ) → one ≡ other → x ≡ y → cond (bytes_eq one name) (Some 0) (option_map (λ n. n + 1) x) ≡ cond (bytes_eq other name) (Some 0) (option_map (λ n. n + 1) y)
same_place name one other x y names places =
    ap (λ (s : List ℕ). cond (bytes_eq s name) (Some 0) (option_map (λ n. n + 1) x)) names ∙ ap (λ (o : Option ℕ). cond (bytes_eq other name) (Some 0) (option_map (λ n. n + 1) o)) places

closing_place : (name : List ℕ) (olds : List DrawerState) (count : ℕ) (news : List DrawerState) → Closing olds count news → place_of name news ≡ place_of name olds
closing_place name [] count news h = ap (place_of name) h.1
closing_place name (d ∷ ds) count news h =
    ap (place_of name) h.7 ∙ same_place name h.1.name d.name (place_of name h.3) (place_of name ds) (closed_one (is_idle d.holding) d h.0 h.1 h.4).0 (closing_place name ds h.2 h.3 h.5)

-- ---- the counts at last

outside_closed : (answers : List (Option Answer)) (closing : Option ℕ) (entry behind exit : World) → ClosesBy closing behind exit → CountsOutside answers entry behind → CountsOutside answers entry exit
outside_closed answers None entry behind exit h c = subst (λ (w : World). CountsOutside answers entry w) (sym h) c
outside_closed answers (Some failed) entry behind exit h c = record {
  cabinet = subst (λ (x : CabinetState). RoseBy (how_many is_cabinet_fault answers) entry.cabinet.faults x.faults) (sym h.cabinet) c.cabinet;
  misses = subst (λ (x : CabinetState). RoseBy (how_many is_miss answers) entry.cabinet.misses x.misses) (sym h.cabinet) c.misses;
  entropy = subst (λ (x : EntropyState). RoseBy (how_many is_entropy_fault answers) entry.entropy.faults x.faults) (sym h.entropy) c.entropy;
}

flush_rose : (failed : Bool) (old new : DiskState) → Flushes failed old new → failed ≡ true → Rose old.faults new.faults
flush_rose false old new h is = absurd (let none : ⊥ = cc is in none)
flush_rose true old new h is = h.rose

-- if the closing of a drawer failed, its disk's count rose
closing_rose : (idle : Bool) (old : DrawerState) (failed : Bool) (new : DrawerState) → ClosesAs idle old failed new → failed ≡ true → Rose old.disk.faults new.disk.faults
closing_rose true old failed new h is = absurd (let none : ⊥ = cc (h.0, is) in none)
closing_rose false old failed new h is = flush_rose failed old.disk new.disk h.0 is

with_closing : (failed : Bool) (many before middle now : ℕ) → middle ≤ now → (failed ≡ true → Rose middle now) → (middle < 2 ^ 64 - 1 → before + many ≤ middle) → now < 2 ^ 64 - 1 → before + (many + failures failed) ≤ now
with_closing false many before middle now later rose bound small = let s = bound (omega (arith, later, small)) in omega (arith, s, later)
with_closing true many before middle now later rose bound small = let s = bound (omega (arith, later, small)) in let r = rose refl in omega (arith, s, r, small)

nothing_closed : (many : ℕ) (before : DrawerState) (name : List ℕ) (behind exit : World) → exit ≡ behind → RisesNamed many before name behind → RisesToExit None many before name behind exit
nothing_closed many before name behind exit same r = record {
  place = r.place;
  named = ap (λ (w : World). place_of name w.drawers) same ∙ r.named;
  last = r.rises.after;
  was = r.rises.there;
  failed = false;
  rises = record {
    after = r.rises.after;
    there = ap (λ (w : World). slice_get w.drawers r.place) same ∙ r.rises.there;
    later = r.rises.later;
    bound = λ small. (let s = r.rises.bound small in omega (arith, s));
  };
  closes = (refl, refl);
}

rises_closed : (many : ℕ) (before : DrawerState) (name : List ℕ) (behind : World) (count : ℕ) (exit : World) → ClosesWorld behind count exit → RisesNamed many before name behind → RisesToExit (Some count) many before name behind exit
rises_closed many before name behind count exit h r =
    let c = closing_at behind.drawers count exit.drawers r.place r.rises.after h.drawers r.rises.there in
    let l1 = r.rises.later in
    let l2 = c.later in
    record {
      place = r.place;
      named = closing_place name behind.drawers count exit.drawers h.drawers ∙ r.named;
      last = r.rises.after;
      was = r.rises.there;
      failed = c.failed;
      rises = record {
        after = c.after;
        there = c.there;
        later = omega (arith, l1, l2);
        bound = λ small. with_closing c.failed many before.disk.faults r.rises.after.disk.faults c.after.disk.faults c.later (closing_rose (is_idle r.rises.after.holding) r.rises.after c.failed c.after c.closes) r.rises.bound small;
      };
      closes = c.closes;
    }

rises_to : (closing : Option ℕ) (many : ℕ) (before : DrawerState) (name : List ℕ) (behind exit : World) → ClosesBy closing behind exit → RisesNamed many before name behind → RisesToExit closing many before name behind exit
rises_to None many before name behind exit h r = nothing_closed many before name behind exit h r
rises_to (Some count) many before name behind exit h r = rises_closed many before name behind count exit h r

disk_closed : (closing : Option ℕ) (many : ℕ) (before : DrawerState) (name : List ℕ) (behind exit : World) (Out : Type 0) → ClosesBy closing behind exit → RisesNamed many before name behind ⊎ Out → RisesToExit closing many before name behind exit ⊎ Out
disk_closed closing many before name behind exit Out h (inl r) = inl (rises_to closing many before name behind exit h r)
disk_closed closing many before name behind exit Out h (inr r) = inr r

pub counts_all : (entry exit : World) (trace : Trace) → IsTrace entry trace exit → NamesDiffer entry.drawers → CountsAll entry trace exit
counts_all entry exit trace h differ =
    let behind : World = world_behind entry trace.lines in
    record {
      outside = outside_closed (answers_of trace.lines) trace.closing entry behind exit h.closes (run_counts trace.sep trace.lines entry behind (h.served, refl));
      closing = closes_with_failures entry exit trace h;
      disks = λ name place before stands found.
          disk_closed trace.closing (device_faults trace.sep name trace.lines) before name behind exit (RisesUntilOut trace.sep entry trace.lines (device_faults trace.sep name trace.lines) before name) h.closes
          (run_rises_or trace.sep trace.lines entry behind name place before (h.served, refl) differ stands found);
    }
