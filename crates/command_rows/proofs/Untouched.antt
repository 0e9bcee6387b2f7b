-- A line changes only the drawer that it names, or takes it out.
use Rattle.std.proofs.Common.{◌≡◌, ℕ, zero, suc, List, [], ◌∷◌, refl, ap, Bool, Option, None, Some, slice_get, subst, sym, MatchOption, option_and_then}
use Rattle.std.proofs.Math.ListN.{set}
use Rattle.command_rows.specs.Histories.{ChangesBy, LeavesAt, OnlyAt, OnlySteps, StepsAt}
use Rattle.command_rows.specs.Rows.{Answer, World, place_of}
use Rattle.command_rows.specs.Turn.{ChangesAt, Serves, TakesOutDrawer, Turn, reach}
use Rattle.command_rows.specs.Vocabulary.{Command, Span, bytes_at, provider_of}
use Rattle.command_rows.proofs.Lines.{line_did}
use Rattle.command_rows.proofs.Turns.{by_turn}

pub get-set : {X : Type 0} (xs : List X) (place : ℕ) (x y : X) → slice_get xs place ≡ Some x → slice_get (set xs place y) place ≡ Some y
get-set [] place x y h = absurd (let no : ⊥ = cc h in no)
get-set (z ∷ xs) zero x y h = refl
get-set (z ∷ xs) (suc place) x y h = get-set xs place x y h

pub get-set_other : {X : Type 0} (xs : List X) (place n : ℕ) (y : X) → (place ≡ n → ⊥) → slice_get (set xs place y) n ≡ slice_get xs n
get-set_other [] place n y other = refl
get-set_other (x ∷ xs) zero zero y other = absurd (other refl)
get-set_other (x ∷ xs) zero (suc n) y other = refl
get-set_other (x ∷ xs) (suc place) zero y other = refl
get-set_other (x ∷ xs) (suc place) (suc n) y other = get-set_other xs place n y (λ same. other (ap suc same))

changed_at : (line : List ℕ) (command : Command) (answer : Answer) (old new : World) (place : ℕ) → ChangesAt (Serves line command) old answer new place → StepsAt line command answer old.drawers new.drawers place
changed_at line command answer old new place h =
    let d = line_did line command (reach h.before old) answer (reach h.after new) h.step in
    record {
      before = h.before;
      found = h.found;
      after = h.after;
      others = h.others;
      steps = record { name = h.name; events = d.events; logs = d.logs; of_line = d.are };
    }

left_at : (answer : Answer) (old new : World) (place : ℕ) → TakesOutDrawer old answer new place → LeavesAt answer old.drawers new.drawers place
left_at answer old new place h = record { before = h.before; found = h.found; done = h.done; others = ap (λ (w : World). w.drawers) h.left }

-- the place of the drawer that is named, if one is
only_at : (line : List ℕ) (command : Command) (answer : Answer) (old new : World) (named : Option Span) → MatchOption named (new.drawers ≡ old.drawers) (λ prov. OnlyAt line command answer old.drawers new.drawers (place_of (bytes_at line prov) old.drawers))
    → OnlyAt line command answer old.drawers new.drawers (option_and_then (λ prov. place_of (bytes_at line prov) old.drawers) named)
only_at line command answer old new None h = h
only_at line command answer old new (Some prov) h = h

pub turn_only_steps : (line : List ℕ) (command : Command) (old : World) (answer : Answer) (new : World) → Turn line command old answer new → OnlySteps line command answer old.drawers new.drawers
turn_only_steps line command old answer new h =
    only_at line command answer old new (provider_of command)
    (by_turn line command old answer new (new.drawers ≡ old.drawers) (OnlyAt line command answer old.drawers new.drawers) (λ lists. ap (λ (w : World). w.drawers) lists.unchanged) (λ unknown. ap (λ (w : World). w.drawers) unknown.unchanged)
    (λ place is left. subst (λ (out : Bool). ChangesBy out line command answer old.drawers new.drawers place) (sym is) (left_at answer old new place left))
    (λ place is changed. subst (λ (out : Bool). ChangesBy out line command answer old.drawers new.drawers place) (sym is) (changed_at line command answer old new place changed)) h)
