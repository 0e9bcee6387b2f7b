-- What is attached on a drawer has a keying that a provider may have, whatever lines are served.
use Rattle.std.proofs.Common.{◌≡◌, ◌∙◌, ◌⊎◌, inl, inr, ℕ, zero, suc, List, [], ◌∷◌, ap, sym, subst, Option, None, Some, Result, Ok, Err, slice_get}
use Rattle.std.specs.List.{remove}
use Rattle.std.proofs.Math.ListN.{set}
use Rattle.command_rows.specs.Rows.{Answer, DrawerState, HoldKeyings, HoldsKeying, IsAmong, World}
use Rattle.command_rows.specs.Vocabulary.{Command}
use Rattle.command_rows.proofs.Turns.{by_each_turn}
use Rattle.command_rows.proofs.Untouched.{get-set, get-set_other}
use Rattle.command_rows.proofs.LineCounts.{serves_sound}
use Rattle.geli_core.specs.Run.{ServesLine, ServesReading}
use Rattle.geli_core.specs.Vocabulary.{ChangesAt, Sep, Serves, TakesOutDrawer, Turn, Usage, line_reading, reach}
use Rattle.geli_core.proofs.Drawn.{here_or, same_some}

-- what is there when another was taken out was there before
pub among_removed : (drawers : List DrawerState) (place : ℕ) (drawer : DrawerState) → IsAmong (remove drawers place) drawer → IsAmong drawers drawer
among_removed [] zero drawer h = h
among_removed [] (suc place) drawer h = h
among_removed (d ∷ ds) zero drawer h = (suc h.0, h.1)
among_removed (d ∷ ds) (suc place) drawer (zero, is) = (0, is)
among_removed (d ∷ ds) (suc place) drawer (suc n, is) =
    let behind = among_removed ds place drawer (n, is) in
    (suc behind.0, behind.1)

-- what holds of each drawer, if one changed and it holds of that one then
pub put_back : (P : DrawerState → Type 0) (drawers : List DrawerState) (place n : ℕ) (before after drawer : DrawerState) → ((d : DrawerState) → IsAmong drawers d → P d) → P after → slice_get drawers place ≡ Some before
    → slice_get (set drawers place after) n ≡ Some drawer → (place ≡ n) ⊎ (place ≡ n → ⊥) → P drawer
put_back P drawers place n before after drawer all one found there (inl here) =
    let same : after ≡ drawer = same_some after drawer (sym (get-set drawers place before after found) ∙ ap (slice_get (set drawers place after)) here ∙ there) in
    subst P same one
put_back P drawers place n before after drawer all one found there (inr other) = all drawer (n, sym (get-set_other drawers place n after other) ∙ there)

changed_keeps : (line : List ℕ) (command : Command) (old : World) (said : Answer) (new : World) (place : ℕ) → ChangesAt (Serves line command) old said new place → HoldKeyings old.drawers → HoldKeyings new.drawers
changed_keeps line command old said new place h all drawer there =
    let one = (serves_sound line command (reach h.before old) said (reach h.after new) h.step).keeps (all h.before (place, h.found)) in
    put_back (λ d. HoldsKeying d.holding) old.drawers place there.0 h.before h.after drawer all one h.found (ap (λ (ds : List DrawerState). slice_get ds there.0) (sym h.others) ∙ there.1) (here_or place there.0)

all_stay : (old new : World) → new ≡ old → HoldKeyings old.drawers → HoldKeyings new.drawers
all_stay old new is all = rw is all

others_keep : (old : World) (said : Answer) (new : World) (place : ℕ) → TakesOutDrawer old said new place → HoldKeyings old.drawers → HoldKeyings new.drawers
others_keep old said new place h all = λ drawer there.
    all drawer (among_removed old.drawers place drawer (there.0, ap (λ (w : World). slice_get w.drawers there.0) (sym h.left) ∙ there.1))

turn_keeps : (line : List ℕ) (command : Command) (old : World) (said : Answer) (new : World) → Turn line command old said new → HoldKeyings old.drawers → HoldKeyings new.drawers
turn_keeps line command old said new h =
    by_each_turn line command old said new (HoldKeyings old.drawers → HoldKeyings new.drawers) (λ lists. all_stay old new lists.unchanged) (λ unknown. all_stay old new unknown.unchanged)
    (λ place left. others_keep old said new place left) (λ place changed. changed_keeps line command old said new place changed) h

reading_keeps : (read : Result (Option Command) Usage) (line : List ℕ) (old : World) (answer : Option Answer) (new : World) → ServesReading read line old answer new → HoldKeyings old.drawers → HoldKeyings new.drawers
reading_keeps (Err usage) line old answer new h all = all_stay old new h.1 all
reading_keeps (Ok None) line old answer new h all = all_stay old new h.1 all
reading_keeps (Ok (Some command)) line old None new h all = absurd h
reading_keeps (Ok (Some command)) line old (Some said) new h all = turn_keeps line command old said new h all

-- what is attached after a line has a keying that a provider may have, if that was so before
pub line_keeps : (sep : Sep) (line : List ℕ) (old : World) (answer : Option Answer) (new : World) → ServesLine sep line old answer new → HoldKeyings old.drawers → HoldKeyings new.drawers
line_keeps sep line old answer new h all = reading_keeps (line_reading sep line) line old answer new h all
