-- What a run does to each drawer.
use Rattle.std.proofs.Common.{◌≡◌, ◌∙◌, ◌⊎◌, inl, inr, ℕ, ◌+◌, zero, suc, List, [], ◌∷◌, ◌++◌, take, refl, ap, sym, subst, arith, Bool, true, false, cond, Option, None, Some, Result, Ok, Err, slice_get, ◌&&◌, ◌||◌, option_and_then}
use Rattle.std.specs.List.{AllByRecursion, list_any, remove}
use Rattle.std.proofs.Math.ListN.{set}
use Rattle.std.specs.Option.{option_map}
use Rattle.std.specs.Str.{bytes_eq}
use Rattle.block_traits.specs.declared.disk.Event.TheVariants.{Flush}
use Rattle.block_traits.proofs.Logs.{Logs-nothing, Logs-then}
use Rattle.command_rows.specs.Rows.{Answer, DrawerState, World, is_idle, place_of}
use Rattle.command_rows.specs.Vocabulary.{Command, DiskState, Event, Logs, Span, bytes_at, provider_of}
use Rattle.reply_text.specs.Answer as answers
use Rattle.shelf.specs.Closing.{Flushes}
use Rattle.command_rows.proofs.Untouched.{get-set, get-set_other, turn_only_steps}
use Rattle.geli_core.specs.Histories.{DrawerSteps, EachGrew, Grew, KeepsDrawers, RunsAt, TakesDrawer, ejected, ejects, is_done, names, names_by, says_eject, says_name}
use Rattle.geli_core.specs.Run.{ServesLine, ServesReading}
use Rattle.geli_core.specs.Trace.{ClosesBy, IsTrace, Run, ServedLine, Trace, world_behind}
use Rattle.geli_core.specs.Vocabulary.{ChangesBy, ClosesAs, Closing, OnlyAt, Sep, StepsAt, Usage, line_reading, place_named, takes_out}

-- ---- the drawer at a place

pub same_some : {X : Type 0} (a b : X) → Some a ≡ Some b → a ≡ b
same_some a b h = cc h

suc_or : (a b : ℕ) → (a ≡ b) ⊎ (a ≡ b → ⊥) → (suc a ≡ suc b) ⊎ (suc a ≡ suc b → ⊥)
suc_or a b (inl is) = inl (ap suc is)
suc_or a b (inr other) = inr (λ h. other (let p : a ≡ b = omega (arith, h) in p))

pub here_or : (a b : ℕ) → (a ≡ b) ⊎ (a ≡ b → ⊥)
here_or zero zero = inl refl
here_or zero (suc b) = inr (λ h. (let none : ⊥ = omega (arith, h) in none))
here_or (suc a) zero = inr (λ h. (let none : ⊥ = omega (arith, h) in none))
here_or (suc a) (suc b) = suc_or a b (here_or a b)

-- the drawer at the place of a name has that name
named_more : (same : Bool) (place : Option ℕ) (n : ℕ) → cond same (Some 0) (option_map (λ k. k + 1) place) ≡ Some n → ((same ≡ true) × (n ≡ 0)) ⊎ ((k : ℕ) × (place ≡ Some k) × (n ≡ suc k))
named_more true place n h = inl (refl, sym (same_some 0 n h))
named_more false None n h = absurd (let none : ⊥ = cc h in none)
named_more false (Some k) n h = inr (k, refl, (let p : k + 1 ≡ n = same_some (k + 1) n h in omega (arith, p)))

has_name : (name : List ℕ) (drawers : List DrawerState) (n : ℕ) (d : DrawerState) → place_of name drawers ≡ Some n → slice_get drawers n ≡ Some d → bytes_eq d.name name ≡ true
has_name name [] n d h there = absurd (let none : ⊥ = cc h in none)
has_name name (drawer ∷ drawers) n d h there =
    elim (named_more (bytes_eq drawer.name name) (place_of name drawers) n h) [
      | inl here ↦
          let first : Some drawer ≡ Some d = subst (λ (m : ℕ). slice_get (drawer ∷ drawers) m ≡ Some d) here.1 there in
          subst (λ (x : DrawerState). bytes_eq x.name name ≡ true) (same_some drawer d first) here.0
      | inr more ↦ has_name name drawers more.0 d more.1 (subst (λ (m : ℕ). slice_get (drawer ∷ drawers) m ≡ Some d) more.2 there)
    ]

pub named_at : (line : List ℕ) (drawers : List DrawerState) (prov : Option Span) (n : ℕ) (d : DrawerState) → option_and_then (λ p. place_of (bytes_at line p) drawers) prov ≡ Some n → slice_get drawers n ≡ Some d
    → names_by prov line d.name ≡ true
named_at line drawers None n d h there = absurd (let none : ⊥ = cc h in none)
named_at line drawers (Some prov) n d h there = has_name (bytes_at line prov) drawers n d h there

-- ---- one line

record LineAt (sep : Sep) (line : List ℕ) (answer : Option Answer) (before : DrawerState) (drawers : List DrawerState) : Type 0 where
  place : ℕ
  after : DrawerState
  there : slice_get drawers place ≡ Some after
  events : List Event
  steps : DrawerSteps sep line answer before events after

-- the drawer stands in the new list, or the line takes it out
abbrev LineOn : Sep → List ℕ → Option Answer → DrawerState → List DrawerState → Type 0
LineOn sep line answer before drawers = LineAt sep line answer before drawers ⊎ TakesDrawer sep line answer before

stays_at : (sep : Sep) (line : List ℕ) (answer : Option Answer) (before : DrawerState) (old new : List DrawerState) (n k : ℕ) → slice_get old n ≡ Some before → slice_get new k ≡ slice_get old n → LineOn sep line answer before new
stays_at sep line answer before old new n k found same = inl (record { place = k; after = before; there = same ∙ found; events = []; steps = inl (refl, refl) })

stepped : (sep : Sep) (line : List ℕ) (command : Command) (said : Answer) (before : DrawerState) (old new : List DrawerState) (n : ℕ) → line_reading sep line ≡ Ok (Some command) → slice_get old n ≡ Some before
    → place_named line command old ≡ Some n → StepsAt line command said old new n → LineAt sep line (Some said) before new
stepped sep line command said before old new n asked found place h =
    let is : h.before ≡ before = same_some h.before before (sym h.found ∙ found) in
    let named : names_by (provider_of command) line before.name ≡ true = named_at line old (provider_of command) n before place found in
    subst (λ (d : DrawerState). LineAt sep line (Some said) d new) is (record {
      place = n;
      after = h.after;
      there = rw h.others (get-set old n h.before h.after h.found);
      events = h.steps.events;
      steps = inr (record {
        command = command;
        asked = asked;
        named = ap (λ (r : Result (Option Command) Usage). says_name r line h.before.name) asked ∙ subst (λ (d : DrawerState). names_by (provider_of command) line d.name ≡ true) (sym is) named;
        said = said;
        answered = refl;
        name = h.steps.name;
        logs = h.steps.logs;
        of_line = h.steps.of_line;
      });
    })

both_true : (a b : Bool) → a ≡ true → b ≡ true → (a && b) ≡ true
both_true true b p q = q
both_true false b p q = absurd (let none : ⊥ = cc p in none)

-- a line that takes the drawer at a place out
taken_at : (sep : Sep) (line : List ℕ) (command : Command) (said : Answer) (before : DrawerState) (old : List DrawerState) (n : ℕ) → line_reading sep line ≡ Ok (Some command) → takes_out command ≡ true → slice_get old n ≡ Some before
    → place_named line command old ≡ Some n → said ≡ answers.Done → TakesDrawer sep line (Some said) before
taken_at sep line command said before old n asked out found place done =
    let named : names_by (provider_of command) line before.name ≡ true = named_at line old (provider_of command) n before place found in
    record {
      ejected = ap (λ (r : Result (Option Command) Usage). says_eject r line before.name) asked ∙ both_true (takes_out command) (names_by (provider_of command) line before.name) out named;
      named = ap (λ (r : Result (Option Command) Usage). says_name r line before.name) asked ∙ named;
      done = ap Some done;
    }

-- what stands at another place is still in the list
get-removed : {X : Type 0} (xs : List X) (place n : ℕ) → (place ≡ n → ⊥) → (k : ℕ) × (slice_get (remove xs place) k ≡ slice_get xs n)
get-removed [] zero n other = (n, refl)
get-removed [] (suc place) n other = (n, refl)
get-removed (x ∷ xs) zero zero other = absurd (other refl)
get-removed (x ∷ xs) zero (suc n) other = (n, refl)
get-removed (x ∷ xs) (suc place) zero other = (0, refl)
get-removed (x ∷ xs) (suc place) (suc n) other =
    let r = get-removed xs place n (λ same. other (ap suc same)) in
    (suc r.0, r.1)

changed_on : (sep : Sep) (line : List ℕ) (command : Command) (said : Answer) (before : DrawerState) (old new : List DrawerState) (n place : ℕ) (out : Bool) → takes_out command ≡ out → line_reading sep line ≡ Ok (Some command)
    → slice_get old n ≡ Some before → place_named line command old ≡ Some place → ChangesBy out line command said old new place → (place ≡ n) ⊎ (place ≡ n → ⊥) → LineOn sep line (Some said) before new
changed_on sep line command said before old new n place true is asked found at h (inl here) =
    inr (taken_at sep line command said before old n asked is found (at ∙ ap Some here) h.done)
changed_on sep line command said before old new n place true is asked found at h (inr other) =
    let r = get-removed old place n other in
    stays_at sep line (Some said) before old new n r.0 found (ap (λ (l : List DrawerState). slice_get l r.0) h.others ∙ r.1)
changed_on sep line command said before old new n place false is asked found at h (inl here) =
    inl (stepped sep line command said before old new n asked found (at ∙ ap Some here) (subst (λ (k : ℕ). StepsAt line command said old new k) here h))
changed_on sep line command said before old new n place false is asked found at h (inr other) =
    stays_at sep line (Some said) before old new n n found (ap (λ (l : List DrawerState). slice_get l n) h.others ∙ get-set_other old place n h.after other)

turned_on : (sep : Sep) (line : List ℕ) (command : Command) (said : Answer) (before : DrawerState) (old new : List DrawerState) (n : ℕ) (place : Option ℕ) → line_reading sep line ≡ Ok (Some command) → slice_get old n ≡ Some before
    → place_named line command old ≡ place → OnlyAt line command said old new place → LineOn sep line (Some said) before new
turned_on sep line command said before old new n None asked found at h = stays_at sep line (Some said) before old new n n found (ap (λ (l : List DrawerState). slice_get l n) h)
turned_on sep line command said before old new n (Some place) asked found at h = changed_on sep line command said before old new n place (takes_out command) refl asked found at h (here_or place n)

read_on : (sep : Sep) (line : List ℕ) (read : Result (Option Command) Usage) (answer : Option Answer) (before : DrawerState) (old new : World) (n : ℕ) → line_reading sep line ≡ read → slice_get old.drawers n ≡ Some before
    → ServesReading read line old answer new → LineOn sep line answer before new.drawers
read_on sep line (Ok None) answer before old new n asked found h = stays_at sep line answer before old.drawers new.drawers n n found (ap (λ (w : World). slice_get w.drawers n) h.1)
read_on sep line (Err usage) answer before old new n asked found h = stays_at sep line answer before old.drawers new.drawers n n found (ap (λ (w : World). slice_get w.drawers n) h.1)
read_on sep line (Ok (Some command)) None before old new n asked found h = absurd h
read_on sep line (Ok (Some command)) (Some said) before old new n asked found h =
    turned_on sep line command said before old.drawers new.drawers n (place_named line command old.drawers) asked found refl (turn_only_steps line command old said new h)

line_on : (sep : Sep) (line : List ℕ) (answer : Option Answer) (before : DrawerState) (old new : World) (n : ℕ) → slice_get old.drawers n ≡ Some before → ServesLine sep line old answer new → LineOn sep line answer before new.drawers
line_on sep line answer before old new n found h = read_on sep line (line_reading sep line) answer before old new n refl found h

step_name : (sep : Sep) (line : List ℕ) (answer : Option Answer) (old : DrawerState) (events : List Event) (new : DrawerState) → DrawerSteps sep line answer old events new → new.name ≡ old.name
step_name sep line answer old events new (inl stays) = ap (λ (d : DrawerState). d.name) stays.0
step_name sep line answer old events new (inr h) = h.name

step_logs : (sep : Sep) (line : List ℕ) (answer : Option Answer) (old : DrawerState) (events : List Event) (new : DrawerState) → DrawerSteps sep line answer old events new → Logs events old.disk new.disk
step_logs sep line answer old events new (inl stays) = rw (stays.0, stays.1) (Logs-nothing old.disk)
step_logs sep line answer old events new (inr h) = h.logs

step_unnamed : (sep : Sep) (line : List ℕ) (answer : Option Answer) (old : DrawerState) (events : List Event) (new : DrawerState) → DrawerSteps sep line answer old events new → names sep line old.name ≡ false → new ≡ old
step_unnamed sep line answer old events new (inl stays) unnamed = stays.0
step_unnamed sep line answer old events new (inr h) unnamed = absurd (let bad : true ≡ false = sym h.named ∙ unnamed in (let none : ⊥ = cc bad in none))

-- ---- a run

-- the line, and then the others
run_more : (sep : Sep) (l : ServedLine) (lines : List ServedLine) (before : DrawerState) (middle drawers : List DrawerState) → (at : LineAt sep l.line l.answer before middle)
    → RunsAt sep lines at.after drawers → RunsAt sep (l ∷ lines) before drawers
run_more sep l lines before middle drawers at r = record {
  there = r.there;
  last = r.last;
  events = at.events ++ r.events;
  runs = inl (at.after, at.events, r.events, at.steps, r.runs, refl);
  ends = r.ends;
  name = r.name ∙ step_name sep l.line l.answer before at.events at.after at.steps;
  logs = Logs-then at.events r.events (step_logs sep l.line l.answer before at.events at.after at.steps) r.logs;
  unnamed = λ h.
      let one : at.after ≡ before = step_unnamed sep l.line l.answer before at.events at.after at.steps h.0 in
      let behind = subst (λ (d : DrawerState). AllByRecursion (λ (x : ServedLine). names sep x.line d.name ≡ false) lines) (sym one) h.1 in
      let rest = r.unnamed behind in
      (rest.0, rest.1 ∙ one);
}

-- the line takes the drawer out, and the others do nothing to it
run_taken : (sep : Sep) (l : ServedLine) (lines : List ServedLine) (before : DrawerState) (drawers : List DrawerState) → TakesDrawer sep l.line l.answer before → RunsAt sep (l ∷ lines) before drawers
run_taken sep l lines before drawers t = record {
  there = false;
  last = before;
  events = [];
  runs = inr (t, refl, refl, refl);
  ends = tt;
  name = refl;
  logs = Logs-nothing before.disk;
  unnamed = λ h. absurd (let bad : true ≡ false = sym t.named ∙ h.0 in (let none : ⊥ = cc bad in none));
}

-- the line, and then the others, whatever becomes of the drawer
run_behind : (sep : Sep) (l : ServedLine) (lines : List ServedLine) (before : DrawerState) (middle drawers : List DrawerState) → LineOn sep l.line l.answer before middle
    → ((at : LineAt sep l.line l.answer before middle) → RunsAt sep lines at.after drawers) → RunsAt sep (l ∷ lines) before drawers
run_behind sep l lines before middle drawers (inl at) rest = run_more sep l lines before middle drawers at (rest at)
run_behind sep l lines before middle drawers (inr t) rest = run_taken sep l lines before drawers t

pub run_at : (sep : Sep) (lines : List ServedLine) (old new : World) (before : DrawerState) (n : ℕ) → Run sep old lines new → slice_get old.drawers n ≡ Some before → RunsAt sep lines before new.drawers
run_at sep [] old new before n run found = record {
  there = true;
  last = before;
  events = [];
  runs = (refl, refl, refl);
  ends = (n, ap (λ (w : World). slice_get w.drawers n) run.1 ∙ found);
  name = refl;
  logs = Logs-nothing before.disk;
  unnamed = λ h. (refl, refl);
}
run_at sep (l ∷ lines) old new before n run found =
    run_behind sep l lines before l.next.drawers new.drawers (line_on sep l.line l.answer before old l.next n found run.0.0) (λ at. run_at sep lines l.next new at.after at.place (run.0.1, run.1) at.there)

-- ---- the histories of all drawers

grew_then : (old middle new : DrawerState) → Grew old middle → Grew middle new → Grew old new
grew_then old middle new a b = record { name = b.name ∙ a.name; events = a.events ++ b.events; logs = Logs-then a.events b.events a.logs b.logs }

grew_same : (d : DrawerState) → Grew d d
grew_same d = record { name = refl; events = []; logs = Logs-nothing d.disk }

each_same : (Gone : List ℕ → Type 0) (drawers : List DrawerState) → EachGrew Gone drawers drawers
each_same Gone [] = tt
each_same Gone (d ∷ ds) = inl (grew_same d, each_same Gone ds)

each_as : (Gone : List ℕ → Type 0) (old new : World) → new ≡ old → EachGrew Gone old.drawers new.drawers
each_as Gone old new is = rw is (each_same Gone old.drawers)

-- one more drawer that is gone
each_left : (Gone : List ℕ → Type 0) (o : DrawerState) (os news : List DrawerState) → Gone o.name → EachGrew Gone os news → EachGrew Gone (o ∷ os) news
each_left Gone o os [] gone h = (gone, h)
each_left Gone o os (n ∷ ns) gone h = inr (gone, h)

-- one more drawer that was there, and then grew or is gone
each_kept : (Gone : List ℕ → Type 0) (o m : DrawerState) (os ms news : List DrawerState) → Grew o m → ((others : List DrawerState) → EachGrew Gone ms others → EachGrew Gone os others) → EachGrew Gone (m ∷ ms) news → EachGrew Gone (o ∷ os) news
each_kept Gone o m os ms [] grew rest b = (subst Gone grew.name b.0, rest [] b.1)
each_kept Gone o m os ms (n ∷ ns) grew rest (inl b) = inl (grew_then o m n grew b.0, rest ns b.1)
each_kept Gone o m os ms (n ∷ ns) grew rest (inr b) = inr (subst Gone grew.name b.0, rest (n ∷ ns) b.1)

each_then : (Gone : List ℕ → Type 0) (olds middles news : List DrawerState) → EachGrew Gone olds middles → EachGrew Gone middles news → EachGrew Gone olds news
each_then Gone [] [] news a b = b
each_then Gone [] (m ∷ ms) news a b = absurd a
each_then Gone (o ∷ os) [] news a b = each_left Gone o os news a.0 (each_then Gone os [] news a.1 b)
each_then Gone (o ∷ os) (m ∷ ms) news (inl a) b = each_kept Gone o m os ms news a.0 (λ others. each_then Gone os ms others a.1) b
each_then Gone (o ∷ os) (m ∷ ms) news (inr a) b = each_left Gone o os news a.0 (each_then Gone os (m ∷ ms) news a.1 b)

-- more names may be gone
each_weaker : (Gone More : List ℕ → Type 0) (olds news : List DrawerState) → ((name : List ℕ) → Gone name → More name) → EachGrew Gone olds news → EachGrew More olds news
each_weaker Gone More [] [] more h = tt
each_weaker Gone More [] (n ∷ ns) more h = absurd h
each_weaker Gone More (o ∷ os) [] more h = (more o.name h.0, each_weaker Gone More os [] more h.1)
each_weaker Gone More (o ∷ os) (n ∷ ns) more (inl h) = inl (h.0, each_weaker Gone More os ns more h.1)
each_weaker Gone More (o ∷ os) (n ∷ ns) more (inr h) = inr (more o.name h.0, each_weaker Gone More os (n ∷ ns) more h.1)

-- one drawer changes
each_set : (Gone : List ℕ → Type 0) (drawers : List DrawerState) (place : ℕ) (before after : DrawerState) → slice_get drawers place ≡ Some before → Grew before after → EachGrew Gone drawers (set drawers place after)
each_set Gone [] place before after found grew = absurd (let none : ⊥ = cc found in none)
each_set Gone (d ∷ ds) zero before after found grew = inl (subst (λ (x : DrawerState). Grew x after) (sym (same_some d before found)) grew, each_same Gone ds)
each_set Gone (d ∷ ds) (suc place) before after found grew = inl (grew_same d, each_set Gone ds place before after found grew)

-- one drawer is taken out
each_removed : (Gone : List ℕ → Type 0) (drawers : List DrawerState) (place : ℕ) (before : DrawerState) → slice_get drawers place ≡ Some before → Gone before.name → EachGrew Gone drawers (remove drawers place)
each_removed Gone [] place before found gone = absurd (let none : ⊥ = cc found in none)
each_removed Gone (d ∷ ds) zero before found gone = each_left Gone d ds ds (subst (λ (x : DrawerState). Gone x.name) (sym (same_some d before found)) gone) (each_same Gone ds)
each_removed Gone (d ∷ ds) (suc place) before found gone = inl (grew_same d, each_removed Gone ds place before found gone)

-- the line takes the drawer with this name out
abbrev Out : Sep → List ℕ → Option Answer → List ℕ → Type 0
Out sep line answer name = (ejects sep line name && is_done answer) ≡ true

changed_grew : (sep : Sep) (line : List ℕ) (command : Command) (said : Answer) (old new : List DrawerState) (place : ℕ) (out : Bool) → takes_out command ≡ out → line_reading sep line ≡ Ok (Some command) → place_named line command old ≡ Some place
    → ChangesBy out line command said old new place → EachGrew (Out sep line (Some said)) old new
changed_grew sep line command said old new place true is asked at h =
    let t = taken_at sep line command said h.before old place asked is h.found at h.done in
    rw h.others (each_removed (Out sep line (Some said)) old place h.before h.found (both_true (ejects sep line h.before.name) (is_done (Some said)) t.ejected (ap is_done t.done)))
changed_grew sep line command said old new place false is asked at h =
    rw h.others (each_set (Out sep line (Some said)) old place h.before h.after h.found (record { name = h.steps.name; events = h.steps.events; logs = h.steps.logs }))

turned_grew : (sep : Sep) (line : List ℕ) (command : Command) (said : Answer) (old new : List DrawerState) (place : Option ℕ) → line_reading sep line ≡ Ok (Some command) → place_named line command old ≡ place → OnlyAt line command said old new place
    → EachGrew (Out sep line (Some said)) old new
turned_grew sep line command said old new None asked at h = rw h (each_same (Out sep line (Some said)) old)
turned_grew sep line command said old new (Some place) asked at h = changed_grew sep line command said old new place (takes_out command) refl asked at h

read_grew : (sep : Sep) (line : List ℕ) (read : Result (Option Command) Usage) (answer : Option Answer) (old new : World) → line_reading sep line ≡ read → ServesReading read line old answer new
    → EachGrew (Out sep line answer) old.drawers new.drawers
read_grew sep line (Ok None) answer old new asked h = each_as (Out sep line answer) old new h.1
read_grew sep line (Err usage) answer old new asked h = each_as (Out sep line answer) old new h.1
read_grew sep line (Ok (Some command)) None old new asked h = absurd h
read_grew sep line (Ok (Some command)) (Some said) old new asked h =
    turned_grew sep line command said old.drawers new.drawers (place_named line command old.drawers) asked refl (turn_only_steps line command old said new h)

any_here : (a b : Bool) → a ≡ true → (a || b) ≡ true
any_here true b h = refl
any_here false b h = absurd (let none : ⊥ = cc h in none)

any_behind : (a b : Bool) → b ≡ true → (a || b) ≡ true
any_behind true b h = refl
any_behind false b h = h

-- one of the lines takes the drawer with this name out
abbrev AnyOut : Sep → List ServedLine → List ℕ → Type 0
AnyOut sep lines name = list_any (λ (l : ServedLine). ejected sep l name) lines ≡ true

run_grew : (sep : Sep) (old : World) (lines : List ServedLine) (new : World) → Run sep old lines new → EachGrew (AnyOut sep lines) old.drawers new.drawers
run_grew sep old [] new run = each_as (AnyOut sep []) old new run.1
run_grew sep old (l ∷ lines) new run =
    each_then (AnyOut sep (l ∷ lines)) old.drawers l.next.drawers new.drawers
    (each_weaker (Out sep l.line l.answer) (AnyOut sep (l ∷ lines)) old.drawers l.next.drawers (λ name h. any_here (ejected sep l name) (list_any (λ (x : ServedLine). ejected sep x name) lines) h)
    (read_grew sep l.line (line_reading sep l.line) l.answer old l.next refl run.0.0))
    (each_weaker (AnyOut sep lines) (AnyOut sep (l ∷ lines)) l.next.drawers new.drawers (λ name h. any_behind (ejected sep l name) (list_any (λ (x : ServedLine). ejected sep x name) lines) h)
    (run_grew sep l.next lines new (run.0.1, run.1)))

pub flushed_logs : (failed : Bool) (old new : DiskState) → Flushes failed old new → (events : List Event) × Logs events old new
flushed_logs false old new h = (Flush ∷ [], h)
flushed_logs true old new h = (take h.count (Flush ∷ []), h.logs)

closed_grew : (idle : Bool) (old : DrawerState) (failed : Bool) (new : DrawerState) → ClosesAs idle old failed new → Grew old new
closed_grew true old failed new h = rw h.1 (record { name = refl; events = []; logs = Logs-nothing old.disk })
closed_grew false old failed new h =
    let l = flushed_logs failed old.disk new.disk h.0 in
    record { name = ap (λ (d : DrawerState). d.name) h.1; events = l.0; logs = l.1 }

closing_grew : (Gone : List ℕ → Type 0) (olds : List DrawerState) (count : ℕ) (news : List DrawerState) → Closing olds count news → EachGrew Gone olds news
closing_grew Gone [] count news h = rw h.1 tt
closing_grew Gone (d ∷ ds) count news h =
    subst (EachGrew Gone (d ∷ ds)) (sym h.7) (inl (closed_grew (is_idle d.holding) d h.0 h.1 h.4, closing_grew Gone ds h.2 h.3 h.5))

closed_grew_by : (Gone : List ℕ → Type 0) (closing : Option ℕ) (behind exit : World) → ClosesBy closing behind exit → EachGrew Gone behind.drawers exit.drawers
closed_grew_by Gone None behind exit h = each_as Gone behind exit h
closed_grew_by Gone (Some failed) behind exit h = closing_grew Gone behind.drawers failed exit.drawers h.drawers

pub trace_grew : (entry exit : World) (trace : Trace) → IsTrace entry trace exit → KeepsDrawers entry trace exit
trace_grew entry exit trace h =
    let behind : World = world_behind entry trace.lines in
    each_then (AnyOut trace.sep trace.lines) entry.drawers behind.drawers exit.drawers (run_grew trace.sep entry trace.lines behind (h.served, refl)) (closed_grew_by (AnyOut trace.sep trace.lines) trace.closing behind exit h.closes)
