-- What a run places on each drawer's disk.
use Rattle.std.proofs.Common.{◌≡◌, ◌∙◌, ◌⊎◌, inl, inr, ℕ, zero, suc, List, [], ◌∷◌, length, append-nil, refl, sym, ap, subst, Bool, true, false, Option, None, Some, Result, Ok, Err, slice_get, IfSome, MatchOption, map, option_and_then}
use Rattle.std.specs.Option.{option_map}
use Rattle.block_traits.proofs.Logs.{Logs-nothing}
use Rattle.command_rows.specs.Rows.{Answer, Attachment, DrawerState, HoldKeyings, Holding, HoldsKeying, Idle, IsAmong, IsAttached, IsSuspended, World, attachment_in, is_idle, place_of}
use Rattle.command_rows.specs.Vocabulary.{Command, Content, DiskState, Event, FitsSize, IsContentOf, IsKeying, Logs, Span, bytes_at, logged, provider_of}
use Rattle.queue_readings.proofs.Among.{fit_front}
use Rattle.queue_readings.proofs.Calls.{nothing_yet}
use Rattle.readings.proofs.Crashes.{endures}
use Rattle.readings.proofs.Writes.{AreStepsBelow-none}
use Rattle.command_rows.proofs.Lines.{line_did}
use Rattle.command_rows.proofs.Turns.{by_turn}
use Rattle.command_rows.proofs.Untouched.{get-set, get-set_other}
use Rattle.geli_core.specs.Histories.{ServesDrawer, says_name}
use Rattle.geli_core.specs.Placing.{ClosesWith, DrawerPlaces, DrawerPlays, DrawerPlaysAndCloses, LinePlays, PlaysToExit, goes_on, no_play, played_by}
use Rattle.geli_core.specs.Run.{ServesLine, ServesReading}
use Rattle.geli_core.specs.Survivors.{EachSurvives, EachSurvivesRun, EnduresCrashes, HasNoRequests, HasTasks, SurvivesBy}
use Rattle.geli_core.specs.Trace.{ClosesBy, EachServed, IsTrace, Run, ServedLine, Trace, world_behind}
use Rattle.geli_core.specs.Vocabulary.{AreSteps, ChangesAt, Closes, ClosesAs, ClosesWorld, Closing, Play, Sep, Serves, TakesOutDrawer, Task, Turn, Usage, after, line_reading, pending, place_named, raw_steps, reach, request_of}
use Rattle.geli_core.proofs.Drawn.{flushed_logs, here_or, named_at, same_some}
use Rattle.geli_core.proofs.Following.{tracks_raw}
use Rattle.geli_core.proofs.Keyings.{among_removed, line_keeps}
use Rattle.geli_core.proofs.Playing.{Follows, FollowsBy, Rests, line_follows, raw_gone, rests_raw}
use Rattle.geli_core.proofs.Queues.{within_none}

-- ---- a drawer and one line

-- the line names the drawer, and the command goes through its row
pub record Served (sep : Sep) (line : List ℕ) (answer : Option Answer) (old new : DrawerState) : Type 0 where
  pub events : List Event
  pub serves : ServesDrawer sep line answer old events new
  pub start : World
  pub end : World
  pub row : Serves line serves.command (reach old start) serves.said (reach new end)

abbrev pub Did : Sep → List ℕ → Option Answer → DrawerState → DrawerState → Type 0
Did sep line answer old new = (new ≡ old) ⊎ Served sep line answer old new

-- a drawer that is there after the line, as which it was there before
record CameBy (sep : Sep) (line : List ℕ) (answer : Option Answer) (olds : List DrawerState) (new : DrawerState) : Type 0 where
  before : DrawerState
  was : IsAmong olds before
  did : Did sep line answer before new

stayed : (sep : Sep) (line : List ℕ) (answer : Option Answer) (olds : List DrawerState) (drawer : DrawerState) → IsAmong olds drawer → CameBy sep line answer olds drawer
stayed sep line answer olds drawer was = record { before = drawer; was = was; did = inl refl }

-- the line names the drawer
served : (sep : Sep) (line : List ℕ) (command : Command) (said : Answer) (old new : World) (place : ℕ) → line_reading sep line ≡ Ok (Some command) → place_named line command old.drawers ≡ Some place
    → (h : ChangesAt (Serves line command) old said new place) → Served sep line (Some said) h.before h.after
served sep line command said old new place asked at h =
    let d = line_did line command (reach h.before old) said (reach h.after new) h.step in
    record {
      events = d.events;
      serves = record {
        command = command;
        asked = asked;
        named = ap (λ (r : Result (Option Command) Usage). says_name r line h.before.name) asked ∙ named_at line old.drawers (provider_of command) place h.before at h.found;
        said = said;
        answered = refl;
        name = h.name;
        logs = d.logs;
        of_line = d.are;
      };
      start = old;
      end = new;
      row = h.step;
    }

-- the drawer stands at the place that the line names, or at another
served_at : (sep : Sep) (line : List ℕ) (command : Command) (said : Answer) (old new : World) (drawer : DrawerState) (n place : ℕ) → line_reading sep line ≡ Ok (Some command) → place_named line command old.drawers ≡ Some place
    → slice_get new.drawers n ≡ Some drawer → ChangesAt (Serves line command) old said new place → (place ≡ n) ⊎ (place ≡ n → ⊥) → CameBy sep line (Some said) old.drawers drawer
served_at sep line command said old new drawer n place asked at there h (inl here) =
    let put : slice_get new.drawers place ≡ Some h.after = rw h.others (get-set old.drawers place h.before h.after h.found) in
    let same : h.after ≡ drawer = same_some h.after drawer (sym put ∙ ap (slice_get new.drawers) here ∙ there) in
    subst (CameBy sep line (Some said) old.drawers) same (record { before = h.before; was = (place, h.found); did = inr (served sep line command said old new place asked at h) })
served_at sep line command said old new drawer n place asked at there h (inr other) =
    stayed sep line (Some said) old.drawers drawer (n, sym (ap (λ (l : List DrawerState). slice_get l n) h.others ∙ get-set_other old.drawers place n h.after other) ∙ there)

-- what a line changes, by the place of the drawer that it names, if it names one
abbrev ChangedBy : List ℕ → Command → World → Answer → World → Option ℕ → Type 0
ChangedBy line command old said new None = new.drawers ≡ old.drawers
ChangedBy line command old said new (Some place) = TakesOutDrawer old said new place ⊎ ChangesAt (Serves line command) old said new place

changed_named : (line : List ℕ) (command : Command) (old : World) (said : Answer) (new : World) (named : Option Span) → MatchOption named (new.drawers ≡ old.drawers) (λ prov. ChangedBy line command old said new (place_of (bytes_at line prov) old.drawers))
    → ChangedBy line command old said new (option_and_then (λ prov. place_of (bytes_at line prov) old.drawers) named)
changed_named line command old said new None h = h
changed_named line command old said new (Some prov) h = h

changed : (line : List ℕ) (command : Command) (old : World) (said : Answer) (new : World) → Turn line command old said new → ChangedBy line command old said new (place_named line command old.drawers)
changed line command old said new h =
    changed_named line command old said new (provider_of command)
    (by_turn line command old said new (new.drawers ≡ old.drawers) (ChangedBy line command old said new) (λ lists. ap (λ (w : World). w.drawers) lists.unchanged) (λ unknown. ap (λ (w : World). w.drawers) unknown.unchanged)
    (λ place is left. inl left) (λ place is changes. inr changes) h)

came_at : (sep : Sep) (line : List ℕ) (command : Command) (said : Answer) (old new : World) (drawer : DrawerState) (n : ℕ) (place : Option ℕ) → line_reading sep line ≡ Ok (Some command) → place_named line command old.drawers ≡ place
    → slice_get new.drawers n ≡ Some drawer → ChangedBy line command old said new place → CameBy sep line (Some said) old.drawers drawer
came_at sep line command said old new drawer n None asked at there h = stayed sep line (Some said) old.drawers drawer (n, ap (λ (l : List DrawerState). slice_get l n) (sym h) ∙ there)
came_at sep line command said old new drawer n (Some place) asked at there (inl left) =
    stayed sep line (Some said) old.drawers drawer (among_removed old.drawers place drawer (n, ap (λ (w : World). slice_get w.drawers n) (sym left.left) ∙ there))
came_at sep line command said old new drawer n (Some place) asked at there (inr changes) = served_at sep line command said old new drawer n place asked at there changes (here_or place n)

read_by : (sep : Sep) (line : List ℕ) (read : Result (Option Command) Usage) (answer : Option Answer) (old new : World) (drawer : DrawerState) → line_reading sep line ≡ read → ServesReading read line old answer new → IsAmong new.drawers drawer
    → CameBy sep line answer old.drawers drawer
read_by sep line (Err usage) answer old new drawer asked h there = stayed sep line answer old.drawers drawer (there.0, ap (λ (w : World). slice_get w.drawers there.0) (sym h.1) ∙ there.1)
read_by sep line (Ok None) answer old new drawer asked h there = stayed sep line answer old.drawers drawer (there.0, ap (λ (w : World). slice_get w.drawers there.0) (sym h.1) ∙ there.1)
read_by sep line (Ok (Some command)) None old new drawer asked h there = absurd h
read_by sep line (Ok (Some command)) (Some said) old new drawer asked h there =
    came_at sep line command said old new drawer there.0 (place_named line command old.drawers) asked refl there.1 (changed line command old said new h)

came_by : (sep : Sep) (line : List ℕ) (answer : Option Answer) (old new : World) (drawer : DrawerState) → ServesLine sep line old answer new → IsAmong new.drawers drawer → CameBy sep line answer old.drawers drawer
came_by sep line answer old new drawer h there = read_by sep line (line_reading sep line) answer old new drawer refl h there

-- ---- a drawer's way through lines

abbrev pub Way : Sep → World → List ServedLine → DrawerState → DrawerState → Type 0
Way sep start [] old new = new ≡ old
Way sep start (l ∷ lines) old new =
    (middle : DrawerState) × ServesLine sep l.line start l.answer l.next × IsAmong start.drawers old × IsAmong l.next.drawers middle × Did sep l.line l.answer old middle × Way sep l.next lines middle new

pub record Came (sep : Sep) (start : World) (lines : List ServedLine) (new : DrawerState) : Type 0 where
  pub before : DrawerState
  pub was : IsAmong start.drawers before
  pub way : Way sep start lines before new

pub came : (sep : Sep) (lines : List ServedLine) (start end : World) (drawer : DrawerState) → Run sep start lines end → IsAmong end.drawers drawer → Came sep start lines drawer
came sep [] start end drawer run there = record { before = drawer; was = (there.0, ap (λ (w : World). slice_get w.drawers there.0) (sym run.1) ∙ there.1); way = refl }
came sep (l ∷ lines) start end drawer run there =
    let behind = came sep lines l.next end drawer (run.0.1, run.1) there in
    let by = came_by sep l.line l.answer start l.next behind.before run.0.0 behind.was in
    record { before = by.before; was = by.was; way = (behind.before, run.0.0, by.was, behind.was, by.did, behind.way) }

-- ---- the play of a drawer

-- what the drawer's disk reports, as the play says
pub Tells : Type 0 → Option Content → Play → DrawerState → Type 0
Tells Fresh told m drawer = MatchOption told (drawer.disk.content ≡ None) (λ c. Follows Fresh c m drawer.holding drawer.disk)

still_none : (c : Content) (m : Play) (d : DiskState) → Rests c m d → Rests c (goes_on [] m.tasks m) d
still_none c m d r = subst (λ (l : List Task). Rests c (goes_on [] l m) d) (sym r.none) (rests_raw c m d d [] r (Logs-nothing d))

still_follows : (Fresh : Type 0) (c : Content) (m : Play) (found : Option Attachment) (d : DiskState) → FollowsBy Fresh c m found d → FollowsBy Fresh c (goes_on [] m.tasks m) found d
still_follows Fresh c m None d f = still_none c m d f
still_follows Fresh c m (Some a) d f = tracks_raw Fresh c m a.keying a.queue d d [] f (Logs-nothing d)

stays_tells : (Fresh : Type 0) (told : Option Content) (m : Play) (drawer : DrawerState) → Tells Fresh told m drawer → Tells Fresh told (goes_on [] m.tasks m) drawer
unfolding Tells
stays_tells Fresh None m drawer t = t
stays_tells Fresh (Some c) m drawer t = still_follows Fresh c m (attachment_in drawer.holding) drawer.disk t

serves_tells : (Fresh : Type 0) (told : Option Content) (m : Play) (sep : Sep) (line : List ℕ) (answer : Option Answer) (old new : DrawerState) (s : Served sep line answer old new) → HoldsKeying old.holding → HoldsKeying new.holding → Tells Fresh told m old
    → Tells Fresh told (played_by (attachment_in new.holding) line s.serves.command told s.serves.said s.events m) new
unfolding Tells
serves_tells Fresh None m sep line answer old new s had keyed t = s.serves.logs.content ∙ ap (logged s.events) t
serves_tells Fresh (Some c) m sep line answer old new s had keyed t =
    line_follows Fresh c m line s.serves.command s.serves.said (reach old s.start) (reach new s.end) s.events s.row s.serves.logs s.serves.of_line had keyed t

-- the play after a line
record Goes (Fresh : Type 0) (told : Option Content) (sep : Sep) (line : List ℕ) (answer : Option Answer) (old : DrawerState) (m : Play) (new : DrawerState) : Type 0 where
  next : Play
  plays : LinePlays told sep line answer old m next new
  tells : Tells Fresh told next new
  name : new.name ≡ old.name

line_goes : (Fresh : Type 0) (told : Option Content) (sep : Sep) (line : List ℕ) (answer : Option Answer) (old : DrawerState) (m : Play) (new : DrawerState) → Did sep line answer old new → HoldsKeying old.holding → HoldsKeying new.holding → Tells Fresh told m old
    → Goes Fresh told sep line answer old m new
line_goes Fresh told sep line answer old m new (inl same) had keyed t = record {
  next = goes_on [] m.tasks m;
  plays = inl (same, refl);
  tells = subst (Tells Fresh told (goes_on [] m.tasks m)) (sym same) (stays_tells Fresh told m old t);
  name = ap (λ (d : DrawerState). d.name) same;
}
line_goes Fresh told sep line answer old m new (inr s) had keyed t = record {
  next = played_by (attachment_in new.holding) line s.serves.command told s.serves.said s.events m;
  plays = inr (record { events = s.events; serves = s.serves; play = refl });
  tells = serves_tells Fresh told m sep line answer old new s had keyed t;
  name = s.serves.name;
}

-- the play after lines
pub record GoesFar (Fresh : Type 0) (told : Option Content) (sep : Sep) (lines : List ServedLine) (old : DrawerState) (m : Play) (new : DrawerState) : Type 0 where
  pub last : Play
  pub places : DrawerPlaces told sep lines old m last new
  pub tells : Tells Fresh told last new
  pub name : new.name ≡ old.name

pub goes : (Fresh : Type 0) (told : Option Content) (sep : Sep) (lines : List ServedLine) (start : World) (old : DrawerState) (m : Play) (new : DrawerState) → Way sep start lines old new → HoldKeyings start.drawers → Tells Fresh told m old
    → GoesFar Fresh told sep lines old m new
goes Fresh told sep [] start old m new way keyed t = record { last = m; places = (way, refl); tells = subst (Tells Fresh told m) (sym way) t; name = ap (λ (d : DrawerState). d.name) way }
goes Fresh told sep (l ∷ lines) start old m new (middle, serves, was, there, did, way) keyed t =
    let after_keyed = line_keeps sep l.line start l.answer l.next serves keyed in
    let one = line_goes Fresh told sep l.line l.answer old m middle did (keyed old was) (after_keyed middle there) t in
    let rest = goes Fresh told sep lines l.next middle one.next new way after_keyed one.tells in
    record { last = rest.last; places = (middle, one.next, there, one.plays, rest.places); tells = rest.tells; name = rest.name ∙ one.name }

-- ---- from the entry of a run

entry_none : (c : Content) (d : DiskState) → d.content ≡ Some c → Rests c no_play d
entry_none c d told =
    let fits : IsContentOf d.size c = subst (FitsSize d.size) told d.well_formed.fits in
    record {
      content = subst (λ (n : ℕ). IsContentOf n c) (sym fits.sectors) fits;
      told = told ∙ ap (λ (h : List Event). Some (record { base = c.base; history = h })) (sym (append-nil c.history));
      steps = AreStepsBelow-none;
      none = refl;
    }

entry_follows : (c : Content) (found : Option Attachment) (d : DiskState) → IfSome found (λ a. IsKeying a.keying) → d.content ≡ Some c → FollowsBy (IfSome found (λ a. a.queue ≡ [])) c no_play found d
entry_follows c None d keyed told = entry_none c d told
entry_follows c (Some a) d keyed told = record { shows = nothing_yet a.keying c d keyed told; within = within_none a.queue; apart = tt; whole = λ fresh. fresh }

entry_tells : (told : Option Content) (drawer : DrawerState) → HoldsKeying drawer.holding → drawer.disk.content ≡ told → Tells (HasNoRequests drawer.holding) told no_play drawer
unfolding Tells
entry_tells None drawer keyed is = is
entry_tells (Some c) drawer keyed is = entry_follows c (attachment_in drawer.holding) drawer.disk keyed is

-- ---- what is promised of the disk

by_content : (c : Content) (m : Play) → IsContentOf (length c.base) c → AreSteps m.steps → EnduresCrashes m.steps c
by_content c m content are = record { fit = are; endures = λ t k sector is below. endures c m.steps t k sector content are is below }

follows_endures : (Fresh : Type 0) (c : Content) (m : Play) (found : Option Attachment) (d : DiskState) → FollowsBy Fresh c m found d → EnduresCrashes m.steps c
follows_endures Fresh c m None d r = by_content c m r.content r.steps.fit
follows_endures Fresh c m (Some a) d t = by_content c m t.shows.play.content (fit_front m.next m.steps (pending a.keying m.tasks) t.shows.play.steps)

follows_told : (Fresh : Type 0) (c : Content) (m : Play) (found : Option Attachment) (d : DiskState) → FollowsBy Fresh c m found d → d.content ≡ Some (after m.steps c)
follows_told Fresh c m None d r = r.told
follows_told Fresh c m (Some a) d t = t.shows.told

follows_tasks : (Fresh : Type 0) (c : Content) (m : Play) (found : Option Attachment) (d : DiskState) → FollowsBy Fresh c m found d → Fresh → MatchOption found (m.tasks ≡ []) (λ a. a.queue ≡ map (request_of a.keying) m.tasks)
follows_tasks Fresh c m None d r fresh = r.none
follows_tasks Fresh c m (Some a) d t fresh = t.whole fresh

pub tells_content : (Fresh : Type 0) (told : Option Content) (m : Play) (drawer : DrawerState) → Tells Fresh told m drawer → drawer.disk.content ≡ option_map (after m.steps) told
unfolding Tells
tells_content Fresh None m drawer t = t
tells_content Fresh (Some c) m drawer t = follows_told Fresh c m (attachment_in drawer.holding) drawer.disk t

pub tells_endures : (Fresh : Type 0) (told : Option Content) (m : Play) (drawer : DrawerState) → Tells Fresh told m drawer → IfSome told (EnduresCrashes m.steps)
unfolding Tells
tells_endures Fresh None m drawer t = tt
tells_endures Fresh (Some c) m drawer t = follows_endures Fresh c m (attachment_in drawer.holding) drawer.disk t

pub tells_tasks : (Fresh : Type 0) (told : Option Content) (m : Play) (drawer : DrawerState) → Tells Fresh told m drawer → Fresh → IfSome told (λ c. HasTasks drawer.holding m.tasks)
unfolding Tells
tells_tasks Fresh None m drawer t fresh = tt
tells_tasks Fresh (Some c) m drawer t fresh = follows_tasks Fresh c m (attachment_in drawer.holding) drawer.disk t fresh

-- what holds by the play holds if the disk reports its content
pub told_holds : (Fresh : Type 0) (told : Option Content) (m : Play) (drawer : DrawerState) (Holds : Content → Type 0) → Tells Fresh told m drawer → ((c : Content) → Follows Fresh c m drawer.holding drawer.disk → Holds c) → IfSome told Holds
unfolding Tells
told_holds Fresh None m drawer Holds t holds = tt
told_holds Fresh (Some c) m drawer Holds t holds = holds c t

abbrev pub survives_by : (Plays : DrawerState → Play → DrawerState → Type 0) (olds : List DrawerState) (before : DrawerState) (m : Play) (new : DrawerState) → IsAmong olds before → new.name ≡ before.name → Plays before m new → Tells (HasNoRequests before.holding) before.disk.content m new
    → SurvivesBy Plays olds new
survives_by Plays olds before m new was name plays t = record {
  before = before;
  was = was;
  name = name;
  play = m;
  plays = plays;
  content = tells_content (HasNoRequests before.holding) before.disk.content m new t;
  endures = tells_endures (HasNoRequests before.holding) before.disk.content m new t;
  requests = λ fresh. tells_tasks (HasNoRequests before.holding) before.disk.content m new t fresh;
}

-- a drawer that is there after lines, as which it was there before, and what its disk reports
pub record Survived (sep : Sep) (entry : World) (lines : List ServedLine) (drawer : DrawerState) : Type 0 where
  pub before : DrawerState
  pub was : IsAmong entry.drawers before
  pub name : drawer.name ≡ before.name
  pub play : Play
  pub plays : DrawerPlays sep lines before play drawer
  pub tells : Tells (HasNoRequests before.holding) before.disk.content play drawer

pub survived : (sep : Sep) (lines : List ServedLine) (entry now : World) → Run sep entry lines now → HoldKeyings entry.drawers → (drawer : DrawerState) → IsAmong now.drawers drawer → Survived sep entry lines drawer
survived sep lines entry now run keyed drawer there =
    let from = came sep lines entry now drawer run there in
    let b = from.before in
    let g = goes (HasNoRequests b.holding) b.disk.content sep lines entry b no_play drawer from.way keyed (entry_tells b.disk.content b (keyed b from.was) refl) in
    record { before = b; was = from.was; name = g.name; play = g.last; plays = g.places; tells = g.tells }

abbrev pub survives_so : (sep : Sep) (lines : List ServedLine) (entry : World) (drawer : DrawerState) → Survived sep entry lines drawer → SurvivesBy (DrawerPlays sep lines) entry.drawers drawer
survives_so sep lines entry drawer s = survives_by (DrawerPlays sep lines) entry.drawers s.before s.play drawer s.was s.name s.plays s.tells

pub each_survives : (sep : Sep) (lines : List ServedLine) (entry now : World) → Run sep entry lines now → HoldKeyings entry.drawers → EachSurvives sep entry lines now
each_survives sep lines entry now run keyed drawer there = survives_so sep lines entry drawer (survived sep lines entry now run keyed drawer there)

pub run_keeps : (sep : Sep) (lines : List ServedLine) (old new : World) → Run sep old lines new → HoldKeyings old.drawers → HoldKeyings new.drawers
run_keeps sep [] old new run all = subst (λ (w : World). HoldKeyings w.drawers) (sym run.1) all
run_keeps sep (l ∷ lines) old new run all = run_keeps sep lines l.next new (run.0.1, run.1) (line_keeps sep l.line old l.answer l.next run.0.0 all)

-- ---- the closing

-- a drawer before it was closed
record CameThroughClosing (olds : List DrawerState) (new : DrawerState) : Type 0 where
  before : DrawerState
  was : IsAmong olds before
  name : new.name ≡ before.name
  last : List Event
  closes : ClosesWith before last new

closed_name : (idle : Bool) (old : DrawerState) (failed : Bool) (new : DrawerState) → ClosesAs idle old failed new → new.name ≡ old.name
closed_name true old failed new h = ap (λ (d : DrawerState). d.name) h.1
closed_name false old failed new h = ap (λ (d : DrawerState). d.name) h.1

closed_logs : (idle : Bool) (old : DrawerState) (failed : Bool) (new : DrawerState) → ClosesAs idle old failed new → (events : List Event) × Logs events old.disk new.disk
closed_logs true old failed new h = ([], rw h.1 (Logs-nothing old.disk))
closed_logs false old failed new h = flushed_logs failed old.disk new.disk h.0

closed_behind : (drawer : DrawerState) (drawers : List DrawerState) (new : DrawerState) → CameThroughClosing drawers new → CameThroughClosing (drawer ∷ drawers) new
closed_behind drawer drawers new c = record { before = c.before; was = (suc c.was.0, c.was.1); name = c.name; last = c.last; closes = c.closes }

closed_here : (drawer : DrawerState) (drawers : List DrawerState) (failed : Bool) (new : DrawerState) → Closes drawer failed new → CameThroughClosing (drawer ∷ drawers) new
closed_here drawer drawers failed new h =
    let logs = closed_logs (is_idle drawer.holding) drawer failed new h in
    record { before = drawer; was = (0, refl); name = closed_name (is_idle drawer.holding) drawer failed new h; last = logs.0; closes = record { failed = failed; closes = h; logs = logs.1 } }

came_closing : (olds : List DrawerState) (count : ℕ) (news : List DrawerState) (place : ℕ) (new : DrawerState) → Closing olds count news → slice_get news place ≡ Some new → CameThroughClosing olds new
came_closing [] count news place new h there = absurd (let none : ⊥ = cc (there, ap (λ (l : List DrawerState). slice_get l place) h.1) in none)
came_closing (d ∷ ds) count news zero new h there =
    let same : h.1 ≡ new = same_some h.1 new (sym (ap (λ (l : List DrawerState). slice_get l 0) h.7) ∙ there) in
    closed_here d ds h.0 new (subst (Closes d h.0) same h.4)
came_closing (d ∷ ds) count news (suc place) new h there =
    closed_behind d ds new (came_closing ds h.2 h.3 place new h.5 (sym (ap (λ (l : List DrawerState). slice_get l (suc place)) h.7) ∙ there))

closed_unheld : (holding : Holding) → is_idle holding ≡ true → attachment_in holding ≡ None
closed_unheld Idle h = refl
closed_unheld (IsAttached a) h = absurd (let none : ⊥ = cc h in none)
closed_unheld (IsSuspended kept) h = absurd (let none : ⊥ = cc h in none)

closed_as : (idle : Bool) (old : DrawerState) (failed : Bool) (new : DrawerState) → is_idle old.holding ≡ idle → ClosesAs idle old failed new → attachment_in new.holding ≡ None
closed_as true old failed new is h = ap (λ (d : DrawerState). attachment_in d.holding) h.1 ∙ closed_unheld old.holding is
closed_as false old failed new is h = ap (λ (d : DrawerState). attachment_in d.holding) h.1

closing_tells : (Fresh : Type 0) (told : Option Content) (m : Play) (old : DrawerState) (events : List Event) (new : DrawerState) → ClosesWith old events new → Tells Fresh told m old → Tells Fresh told (goes_on (raw_steps events) [] m) new
unfolding Tells
closing_tells Fresh None m old events new h t = h.logs.content ∙ ap (logged events) t
closing_tells Fresh (Some c) m old events new h t =
    subst (λ (o : Option Attachment). FollowsBy Fresh c (goes_on (raw_steps events) [] m) o new.disk) (sym (closed_as (is_idle old.holding) old h.failed new refl h.closes))
    (raw_gone Fresh c m (attachment_in old.holding) old.disk new.disk events h.logs t)

closed_survives : (sep : Sep) (lines : List ServedLine) (failed : ℕ) (entry exit : World) → EachServed sep entry lines → ClosesWorld (world_behind entry lines) failed exit → HoldKeyings entry.drawers → (drawer : DrawerState) → IsAmong exit.drawers drawer
    → SurvivesBy (DrawerPlaysAndCloses sep entry lines) entry.drawers drawer
closed_survives sep lines failed entry exit served closes keyed drawer there =
    let behind : World = world_behind entry lines in
    let e = came_closing behind.drawers failed exit.drawers there.0 drawer closes.drawers there.1 in
    let s = survived sep lines entry behind (served, refl) keyed e.before e.was in
    let play : Play = goes_on (raw_steps e.last) [] s.play in
    survives_by (DrawerPlaysAndCloses sep entry lines) entry.drawers s.before play drawer s.was (e.name ∙ s.name)
    (record { middle = e.before; among = e.was; served = s.play; places = s.plays; last = e.last; closes = e.closes; are = refl })
    (closing_tells (HasNoRequests s.before.holding) s.before.disk.content s.play e.before e.last drawer e.closes s.tells)

survives_to : (sep : Sep) (lines : List ServedLine) (closing : Option ℕ) (entry exit : World) → EachServed sep entry lines → ClosesBy closing (world_behind entry lines) exit → HoldKeyings entry.drawers → (drawer : DrawerState) → IsAmong exit.drawers drawer
    → SurvivesBy (PlaysToExit entry sep lines closing) entry.drawers drawer
survives_to sep lines None entry exit served closes keyed drawer there = each_survives sep lines entry exit (served, closes) keyed drawer there
survives_to sep lines (Some failed) entry exit served closes keyed drawer there = closed_survives sep lines failed entry exit served closes keyed drawer there

pub run_survives : (entry exit : World) (trace : Trace) → IsTrace entry trace exit → HoldKeyings entry.drawers → EachSurvivesRun entry trace exit
run_survives entry exit trace h keyed = survives_to trace.sep trace.lines trace.closing entry exit h.served h.closes keyed
