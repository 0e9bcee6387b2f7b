-- The steps of a play only grow, and a flush covers those before it.
use Rattle.std.proofs.Common.{◌≡◌, ◌∙◌, inl, inr, ℕ, List, [], ◌∷◌, ◌++◌, Contains, Option, None, Some, Result, Ok, slice_get, ap, subst, sym, append_assoc, append-nil, refl, IfSome, MatchOption, option_and_then}
use Rattle.std.proofs.lemmas.List.Elements.{All-weaker}
use Rattle.command_rows.specs.Rows.{Answer, AttachedWith, Attachment, DrawerState, HoldKeyings, IsAmong, Places, PlacesBytes, PlacesGenerated, PlacesNoMore, PlacesNothing, PlacesRequest, PlacesUnit, World, attachment_in, place_of}
use Rattle.command_rows.specs.Vocabulary.{Command, Content, Event, Keying, Span, bytes_at}
use Rattle.reply_text.specs.Answer as answers
use Rattle.command_rows.proofs.Gate.{attached}
use Rattle.geli_core.specs.ReadsBack.{IsAmongSteps, IsDoneAsAsked}
use Rattle.geli_core.specs.Requests.{CoversReaped, CoversWork}
use Rattle.geli_core.specs.Run.{ServesReading}
use Rattle.geli_core.specs.Trace.{Run, ServedLine}
use Rattle.geli_core.specs.Survivors.{HasNoRequests}
use Rattle.geli_core.specs.Vocabulary.{Flush, Flushes, IsCovered, Play, Reads, ReapRow, Replies, Sep, Step, Task, Usage, Work, Writes, data_steps, line_reading, reach, reaped_or, task_with, verb_of}
use Rattle.geli_core.proofs.Drawn.{same_some}
use Rattle.geli_core.proofs.Placing.{came, goes, run_keeps, survived, survives_so, told_holds}
use Rattle.geli_core.proofs.Playing.{Follows}
use Rattle.geli_core.proofs.ReadsBack.{from_row, turned}
use Rattle.geli_core.proofs.Reaping.{reaped_done}
use Rattle.command_words.specs.declared.commands.Command.TheVariants as commands
use Rattle.queue_readings.proofs.Calls.{covered}
use Rattle.geli_core.specs.Placing.{DrawerPlaces, LinePlays, place_played, played_by}

-- steps that were done stay the first
record GrowsTo (m last : Play) : Type 0 where
  more : List Step
  are : last.steps ≡ m.steps ++ more

grows_then : (m next last : Play) → GrowsTo m next → GrowsTo next last → GrowsTo m last
grows_then m next last a b = record { more = a.more ++ b.more; are = b.are ∙ ap (λ (l : List Step). l ++ b.more) a.are ∙ append_assoc m.steps a.more b.more }

place_grows : (line : List ℕ) (places : Places) (k : Keying) (told : Option Content) (said : Answer) (events : List Event) (m : Play) → GrowsTo m (place_played line places k told said events m)
place_grows line PlacesNothing k told said events m = record { more = _; are = refl }
place_grows line (PlacesBytes sector bytes) k told said events m = record { more = _; are = refl }
place_grows line (PlacesGenerated seed start count) k told said events m = record { more = _; are = refl }
place_grows line (PlacesRequest job) k told said events m = record { more = _; are = refl }
place_grows line (PlacesUnit tag) k told said events m = record { more = _; are = refl }
place_grows line (PlacesNoMore tag) k told said events m = record { more = _; are = refl }

played_grows : (found : Option Attachment) (line : List ℕ) (command : Command) (told : Option Content) (said : Answer) (events : List Event) (m : Play) → GrowsTo m (played_by found line command told said events m)
played_grows None line command told said events m = record { more = _; are = refl }
played_grows (Some a) line command told said events m = place_grows line ((verb_of command).places line) a.keying told said events m

line_grows : (told : Option Content) (sep : Sep) (line : List ℕ) (answer : Option Answer) (old : DrawerState) (m next : Play) (new : DrawerState) → LinePlays told sep line answer old m next new → GrowsTo m next
line_grows told sep line answer old m next new (inl stays) = record { more = []; are = ap (λ (p : Play). p.steps) stays.1 }
line_grows told sep line answer old m next new (inr h) = subst (GrowsTo m) (sym h.play) (played_grows (attachment_in new.holding) line h.serves.command told h.serves.said h.events m)

grows : (told : Option Content) (sep : Sep) (lines : List ServedLine) (old : DrawerState) (m last : Play) (new : DrawerState) → DrawerPlaces told sep lines old m last new → GrowsTo m last
grows told sep [] old m last new h = record { more = []; are = ap (λ (p : Play). p.steps) h.1 ∙ sym (append-nil m.steps) }
grows told sep (l ∷ lines) old m last new h = grows_then m h.1 last (line_grows told sep l.line l.answer old m h.1 h.0 h.3) (grows told sep lines h.0 h.1 last new h.4)

covered_later : (told : Option Content) (sep : Sep) (lines : List ServedLine) (old new : DrawerState) (m last : Play) (s : Step) → Contains m.steps s → DrawerPlaces told sep lines old m last new → IsCovered (last.steps ++ Flush ∷ []) s
covered_later told sep lines old new m last s there h =
    let g = grows told sep lines old m last new h in
    subst (λ (l : List Step). IsCovered (l ++ Flush ∷ []) s) (sym g.are) (covered m.steps g.more s there)

-- ---- a write that was reaped

-- when a write was reaped, each of its units was done
reap_done : (Fresh : Type 0) (c : Content) (m : Play) (line : List ℕ) (prov : Span) (tag : ℕ) (start next : World) (before : DrawerState) (place : Option ℕ) → place_of (bytes_at line prov) start.drawers ≡ place → option_and_then (slice_get start.drawers) place ≡ Some before
    → ServesReading (Ok (Some (commands.Reap prov tag))) line start (Some answers.Done) next → Follows Fresh c m before.holding before.disk → AttachedWith before.holding (λ a. IsDoneAsAsked tag a.keying c m)
reap_done Fresh c m line prov tag start next before None at there h f = absurd (let none : ⊥ = cc there in none)
reap_done Fresh c m line prov tag start next before (Some place) at there h f =
    let t = turned line (commands.Reap prov tag) (bytes_at line prov) start answers.Done next (place_of (bytes_at line prov) start.drawers) refl h (λ u. (let none : ⊥ = cc (u.refused) in none)) in
    let here : place ≡ t.0 = same_some place t.0 (sym at ∙ t.1) in
    let same : before ≡ t.2.before = same_some before t.2.before (sym there ∙ ap (slice_get start.drawers) here ∙ t.2.found) in
    let old = reach t.2.before start in
    let g : Follows Fresh c m t.2.before.holding t.2.before.disk = subst (λ (d : DrawerState). Follows Fresh c m d.holding d.disk) same f in
    subst (λ (d : DrawerState). AttachedWith d.holding (λ a. IsDoneAsAsked tag a.keying c m)) (sym same)
    (from_row line (commands.Reap prov tag) old answers.Done (reach t.2.after next) (λ a. Replies reaped_or (ReapRow tag a) old answers.Done (reach t.2.after next)) (AttachedWith t.2.before.holding (λ a. IsDoneAsAsked tag a.keying c m)) tt (λ through. through)
    (λ a is step. attached t.2.before.holding ⊥ (λ b. IsDoneAsAsked tag b.keying c m) a is (reaped_done Fresh c m a tag old step.answer (reach t.2.after next) is g step.row step.replied)) t.2.step)

covers_work : (steps more : List Step) (k : Keying) (work : Work) → ((s : Step) → Contains steps s → IsCovered more s) → IsAmongSteps steps k work → CoversWork more k work
covers_work steps more k (Reads sector count ws) each h = h
covers_work steps more k (Writes number sector count bytes) each h = All-weaker (Contains steps) (IsCovered more) each (data_steps number k sector count bytes) h
covers_work steps more k Flushes each h = tt

covers_task : (steps more : List Step) (k : Keying) (found : Option Task) → ((s : Step) → Contains steps s → IsCovered more s) → IfSome found (λ t. IsAmongSteps steps k t.work) → IfSome found (λ t. CoversWork more k t.work)
covers_task steps more k None each h = tt
covers_task steps more k (Some t) each h = covers_work steps more k t.work each h

covers_attached : (found : Option Attachment) (tag : ℕ) (c : Content) (m : Play) (more : List Step) → ((s : Step) → Contains m.steps s → IsCovered more s) → MatchOption found ⊥ (λ a. IsDoneAsAsked tag a.keying c m)
    → MatchOption found ⊥ (λ a. IfSome (task_with tag m.tasks) (λ t. CoversWork more a.keying t.work))
covers_attached None tag c m more each h = h
covers_attached (Some a) tag c m more each h = covers_task m.steps more a.keying (task_with tag m.tasks) each h

pub covers_reaped : (sep : Sep) (served : List ServedLine) (entry start : World) (reap : ServedLine) (prov : Span) (tag : ℕ) (rest : List ServedLine) (end : World) (drawer : DrawerState)
    → Run sep entry served start → HoldKeyings entry.drawers → line_reading sep reap.line ≡ Ok (Some (commands.Reap prov tag)) → reap.answer ≡ Some answers.Done → Run sep start (reap ∷ rest) end → IsAmong end.drawers drawer
    → CoversReaped sep entry served start reap prov tag rest drawer
covers_reaped sep served entry start reap prov tag rest end drawer run keyed asked done behind there =
    let from = came sep (reap ∷ rest) start end drawer behind there in
    let b = from.before in
    let s = survived sep served entry start run keyed b from.was in
    let g = goes (HasNoRequests s.before.holding) s.before.disk.content sep (reap ∷ rest) start b s.play drawer from.way (run_keeps sep served entry start run keyed) s.tells in
    let turn : ServesReading (Ok (Some (commands.Reap prov tag))) reap.line start (Some answers.Done) reap.next =
    subst (λ (a : Option Answer). ServesReading (Ok (Some (commands.Reap prov tag))) reap.line start a reap.next) done
    (subst (λ (r : Result (Option Command) Usage). ServesReading r reap.line start reap.answer reap.next) asked behind.0.0) in
    record {
      before = b;
      was = from.was;
      survives = survives_so sep served entry b s;
      last = g.last;
      places = g.places;
      covers = λ named. told_holds (HasNoRequests s.before.holding) s.before.disk.content s.play b _ s.tells
          (λ c f. covers_attached (attachment_in b.holding) tag c s.play (g.last.steps ++ Flush ∷ []) (λ step did. covered_later s.before.disk.content sep (reap ∷ rest) b drawer s.play g.last step did g.places)
          (reap_done (HasNoRequests s.before.holding) c s.play reap.line prov tag start reap.next b (place_of (bytes_at reap.line prov) start.drawers) refl named turn f));
    }
