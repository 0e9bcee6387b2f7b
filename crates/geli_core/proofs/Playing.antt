-- How the play of a drawer goes on as a line is served that names it.
use Rattle.std.proofs.Common.{◌≡◌, ◌∙◌, false, inl, inr, ℕ, zero, suc, ◌+◌, ◌*◌, ◌/◌, List, [], ◌++◌, length, take, Option, None, Some, refl, sym, ap, subst, arith, append-nil, MatchOption}
use Rattle.std.proofs.Math.Nat.{div-mul-le_self}
use Rattle.std.proofs.lemmas.List.Elements.{All-nil, All-weaker}
use Rattle.command_rows.specs.Rows.{Answer, Attachment, Holding, HoldsKeying, Idle, IsAttached, IsSuspended, Places, PlacesNothing, Reach, attachment_in, bytes_spelled, or_refusal, with_queue}
use Rattle.command_rows.specs.Vocabulary.{Command, Content, DiskState, Event, IsContentOf, IsKeying, JobWords, Keying, Logs, Refusal, Request, Span, bytes_at, data_writes}
use Rattle.command_words.specs.declared.commands.Command.TheVariants as commands
use Rattle.eli_base.specs.declared.refusals.Refusal.TheVariants as refusals
use Rattle.queue_readings.proofs.Among.{fits_among, front_among}
use Rattle.readings.proofs.Writes.{AreStepsBelow-raw, events_of-raw}
use Rattle.reply_text.specs.Answer as answers
use Rattle.command_rows.proofs.Gate.{by_gate, with_attached}
use Rattle.command_rows.proofs.Generated.{length-generated}
use Rattle.command_rows.proofs.Keeping.{KeepsRequests}
use Rattle.geli_core.specs.Placing.{command_played, goes_on, place_played, played_by}
use Rattle.geli_core.specs.Vocabulary.{AnAttached, AreRowEvents, AreStepsBelow, EventsBy, IsNumberedBelow, IsOpenTask, Play, Put, Raw, ReapRow, Replies, Serves, Step, StepRow, SubmitRow, Task, Writing, after, generator, left_or, next_events, pending, placed, raw_steps, reap_answer, reaped_or, refused_by, step_refusal, stores_last, submit_refusal, tag_or, task_with, verb_of, words_of_sectors, workload}
use Rattle.geli_core.proofs.Following.{Tracks, logged_fit, told_on, tracks_raw, tracks_write}
use Rattle.geli_core.proofs.Holdings.{fill_keeps, serves_keeps, write_keeps}
use Rattle.geli_core.proofs.Queues.{within_none}
use Rattle.geli_core.proofs.Requested.{reap_asks, reaped_as, step_asks, stepped_as, submit_asks, submitted_as, tracks_still}
use Rattle.geli_core.proofs.Written.{bytes_spelled-bytes, generated-bytes, row_events, whole_words}

-- ---- a drawer on which nothing is attached

pub record Rests (c : Content) (m : Play) (d : DiskState) : Type 0 where
  pub content : IsContentOf (length c.base) c
  pub told : d.content ≡ Some (after m.steps c)
  pub steps : AreStepsBelow m.next m.steps
  pub none : m.tasks ≡ []

below_more : (next : ℕ) (w : Writing) → IsNumberedBelow next w → IsNumberedBelow (next + 1) w
below_more next (Put p) h = omega (arith, h)
below_more next (Raw bytes) h = tt

AreStepsBelow-more : (next : ℕ) (steps : List Step) → AreStepsBelow next steps → AreStepsBelow (next + 1) steps
AreStepsBelow-more next steps h = record { fit = h.fit; below = All-weaker (IsNumberedBelow next) (IsNumberedBelow (next + 1)) (below_more next) (placed steps) h.below }

told_raw : (c : Content) (steps : List Step) (events : List Event) (d new : DiskState) → d.content ≡ Some (after steps c) → Logs events d new → new.content ≡ Some (after (steps ++ raw_steps events) c)
told_raw c steps events d new told logs = told_on c steps (raw_steps events) d new told (subst (λ (e : List Event). Logs e d new) (sym (events_of-raw events)) logs)

pub rests_raw : (c : Content) (m : Play) (d new : DiskState) (events : List Event) → Rests c m d → Logs events d new → Rests c (goes_on (raw_steps events) [] m) new
rests_raw c m d new events r logs = record {
  content = r.content;
  told = told_raw c m.steps events d new r.told logs;
  steps = AreStepsBelow-more m.next (m.steps ++ raw_steps events) (AreStepsBelow-raw m.next (length c.base) m.steps events r.steps (logged_fit c m.steps events d new r.told logs));
  none = refl;
}

-- what was attached isn't attached any more
tracks_rest : (Fresh : Type 0) (c : Content) (m : Play) (k : Keying) (queue : List Request) (d new : DiskState) (events : List Event) → Tracks Fresh c m k queue d → Logs events d new → Rests c (goes_on (raw_steps events) [] m) new
tracks_rest Fresh c m k queue d new events t logs =
    let on = tracks_raw Fresh c m k queue d new events t logs in
    let steps : List Step = m.steps ++ raw_steps events in
    record {
      content = on.shows.play.content;
      told = on.shows.told;
      steps = fits_among (m.next + 1) (steps ++ pending k m.tasks) steps (front_among steps (pending k m.tasks)) on.shows.play.steps;
      none = refl;
    }

-- a provider is attached anew
rests_anew : (Fresh : Type 0) (c : Content) (m : Play) (k : Keying) (queue : List Request) (d new : DiskState) (events : List Event) → Rests c m d → Logs events d new → IsKeying k → queue ≡ [] → Tracks Fresh c (goes_on (raw_steps events) m.tasks m) k queue new
rests_anew Fresh c m k queue d new events r logs keyed none =
    let on = rests_raw c m d new events r logs in
    let empty : Tracks Fresh c (goes_on (raw_steps events) [] m) k [] new = record {
      shows = record {
        play = record {
          keying = keyed;
          content = on.content;
          steps = subst (AreStepsBelow (m.next + 1)) (sym (append-nil (m.steps ++ raw_steps events))) on.steps;
          tasks = All-nil (IsOpenTask k c (m.steps ++ raw_steps events));
        };
        told = on.told;
        queue = refl;
      };
      within = within_none [];
      apart = tt;
      whole = λ fresh. refl;
    } in
    subst (λ (l : List Task). Tracks Fresh c (goes_on (raw_steps events) l m) k queue new) (sym r.none) (subst (λ (q : List Request). Tracks Fresh c (goes_on (raw_steps events) [] m) k q new) (sym none) empty)

-- ---- a drawer

-- the play of a drawer, by what the drawer does with its disk
abbrev pub FollowsBy : Type 0 → Content → Play → Option Attachment → DiskState → Type 0
FollowsBy Fresh c m found d = MatchOption found (Rests c m d) (λ a. Tracks Fresh c m a.keying a.queue d)

abbrev pub Follows : Type 0 → Content → Play → Holding → DiskState → Type 0
Follows Fresh c m holding d = FollowsBy Fresh c m (attachment_in holding) d

-- ---- lines that log bytes as they came

abbrev raw_played : Option Attachment → List Event → Play → Play
raw_played None events m = goes_on (raw_steps events) [] m
raw_played (Some a) events m = goes_on (raw_steps events) m.tasks m

raw_kept : (Fresh : Type 0) (c : Content) (m : Play) (found : Option Attachment) (d new : DiskState) (events : List Event) → Logs events d new → FollowsBy Fresh c m found d → FollowsBy Fresh c (raw_played found events m) found new
raw_kept Fresh c m None d new events logs f = rests_raw c m d new events f logs
raw_kept Fresh c m (Some a) d new events logs f = tracks_raw Fresh c m a.keying a.queue d new events f logs

pub raw_gone : (Fresh : Type 0) (c : Content) (m : Play) (found : Option Attachment) (d new : DiskState) (events : List Event) → Logs events d new → FollowsBy Fresh c m found d → Rests c (goes_on (raw_steps events) [] m) new
raw_gone Fresh c m None d new events logs f = rests_raw c m d new events f logs
raw_gone Fresh c m (Some a) d new events logs f = tracks_rest Fresh c m a.keying a.queue d new events f logs

raw_follows : (Fresh : Type 0) (c : Content) (m : Play) (old new : Holding) (d d' : DiskState) (events : List Event) → KeepsRequests old new → Logs events d d' → HoldsKeying new → Follows Fresh c m old d → Follows Fresh c (raw_played (attachment_in new) events m) new d'
raw_follows Fresh c m old new d d' events (inl same) logs keyed f =
    subst (λ (h : Holding). Follows Fresh c (raw_played (attachment_in h) events m) h d') (sym same) (raw_kept Fresh c m (attachment_in old) d d' events logs f)
raw_follows Fresh c m old new d d' events (inr (inl none)) logs keyed f =
    subst (λ (o : Option Attachment). FollowsBy Fresh c (raw_played o events m) o d') (sym none) (raw_gone Fresh c m (attachment_in old) d d' events logs f)
raw_follows Fresh c m old new d d' events (inr (inr (none, anew))) logs keyed f =
    let rest : Rests c m d = subst (λ (o : Option Attachment). FollowsBy Fresh c m o d) none f in
    let fits : IsKeying anew.attachment.keying = subst HoldsKeying anew.is keyed in
    subst (λ (h : Holding). Follows Fresh c (raw_played (attachment_in h) events m) h d') (sym anew.is)
    (rests_anew Fresh c m anew.attachment.keying anew.attachment.queue d d' events rest logs fits anew.none)

played_raw : (found : Option Attachment) (line : List ℕ) (command : Command) (told : Option Content) (said : Answer) (events : List Event) (m : Play) → (verb_of command).places line ≡ PlacesNothing → raw_played found events m ≡ played_by found line command told said events m
played_raw None line command told said events m nothing = refl
played_raw (Some a) line command told said events m nothing = ap (λ (p : Places). place_played line p a.keying told said events m) (sym nothing)

-- ---- `write` and `fill`

write_kept : (Fresh : Type 0) (c : Content) (m : Play) (found : Option Attachment) (d new : DiskState) (line : List ℕ) (prov : Span) (sector : ℕ) (hex : Span) (told : Option Content) (said : Answer) (events : List Event) → Logs events d new
    → EventsBy (λ wanted. MatchOption found ⊥ (λ a. wanted ≡ data_writes a.keying sector (length (bytes_spelled (bytes_at line hex)) / a.keying.sectorsize) (bytes_spelled (bytes_at line hex)))) false said events
    → FollowsBy Fresh c m found d → FollowsBy Fresh c (played_by found line (commands.Write prov sector hex) told said events m) found new
write_kept Fresh c m None d new line prov sector hex told said events logs of_line f = rests_raw c m d new events f logs
write_kept Fresh c m (Some a) d new line prov sector hex told said events logs of_line f =
    let bytes : List ℕ = bytes_spelled (bytes_at line hex) in
    let count : ℕ = length bytes / a.keying.sectorsize in
    tracks_write Fresh c m a.keying a.queue d new sector count (length events) bytes f (bytes_spelled-bytes (bytes_at line hex)) (div-mul-le_self (length bytes) a.keying.sectorsize)
    (subst (λ (e : List Event). Logs e d new) (row_events (data_writes a.keying sector count bytes) said events of_line) logs)

fill_kept : (Fresh : Type 0) (c : Content) (m : Play) (found : Option Attachment) (d new : DiskState) (line : List ℕ) (prov : Span) (seed start count : ℕ) (told : Option Content) (said : Answer) (events : List Event) → Logs events d new
    → EventsBy (λ wanted. MatchOption found ⊥ (λ a. wanted ≡ data_writes a.keying start count (workload seed (words_of_sectors a.keying.sectorsize count)))) false said events
    → FollowsBy Fresh c m found d → FollowsBy Fresh c (played_by found line (commands.Fill prov seed start count) told said events m) found new
fill_kept Fresh c m None d new line prov seed start count told said events logs of_line f = rests_raw c m d new events f logs
fill_kept Fresh c m (Some a) d new line prov seed start count told said events logs of_line f =
    let words : ℕ = words_of_sectors a.keying.sectorsize count in
    let bytes : List ℕ = workload seed words in
    let long : length bytes ≡ 8 * words = length-generated words (generator seed) in
    tracks_write Fresh c m a.keying a.queue d new start count (length events) bytes f (generated-bytes words (generator seed)) (omega (arith, long, whole_words a.keying.sectorsize count f.shows.play.keying.whole))
    (subst (λ (e : List Event). Logs e d new) (row_events (data_writes a.keying start count bytes) said events of_line) logs)

-- ---- `submit`, `step` and `reap`

-- if nothing is attached, requests are refused
unattached : (holding : Holding) (refusal : Refusal) → refused_by AnAttached holding ≡ Some refusal → attachment_in holding ≡ None
unattached Idle refusal h = refl
unattached (IsAttached a) refusal h = absurd (let none : ⊥ = cc h in none)
unattached (IsSuspended kept) refusal h = refl

refused_follows : (Fresh : Type 0) (c : Content) (m : Play) (line : List ℕ) (command : Command) (said : Answer) (old new : Reach) (events : List Event) → attachment_in old.holding ≡ None → new ≡ old → Logs events old.disk new.disk → Follows Fresh c m old.holding old.disk
    → Follows Fresh c (played_by (attachment_in new.holding) line command (Some c) said events m) new.holding new.disk
refused_follows Fresh c m line command said old new events none same logs f =
    let gone : attachment_in new.holding ≡ None = ap (λ (r : Reach). attachment_in r.holding) same ∙ none in
    let rest : Rests c m old.disk = subst (λ (o : Option Attachment). FollowsBy Fresh c m o old.disk) none f in
    subst (λ (o : Option Attachment). FollowsBy Fresh c (played_by o line command (Some c) said events m) o new.disk) (sym gone) (rests_raw c m old.disk new.disk events rest logs)

-- a row after which this is attached, by its result
row_follows : (Fresh : Type 0) (c : Content) (m : Play) (line : List ℕ) (command : Command) (said is : Answer) (b : Attachment) (new : Reach) (events : List Event) → said ≡ is → new.holding ≡ IsAttached b
    → Tracks Fresh c (command_played line command b.keying (Some c) is events m) b.keying b.queue new.disk → Follows Fresh c (played_by (attachment_in new.holding) line command (Some c) said events m) new.holding new.disk
row_follows Fresh c m line command said is b new events replied holds t =
    subst (λ (a : Answer). Follows Fresh c (played_by (attachment_in new.holding) line command (Some c) a events m) new.holding new.disk) (sym replied)
    (subst (λ (h : Holding). Follows Fresh c (played_by (attachment_in h) line command (Some c) is events m) h new.disk) (sym holds) t)

pub tracked : (Fresh : Type 0) (c : Content) (m : Play) (a : Attachment) (holding : Holding) (d : DiskState) → holding ≡ IsAttached a → Follows Fresh c m holding d → Tracks Fresh c m a.keying a.queue d
tracked Fresh c m a holding d is f = subst (λ (h : Holding). Follows Fresh c m h d) is f

no_more : (said : Answer) (events : List Event) → EventsBy (λ wanted. wanted ≡ []) false said events → events ≡ []
no_more said events h = row_events [] said events h ∙ none (length events)
  where
    none : (n : ℕ) → take {A = Event} n [] ≡ []
    none zero = refl
    none (suc n) = refl

submit_row : (Fresh : Type 0) (c : Content) (m : Play) (line : List ℕ) (prov : Span) (job : JobWords) (a : Attachment) (said : Answer) (old new : Reach) (events : List Event) → old.holding ≡ IsAttached a → IsKeying a.keying → Replies tag_or (SubmitRow line job a) old said new
    → Logs events old.disk new.disk → events ≡ [] → Follows Fresh c m old.holding old.disk → Follows Fresh c (played_by (attachment_in new.holding) line (commands.Submit prov job) (Some c) said events m) new.holding new.disk
submit_row Fresh c m line prov job a said old new events is keyed row logs none f =
    let t = tracked Fresh c m a old.holding old.disk is f in
    elim (submit_asks line job a old row.answer new keyed row.row) [
      | inl refusal ↦
          row_follows Fresh c m line (commands.Submit prov job) said (answers.Refused refusal.refusal) a new events (row.replied ∙ ap tag_or refusal.is) (ap (λ (r : Reach). r.holding) refusal.unchanged ∙ is)
          (tracks_raw Fresh c m a.keying a.queue old.disk new.disk events t logs)
      | inr asks ↦
          let s = asks.submits in
          row_follows Fresh c m line (commands.Submit prov job) said (tag_or (or_refusal submit_refusal s.tag)) (with_queue s.queue a) new events (row.replied ∙ ap tag_or s.answered) (ap (λ (r : Reach). r.holding) s.left)
          (submitted_as Fresh c m line job a asks.job asks.from s.queue s.tag old.disk new.disk events t asks.small asks.is_asked asks.work s.submits (ap (λ (r : Reach). r.disk) s.left) none)
    ]

step_row : (Fresh : Type 0) (c : Content) (m : Play) (line : List ℕ) (prov : Span) (tag : ℕ) (a : Attachment) (said : Answer) (old new : Reach) (events : List Event) → old.holding ≡ IsAttached a → Replies left_or (StepRow tag a) old said new → Logs events old.disk new.disk
    → EventsBy (λ wanted. wanted ≡ next_events tag a.queue) false said events → Follows Fresh c m old.holding old.disk → Follows Fresh c (played_by (attachment_in new.holding) line (commands.Step prov tag) (Some c) said events m) new.holding new.disk
step_row Fresh c m line prov tag a said old new events is row logs of_line f =
    let t = tracked Fresh c m a old.holding old.disk is f in
    elim (step_asks tag a old row.answer new row.row) [
      | inl none ↦
          let replied : said ≡ answers.Refused (refusals.NoRequest tag) = row.replied ∙ ap left_or none.is in
          let nothing : events ≡ [] = subst (λ (s : Answer). EventsBy (λ wanted. wanted ≡ next_events tag a.queue) false s events) replied of_line in
          row_follows Fresh c m line (commands.Step prov tag) said (answers.Refused (refusals.NoRequest tag)) a new events replied (ap (λ (r : Reach). r.holding) none.unchanged ∙ is)
          (tracks_still Fresh c m a.keying a.queue a.queue old.disk new.disk (task_with tag m.tasks) events t refl logs nothing)
      | inr s ↦
          let replied : said ≡ left_or (or_refusal (step_refusal tag) s.left) = row.replied ∙ ap left_or s.answered in
          row_follows Fresh c m line (commands.Step prov tag) said (left_or (or_refusal (step_refusal tag) s.left)) (with_queue s.queue a) new events replied s.holding
          (stepped_as Fresh c m a.keying a.queue s.queue old.disk new.disk tag events s.left t s.steps logs (subst (λ (x : Answer). EventsBy (λ wanted. wanted ≡ next_events tag a.queue) false x events) replied of_line))
    ]

reap_row : (Fresh : Type 0) (c : Content) (m : Play) (line : List ℕ) (prov : Span) (tag : ℕ) (a : Attachment) (said : Answer) (old new : Reach) (events : List Event) → old.holding ≡ IsAttached a → Replies reaped_or (ReapRow tag a) old said new → Logs events old.disk new.disk
    → events ≡ [] → Follows Fresh c m old.holding old.disk → Follows Fresh c (played_by (attachment_in new.holding) line (commands.Reap prov tag) (Some c) said events m) new.holding new.disk
reap_row Fresh c m line prov tag a said old new events is row logs none f =
    let t = tracked Fresh c m a old.holding old.disk is f in
    elim (reap_asks tag a old row.answer new row.row) [
      | inl missing ↦
          row_follows Fresh c m line (commands.Reap prov tag) said (answers.Refused (refusals.NoRequest tag)) a new events (row.replied ∙ ap reaped_or missing.is) (ap (λ (r : Reach). r.holding) missing.unchanged ∙ is)
          (tracks_raw Fresh c m a.keying a.queue old.disk new.disk events t logs)
      | inr r ↦
          row_follows Fresh c m line (commands.Reap prov tag) said (reaped_or (reap_answer tag r.after r.given)) (with_queue r.queue a) new events (row.replied ∙ ap reaped_or r.answered) (ap (λ (x : Reach). x.holding) r.left)
          (reaped_as Fresh c m a.keying a.queue r.queue old.disk new.disk tag r.before r.after events r.given t r.reaps (ap (λ (x : Reach). x.disk) r.left) none)
    ]

-- ---- a line

pub keyed_by : (holding : Holding) (a : Attachment) → holding ≡ IsAttached a → HoldsKeying holding → IsKeying a.keying
keyed_by holding a is had = subst HoldsKeying is had

pub line_follows : (Fresh : Type 0) (c : Content) (m : Play) (line : List ℕ) (command : Command) (said : Answer) (old new : Reach) (events : List Event) → Serves line command old said new → Logs events old.disk new.disk
    → EventsBy (AreRowEvents line command old.disk old.holding) (stores_last command) said events → HoldsKeying old.holding → HoldsKeying new.holding → Follows Fresh c m old.holding old.disk
    → Follows Fresh c (played_by (attachment_in new.holding) line command (Some c) said events m) new.holding new.disk
line_follows Fresh c m line (commands.Write prov sector hex) said old new events h logs of_line had keyed f =
    subst (λ (x : Holding). Follows Fresh c (played_by (attachment_in x) line (commands.Write prov sector hex) (Some c) said events m) x new.disk) (sym (write_keeps line prov sector hex old said new h))
    (write_kept Fresh c m (attachment_in old.holding) old.disk new.disk line prov sector hex (Some c) said events logs of_line f)
line_follows Fresh c m line (commands.Fill prov seed start count) said old new events h logs of_line had keyed f =
    subst (λ (x : Holding). Follows Fresh c (played_by (attachment_in x) line (commands.Fill prov seed start count) (Some c) said events m) x new.disk) (sym (fill_keeps line prov seed start count old said new h))
    (fill_kept Fresh c m (attachment_in old.holding) old.disk new.disk line prov seed start count (Some c) said events logs of_line f)
line_follows Fresh c m line (commands.Submit prov job) said old new events h logs of_line had keyed f =
    by_gate line (commands.Submit prov job) old said new _
    (λ row. with_attached old.holding _ _ (λ a is through. submit_row Fresh c m line prov job a said old new events is (keyed_by old.holding a is had) through logs (no_more said events of_line) f) row)
    (λ refusal is refused. refused_follows Fresh c m line (commands.Submit prov job) said old new events (unattached old.holding refusal is) refused.unchanged logs f) h
line_follows Fresh c m line (commands.Step prov tag) said old new events h logs of_line had keyed f =
    by_gate line (commands.Step prov tag) old said new _
    (λ row. with_attached old.holding _ _
    (λ a is through. step_row Fresh c m line prov tag a said old new events is through logs (subst (λ (x : Holding). EventsBy (AreRowEvents line (commands.Step prov tag) old.disk x) false said events) is of_line) f) row)
    (λ refusal is refused. refused_follows Fresh c m line (commands.Step prov tag) said old new events (unattached old.holding refusal is) refused.unchanged logs f) h
line_follows Fresh c m line (commands.Reap prov tag) said old new events h logs of_line had keyed f =
    by_gate line (commands.Reap prov tag) old said new _
    (λ row. with_attached old.holding _ _ (λ a is through. reap_row Fresh c m line prov tag a said old new events is through logs (no_more said events of_line) f) row)
    (λ refusal is refused. refused_follows Fresh c m line (commands.Reap prov tag) said old new events (unattached old.holding refusal is) refused.unchanged logs f) h
line_follows Fresh c m line command said old new events h logs of_line had keyed f =
    subst (λ (p : Play). Follows Fresh c p new.holding new.disk) (played_raw (attachment_in new.holding) line command (Some c) said events m refl)
    (raw_follows Fresh c m old.holding new.holding old.disk new.disk events (serves_keeps line command old said new refl h) logs keyed f)
