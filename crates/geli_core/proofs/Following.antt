-- The play of an attached drawer: its steps fit one another, and its tasks are requests of the queue.
use Rattle.std.proofs.Common.{◌≡◌, ◌∙◌, ℕ, zero, suc, ◌+◌, ◌*◌, ◌≤◌, ◌==◌, Bool, true, false, cond, List, [], ◌∷◌, ◌++◌, length, map, take, All, Contains, Option, None, Some, refl, sym, ap, subst, arith, append_assoc, append-nil, length-append}
use Rattle.std.specs.Option.{option_map}
use Rattle.std.proofs.lemmas.List.{length-map, map-append}
use Rattle.std.proofs.lemmas.List.Elements.{All-nil, All-weaker}
use Rattle.std.proofs.lemmas.Bool.{eqb-true}
use Rattle.block_traits.proofs.Logs.{Logs-nothing}
use Rattle.command_rows.specs.Vocabulary.{Content, DiskState, Event, FailsStep, FitsSize, Gave, HasBadUnit, IsAsked, IsContentOf, IsEventOf, IsSubmitted, Job, JobIsInRange, Keying, Logs, Reaped, Request, StepsOn, TakesOut, asked, data_writes, exchanged, logged, put_in, request_with, step_events, units, without}
use Rattle.bio_queue.specs.Requests as requests
use Rattle.bio_queue.specs.declared.job.Job.TheVariants as job
use Rattle.queue_readings.proofs.Among.{PlacesAmong, among_behind, among_front, among_then, fits_other, fits_write, pending-each}
use Rattle.queue_readings.proofs.Calls.{breaks_off, events_between, higher_number, reaps, reaps_fault, same_media, steps_on, written_between}
use Rattle.queue_readings.proofs.Lists.{all_put, put_shown}
use Rattle.queue_readings.proofs.Puts.{sealed-shown}
use Rattle.geli_core.specs.Placing.{goes_on}
use Rattle.geli_core.specs.Vocabulary.{AreBytes, AreStepsBelow, Flushes, IsFaulty, IsOpenTask, IsPlay, Play, Reads, Shows, Step, StoodThere, Task, Work, Writes, Writing, Yields, after, broken, cell, content_media, data_steps, event_of, events_of, exchange_task, pending, placed, put_task, raw_steps, reaped, request_of, steps_of, submitted, task_after, task_stepped, task_with, unit_steps, without_task, work_of}
use Rattle.geli_core.proofs.Drawn.{same_some}
use Rattle.geli_core.proofs.Queues.{AreApart, IsWithin, apart_exchanged, apart_put_in, apart_without, found_within, free_within, request_with-map, tag_of_request, within_exchanged, within_exchanged_other, within_put_in, within_without, within_without_other}

-- ---- the disk

All-rest : (P : Event → Type 0) (xs ys : List Event) → All P (xs ++ ys) → All P ys
All-rest P [] ys all = all
All-rest P (x ∷ xs) ys all = All-rest P xs ys (λ i d lt. all (suc i) d (omega arith))

-- events that a disk logged fit it
pub logged_fit : (c : Content) (steps : List Step) (events : List Event) (d new : DiskState) → d.content ≡ Some (after steps c) → Logs events d new → All (IsEventOf (length c.base)) events
logged_fit c steps events d new told logs =
    let now : new.content ≡ logged events (Some (after steps c)) = logs.content ∙ ap (logged events) told in
    let fits : IsContentOf new.size (record { base = c.base; history = (c.history ++ events_of steps) ++ events }) = subst (FitsSize new.size) now new.well_formed.fits in
    subst (λ (n : ℕ). All (IsEventOf n) events) (sym fits.sectors) (All-rest (IsEventOf new.size) (c.history ++ events_of steps) events fits.events)

-- what a disk reports after these steps
pub told_on : (c : Content) (steps more : List Step) (d new : DiskState) → d.content ≡ Some (after steps c) → Logs (events_of more) d new → new.content ≡ Some (after (steps ++ more) c)
told_on c steps more d new told logs =
    logs.content ∙ ap (logged (events_of more)) told
    ∙ ap (λ (h : List Event). Some (record { base = c.base; history = h })) (append_assoc c.history (events_of steps) (events_of more) ∙ ap (λ (l : List Event). c.history ++ l) (sym (map-append event_of steps more)))

-- ---- an attached drawer

-- the tasks are requests of the queue, by their tags, and its only ones if it had none at first
pub record Tracks (Fresh : Type 0) (c : Content) (m : Play) (k : Keying) (queue : List Request) (d : DiskState) : Type 0 where
  pub shows : Shows k c m (map (request_of k) m.tasks) d
  pub within : IsWithin (map (request_of k) m.tasks) queue
  pub apart : AreApart (map (request_of k) m.tasks)
  pub whole : Fresh → queue ≡ map (request_of k) m.tasks

-- events of the drawer's disk that come in some other way
pub tracks_raw : (Fresh : Type 0) (c : Content) (m : Play) (k : Keying) (queue : List Request) (d new : DiskState) (events : List Event) → Tracks Fresh c m k queue d → Logs events d new → Tracks Fresh c (goes_on (raw_steps events) m.tasks m) k queue new
tracks_raw Fresh c m k queue d new events t logs = record {
  shows = higher_number k c (record { steps = m.steps ++ raw_steps events; tasks = m.tasks; next = m.next }) (map (request_of k) m.tasks) new (m.next + 1)
      (events_between k c m (map (request_of k) m.tasks) d new events t.shows (logged_fit c m.steps events d new t.shows.told logs) logs) (omega arith);
  within = t.within;
  apart = t.apart;
  whole = t.whole;
}

-- a write, or the first of its units
pub tracks_write : (Fresh : Type 0) (c : Content) (m : Play) (k : Keying) (queue : List Request) (d new : DiskState) (sector count many : ℕ) (bytes : List ℕ) → Tracks Fresh c m k queue d → AreBytes bytes → count * k.sectorsize ≤ length bytes
    → Logs (take many (data_writes k sector count bytes)) d new → Tracks Fresh c (goes_on (take many (data_steps m.next k sector count bytes)) m.tasks m) k queue new
tracks_write Fresh c m k queue d new sector count many bytes t small long logs = record {
  shows = written_between k c m (map (request_of k) m.tasks) d new sector count many bytes t.shows small long logs;
  within = t.within;
  apart = t.apart;
  whole = t.whole;
}

-- ---- a request is submitted

asked-shown : (k : Keying) (tag next : ℕ) (j : Job) (from : List ℕ) → asked k tag j from ≡ request_of k (record { tag = tag; done = 0; work = work_of next j from })
asked-shown k tag next (job.Read sector count) from = refl
asked-shown k tag next (job.Write sector count) from =
    λ i. record { tag = tag; job = job.Write sector count; done = 0; units = count * units k; device = sealed-shown next k sector count from i }
asked-shown k tag next job.Flush from = refl

-- the play after a request was submitted
open_still : (k : Keying) (c : Content) (m : Play) (new : Task) → IsPlay k c m → IsOpenTask k c m.steps new → PlacesAmong k (placed (pending k m.tasks)) new → IsPlay k c (record { steps = m.steps; tasks = put_task new m.tasks; next = m.next })
open_still k c m new play is among = record {
  keying = play.keying;
  content = play.content;
  steps = subst (λ (l : List Step). AreStepsBelow m.next (l ++ pending k (put_task new m.tasks))) (append-nil m.steps)
      (fits_other k m.next m.steps [] m.tasks (put_task new m.tasks) play.steps (All-nil (Contains (placed (pending k m.tasks)))) (all_put (PlacesAmong k (placed (pending k m.tasks))) new m.tasks among (pending-each k m.tasks)));
  tasks = all_put (IsOpenTask k c m.steps) new m.tasks is play.tasks;
}

play_open : (k : Keying) (c : Content) (m : Play) (tag : ℕ) (j : Job) (from : List ℕ) → IsPlay k c m → AreBytes from → IsAsked k.sectorsize j from → JobIsInRange (content_media k c) j → IsPlay k c (submitted tag j from m)
play_open k c m tag (job.Read sector count) from play small is_asked range =
    open_still k c m (record { tag = tag; done = 0; work = Reads sector count [] }) play (refl, is_asked.0, range, All-nil (StoodThere m.steps)) (All-nil (Contains (placed (pending k m.tasks))))
play_open k c m tag (job.Write sector count) from play small is_asked range =
    let new : Task = record { tag = tag; done = 0; work = Writes m.next sector count from } in
    let own : List Writing = placed (data_steps m.next k sector count from) in
    let those : List Writing = placed (pending k m.tasks) ++ own in
    let old_in = All-weaker (PlacesAmong k (placed (pending k m.tasks))) (PlacesAmong k those)
    (λ t h. among_then (placed (steps_of k t.work)) (placed (pending k m.tasks)) those h (among_front (placed (pending k m.tasks)) own)) m.tasks (pending-each k m.tasks) in
    let long = is_asked.2 in
    record {
      keying = play.keying;
      content = play.content;
      steps = fits_write k m.next sector count from m.steps m.tasks (put_task new m.tasks) play.steps play.keying small (omega (arith, long))
          (all_put (PlacesAmong k those) new m.tasks (among_behind (placed (pending k m.tasks)) own) old_in);
      tasks = all_put (IsOpenTask k c m.steps) new m.tasks (is_asked.0, range, All-nil (Contains m.steps)) play.tasks;
    }
play_open k c m tag job.Flush from play small is_asked range =
    open_still k c m (record { tag = tag; done = 0; work = Flushes }) play tt (All-nil (Contains (placed (pending k m.tasks))))

next_below : (j : Job) (from : List ℕ) (tag : ℕ) (m : Play) → (submitted tag j from m).next ≤ m.next + 1
next_below (job.Read sector count) from tag m = omega arith
next_below (job.Write sector count) from tag m = omega arith
next_below job.Flush from tag m = omega arith

pub tracks_submitted : (Fresh : Type 0) (c : Content) (m : Play) (k : Keying) (readonly : Bool) (queue more : List Request) (d : DiskState) (j : Job) (from : List ℕ) (tag : ℕ) → Tracks Fresh c m k queue d → AreBytes from → IsAsked k.sectorsize j from
    → IsSubmitted k readonly d j from queue more tag → Tracks Fresh c (goes_on [] (put_task (record { tag = tag; done = 0; work = work_of m.next j from }) m.tasks) m) k more d
tracks_submitted Fresh c m k readonly queue more d j from tag t small is_asked h =
    let few : List Request = map (request_of k) m.tasks in
    let task : Task = record { tag = tag; done = 0; work = work_of m.next j from } in
    let r : Request = request_of k task in
    let still : Play = record { steps = m.steps ++ []; tasks = m.tasks; next = m.next } in
    let now = events_between k c m few d d [] t.shows (All-nil (IsEventOf (length c.base))) (Logs-nothing d) in
    let range = subst (λ (n : ℕ). JobIsInRange n j) (same_media k c m.steps d t.shows.told) h.admitted.in_range in
    let opened : IsPlay k c (submitted tag j from still) = play_open k c still tag j from now.play small is_asked range in
    let shown : put_in r few ≡ map (request_of k) (put_task task m.tasks) = put_shown k task m.tasks in
    let is : more ≡ put_in r queue = h.queue ∙ ap (λ (x : Request). put_in x queue) (asked-shown k tag m.next j from) in
    record {
      shows = higher_number k c (submitted tag j from still) (map (request_of k) (put_task task m.tasks)) d (m.next + 1) (record { play = opened; told = now.told; queue = refl }) (next_below j from tag still);
      within = subst (IsWithin (map (request_of k) (put_task task m.tasks))) (sym is) (subst (λ (q : List Request). IsWithin q (put_in r queue)) shown (within_put_in r few queue h.free.free t.within));
      apart = subst AreApart shown (apart_put_in r few (free_within few queue tag t.within h.free.free) t.apart);
      whole = λ fresh. is ∙ ap (put_in r) (t.whole fresh) ∙ shown;
    }

-- ---- a step of a request

found_few : (k : Keying) (tag : ℕ) (tasks : List Task) (task : Task) → task_with tag tasks ≡ Some task → request_with tag (map (request_of k) tasks) ≡ Some (request_of k task)
found_few k tag tasks task h = request_with-map k tag tasks ∙ ap (option_map (request_of k)) h

none_few : (k : Keying) (tag : ℕ) (tasks : List Task) → task_with tag tasks ≡ None → request_with tag (map (request_of k) tasks) ≡ None
none_few k tag tasks h = request_with-map k tag tasks ∙ ap (option_map (request_of k)) h

-- a request that is found is that of its task
pub the_same : (Fresh : Type 0) (c : Content) (m : Play) (k : Keying) (queue : List Request) (d : DiskState) (tag : ℕ) (task : Task) (r : Request) → Tracks Fresh c m k queue d → task_with tag m.tasks ≡ Some task → request_with tag queue ≡ Some r → request_of k task ≡ r
the_same Fresh c m k queue d tag task r t known found =
    same_some (request_of k task) r (sym (found_within (map (request_of k) m.tasks) queue tag (request_of k task) t.within (found_few k tag m.tasks task known)) ∙ found)

pub tracks_stepped : (Fresh : Type 0) (c : Content) (m : Play) (k : Keying) (queue more : List Request) (d new : DiskState) (tag left : ℕ) (task : Task) → Tracks Fresh c m k queue d → task_with tag m.tasks ≡ Some task → StepsOn tag left queue more d new
    → Tracks Fresh c (goes_on (unit_steps k task.work task.done) (exchange_task (task_after k (cell c m.steps) task) m.tasks) m) k more new
tracks_stepped Fresh c m k queue more d new tag left task t known h =
    let few : List Request = map (request_of k) m.tasks in
    let r : Request = requests.stepped h.request h.bytes in
    let is : request_of k task ≡ h.request = the_same Fresh c m k queue d tag task h.request t known h.found in
    let s = steps_on k c m tag left few (exchanged r few) d new t.shows (record {
      request = h.request;
      found = found_few k tag m.tasks task known ∙ ap (λ (x : Request). Some x) is;
      more = h.more;
      logs = h.logs;
      asked = h.asked;
      bytes = h.bytes;
      given = h.given;
      queue = refl;
      rest = h.rest;
    }) in
    let same : s.task ≡ task = same_some s.task task (sym s.found ∙ known) in
    let shows : Shows k c (task_stepped k c task m) (exchanged r few) new = subst (λ (x : Task). Shows k c (task_stepped k c x m) (exchanged r few) new) same s.shows in
    let all : List Request = map (request_of k) (exchange_task (task_after k (cell c m.steps) task) m.tasks) in
    let shown : exchanged r few ≡ all = shows.queue in
    record {
      shows = higher_number k c (task_stepped k c task m) all new (m.next + 1) (record { play = shows.play; told = shows.told; queue = refl }) (omega arith);
      within = subst (IsWithin all) (sym h.queue) (subst (λ (q : List Request). IsWithin q (exchanged r queue)) shown (within_exchanged r few queue t.within));
      apart = subst AreApart shown (apart_exchanged r few t.apart);
      whole = λ fresh. h.queue ∙ ap (exchanged r) (t.whole fresh) ∙ shown;
    }

-- a request that was open before the run
none_fresh : (Fresh : Type 0) (c : Content) (m : Play) (k : Keying) (queue : List Request) (d : DiskState) (tag : ℕ) (r : Request) → Tracks Fresh c m k queue d → task_with tag m.tasks ≡ None → request_with tag queue ≡ Some r → Fresh → ⊥
none_fresh Fresh c m k queue d tag r t unknown found fresh =
    let none : request_with tag queue ≡ None = ap (request_with tag) (t.whole fresh) ∙ none_few k tag m.tasks unknown in
    (let differ : ⊥ = cc (found, none) in differ)

pub tracks_stepped_other : (Fresh : Type 0) (c : Content) (m : Play) (k : Keying) (queue more : List Request) (d new : DiskState) (tag left : ℕ) (events : List Event) → Tracks Fresh c m k queue d → task_with tag m.tasks ≡ None → StepsOn tag left queue more d new
    → Logs events d new → Tracks Fresh c (goes_on (raw_steps events) m.tasks m) k more new
tracks_stepped_other Fresh c m k queue more d new tag left events t unknown h logs =
    let few : List Request = map (request_of k) m.tasks in
    let r : Request = requests.stepped h.request h.bytes in
    let on = tracks_raw Fresh c m k queue d new events t logs in
    let other : request_with r.tag few ≡ None = subst (λ (n : ℕ). request_with n few ≡ None) (sym (eqb-true h.request.tag tag (tag_of_request tag queue h.request h.found))) (none_few k tag m.tasks unknown) in
    record {
      shows = on.shows;
      within = subst (IsWithin few) (sym h.queue) (within_exchanged_other r few queue other t.within);
      apart = on.apart;
      whole = λ fresh. absurd (none_fresh Fresh c m k queue d tag h.request t unknown h.found fresh);
    }

-- ---- a step at which the disk failed

same_length : {X : Type 0} (a b : ℕ) (xs : List X) → length (take a xs) ≡ length (take b xs) → take a xs ≡ take b xs
same_length zero zero [] h = refl
same_length zero zero (x ∷ xs) h = refl
same_length zero (suc b) [] h = refl
same_length zero (suc b) (x ∷ xs) h = absurd (omega (arith, h))
same_length (suc a) zero [] h = refl
same_length (suc a) zero (x ∷ xs) h = absurd (omega (arith, h))
same_length (suc a) (suc b) [] h = refl
same_length (suc a) (suc b) (x ∷ xs) h = ap (λ l. x ∷ l) (same_length a b xs (omega (arith, h)))

-- there are as many events as the disk reports of steps
as_many : (c : Content) (steps more : List Step) (events : List Event) (d new : DiskState) → d.content ≡ Some (after steps c) → Logs events d new → new.content ≡ Some (after (steps ++ more) c) → length more ≡ length events
as_many c steps more events d new told logs then =
    let both : Some (after (steps ++ more) c) ≡ logged events (Some (after steps c)) = sym then ∙ logs.content ∙ ap (logged events) told in
    let same : after (steps ++ more) c ≡ record { base = c.base; history = (c.history ++ events_of steps) ++ events } = same_some _ _ both in
    let long = ap (λ (x : Content). length x.history) same in
    let one = length-append c.history (events_of (steps ++ more)) in
    let two = length-map (steps ++ more) event_of in
    let three = length-append steps more in
    let four = length-append (c.history ++ events_of steps) events in
    let five = length-append c.history (events_of steps) in
    let six = length-map steps event_of in
    omega (arith, long, one, two, three, four, five, six)

pub unit_events : (k : Keying) (task : Task) → length (step_events (request_of k task)) ≡ length (unit_steps k task.work task.done)
unit_events k task = by task.work
  where
    by : (work : Work) → length (step_events (request_of k (record { tag = task.tag; done = task.done; work = work }))) ≡ length (unit_steps k work task.done)
    by (Reads sector count ws) = refl
    by (Writes number sector count bytes) = refl
    by Flushes = refl

taken_as_many : {X Y : Type 0} (n : ℕ) (xs : List X) (ys : List Y) → length xs ≡ length ys → length (take n xs) ≡ length (take n ys)
taken_as_many zero [] [] h = refl
taken_as_many zero [] (y ∷ ys) h = refl
taken_as_many zero (x ∷ xs) [] h = refl
taken_as_many zero (x ∷ xs) (y ∷ ys) h = refl
taken_as_many (suc n) [] [] h = refl
taken_as_many (suc n) [] (y ∷ ys) h = absurd (omega (arith, h))
taken_as_many (suc n) (x ∷ xs) [] h = absurd (omega (arith, h))
taken_as_many (suc n) (x ∷ xs) (y ∷ ys) h = ap suc (taken_as_many n xs ys (omega (arith, h)))

pub tracks_broken : (Fresh : Type 0) (c : Content) (m : Play) (k : Keying) (queue more : List Request) (d new : DiskState) (tag : ℕ) (task : Task) (events : List Event) → Tracks Fresh c m k queue d → task_with tag m.tasks ≡ Some task → FailsStep tag queue more d new
    → Logs events d new → events ≡ take (length events) (requests.step_events (request_of k task)) → Tracks Fresh c (goes_on (take (length events) (unit_steps k task.work task.done)) m.tasks m) k more new
tracks_broken Fresh c m k queue more d new tag task events t known h logs first =
    let few : List Request = map (request_of k) m.tasks in
    let is : request_of k task ≡ h.request = the_same Fresh c m k queue d tag task h.request t known h.found in
    let s = breaks_off k c m tag few few d new t.shows (record {
      request = h.request;
      found = found_few k tag m.tasks task known ∙ ap (λ (x : Request). Some x) is;
      more = h.more;
      fails = h.fails;
      asked = h.asked;
      queue = refl;
    }) in
    let same : s.task ≡ task = same_some s.task task (sym s.found ∙ known) in
    let units_of_it : List Step = unit_steps k task.work task.done in
    let shows : Shows k c (broken k task s.many m) few new = subst (λ (x : Task). Shows k c (broken k x s.many m) few new) same s.shows in
    let many = as_many c m.steps (take s.many units_of_it) events d new t.shows.told logs shows.told in
    let size : length events ≡ length (take (length events) units_of_it) = ap (λ (l : List Event). length l) first ∙ taken_as_many (length events) (step_events (request_of k task)) units_of_it (unit_events k task) in
    let front : take s.many units_of_it ≡ take (length events) units_of_it = same_length s.many (length events) units_of_it (many ∙ size) in
    let ended : Play = record { steps = m.steps ++ take (length events) units_of_it; tasks = m.tasks; next = m.next } in
    let now : Shows k c ended few new = subst (λ (l : List Step). Shows k c (record { steps = m.steps ++ l; tasks = m.tasks; next = m.next }) few new) front shows in
    record {
      shows = higher_number k c ended few new (m.next + 1) now (omega arith);
      within = subst (IsWithin few) (sym h.queue) t.within;
      apart = t.apart;
      whole = λ fresh. h.queue ∙ t.whole fresh;
    }

-- ---- a request is reaped

without_step : (tag : ℕ) (x : Task) (tasks : List Task) (b : Bool) → (task_with tag tasks ≡ None → without_task tag tasks ≡ tasks) → cond b (Some x) (task_with tag tasks) ≡ None → cond b tasks (x ∷ without_task tag tasks) ≡ x ∷ tasks
without_step tag x tasks true more h = absurd (let differ : ⊥ = cc h in differ)
without_step tag x tasks false more h = ap (λ (l : List Task). x ∷ l) (more h)

without_none : (tag : ℕ) (tasks : List Task) → task_with tag tasks ≡ None → without_task tag tasks ≡ tasks
without_none tag [] h = refl
without_none tag (x ∷ tasks) h = without_step tag x tasks (x.tag == tag) (without_none tag tasks) h

-- the play after a request is reaped, as the law of the queue says it of the tasks alone
tracks_left : (Fresh : Type 0) (c : Content) (m : Play) (k : Keying) (queue more : List Request) (d : DiskState) (tag : ℕ) → Tracks Fresh c m k queue d → more ≡ without tag queue → Shows k c (reaped tag m) (without tag (map (request_of k) m.tasks)) d
    → Tracks Fresh c (goes_on [] (without_task tag m.tasks) m) k more d
tracks_left Fresh c m k queue more d tag t is shows =
    let few : List Request = map (request_of k) m.tasks in
    let all : List Request = map (request_of k) (without_task tag m.tasks) in
    let shown : without tag few ≡ all = shows.queue in
    let still = events_between k c (reaped tag m) all d d [] (record { play = shows.play; told = shows.told; queue = refl }) (All-nil (IsEventOf (length c.base))) (Logs-nothing d) in
    record {
      shows = higher_number k c (record { steps = m.steps ++ []; tasks = without_task tag m.tasks; next = m.next }) all d (m.next + 1) still (omega arith);
      within = subst (IsWithin all) (sym is) (subst (λ (q : List Request). IsWithin q (without tag queue)) shown (within_without tag few queue t.apart t.within));
      apart = subst AreApart shown (apart_without tag few t.apart);
      whole = λ fresh. is ∙ ap (without tag) (t.whole fresh) ∙ shown;
    }

-- the request with this tag was reaped, and this is known of its task
pub record Reaps (Fresh : Type 0) (c : Content) (m : Play) (k : Keying) (more : List Request) (d : DiskState) (tag : ℕ) (P : Work → Type 0) : Type 0 where
  pub tracks : Tracks Fresh c (goes_on [] (without_task tag m.tasks) m) k more d
  pub gives : (task : Task) → task_with tag m.tasks ≡ Some task → P task.work

-- a request that was open before the run is reaped
reaps_other : (Fresh : Type 0) (c : Content) (m : Play) (k : Keying) (queue more : List Request) (d : DiskState) (tag : ℕ) (Q : Request → Type 0) (P : Work → Type 0) → Tracks Fresh c m k queue d → TakesOut tag queue more Q → task_with tag m.tasks ≡ None
    → Reaps Fresh c m k more d tag P
reaps_other Fresh c m k queue more d tag Q P t h unknown =
    let few : List Request = map (request_of k) m.tasks in
    let still = tracks_raw Fresh c m k queue d d [] t (Logs-nothing d) in
    let same : without_task tag m.tasks ≡ m.tasks = without_none tag m.tasks unknown in
    record {
      tracks = subst (λ (l : List Task). Tracks Fresh c (goes_on [] l m) k more d) (sym same)
          (record {
            shows = still.shows;
            within = subst (IsWithin few) (sym h.queue) (within_without_other tag few queue (none_few k tag m.tasks unknown) t.within);
            apart = still.apart;
            whole = λ fresh. absurd (none_fresh Fresh c m k queue d tag h.request t unknown h.found fresh);
          });
      gives = λ task known. absurd (let differ : ⊥ = cc (known, unknown) in differ);
    }

-- what its law needs
art : (Fresh : Type 0) (c : Content) (m : Play) (k : Keying) (queue more : List Request) (d : DiskState) (tag : ℕ) (task : Task) (Q : Request → Type 0) → Tracks Fresh c m k queue d → task_with tag m.tasks ≡ Some task → TakesOut tag queue more Q
    → TakesOut tag (map (request_of k) m.tasks) (without tag (map (request_of k) m.tasks)) Q
art Fresh c m k queue more d tag task Q t known h = record {
  request = h.request;
  found = found_few k tag m.tasks task known ∙ ap (λ (x : Request). Some x) (the_same Fresh c m k queue d tag task h.request t known h.found);
  none = h.none;
  queue = refl;
  gives = h.gives;
}

of_task : (tag : ℕ) (tasks : List Task) (a : Task) (P : Work → Type 0) → task_with tag tasks ≡ Some a → P a.work → (task : Task) → task_with tag tasks ≡ Some task → P task.work
of_task tag tasks a P found is task known = subst (λ (x : Task). P x.work) (same_some a task (sym found ∙ known)) is

by_task : (tag : ℕ) (tasks : List Task) (Claim : Type 0) → (task_with tag tasks ≡ None → Claim) → ((task : Task) → task_with tag tasks ≡ Some task → Claim) → Claim
by_task tag tasks Claim none some = by (task_with tag tasks) refl
  where
    by : (found : Option Task) → task_with tag tasks ≡ found → Claim
    by None is = none is
    by (Some task) is = some task is

pub tracks_reaped : (Fresh : Type 0) (c : Content) (m : Play) (k : Keying) (queue more : List Request) (d : DiskState) (tag : ℕ) (before after_bytes : List ℕ) (given : Reaped) → Tracks Fresh c m k queue d → TakesOut tag queue more (λ r. Gave k r.job r.device before after_bytes given)
    → Reaps Fresh c m k more d tag (λ work. Yields k m.steps work before after_bytes given)
tracks_reaped Fresh c m k queue more d tag before after_bytes given t h =
    by_task tag m.tasks _ (λ unknown. reaps_other Fresh c m k queue more d tag (λ r. Gave k r.job r.device before after_bytes given) (λ work. Yields k m.steps work before after_bytes given) t h unknown)
    (λ task known.
    let few : List Request = map (request_of k) m.tasks in
    let s = reaps k c m tag few (without tag few) d before after_bytes given t.shows (art Fresh c m k queue more d tag task (λ r. Gave k r.job r.device before after_bytes given) t known h) in
    record { tracks = tracks_left Fresh c m k queue more d tag t h.queue s.shows; gives = of_task tag m.tasks s.task (λ work. Yields k m.steps work before after_bytes given) s.found s.gives })

pub tracks_reaped_fault : (Fresh : Type 0) (c : Content) (m : Play) (k : Keying) (queue more : List Request) (d : DiskState) (tag offset : ℕ) → Tracks Fresh c m k queue d → TakesOut tag queue more (λ r. HasBadUnit k r.job r.device offset)
    → Reaps Fresh c m k more d tag (λ work. IsFaulty k work offset)
tracks_reaped_fault Fresh c m k queue more d tag offset t h =
    by_task tag m.tasks _ (λ unknown. reaps_other Fresh c m k queue more d tag (λ r. HasBadUnit k r.job r.device offset) (λ work. IsFaulty k work offset) t h unknown)
    (λ task known.
    let few : List Request = map (request_of k) m.tasks in
    let s = reaps_fault k c m tag offset few (without tag few) d t.shows (art Fresh c m k queue more d tag task (λ r. HasBadUnit k r.job r.device offset) t known h) in
    record { tracks = tracks_left Fresh c m k queue more d tag t h.queue s.shows; gives = of_task tag m.tasks s.task (λ work. IsFaulty k work offset) s.found s.gives })
