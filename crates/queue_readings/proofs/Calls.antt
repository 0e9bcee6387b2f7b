-- Each call of a queue, by tasks and steps.
use Rattle.std.proofs.Common.{◌≡◌, ℕ, zero, suc, ◌+◌, ◌-◌, ◌*◌, ◌/◌, ◌<◌, ◌≤◌, Bool, List, [], ◌∷◌, ◌++◌, length, get_or, take, drop, All, Contains, Option, Some, refl, sym, ap, ◌∙◌, subst, arith, append_assoc, append-nil, length-append}
use Rattle.std.proofs.Math.Seq.{drop-cons}
use Rattle.std.proofs.Math.Nat.{mul-div_cancel}
use Rattle.std.proofs.lemmas.List.{get_or-map, map-append, take-append-drop, take-map, drop-map, take_all, length-take-le, length-drop}
use Rattle.std.proofs.lemmas.List.Elements.{All-drop, All-more, All-nil, All-push, All-take, All-weaker, Contains-push}
use Rattle.aes_core.specs.Schedule.{AreBytes}
use Rattle.block_traits.specs.Content.{Content, IsContentOf, IsEventOf, logged}
use Rattle.block_traits.specs.Disk.{DiskState, FitsSize, GivesFrom, Logs}
use Rattle.block_traits.specs.declared.disk.Event.{Event}
use Rattle.block_traits.specs.declared.disk.Event.TheVariants as event
use Rattle.eli_base.specs.Keying.{Keying}
use Rattle.eli_base.specs.Units.{media_sectors}
use Rattle.provider.specs.Attached as provider
use Rattle.range_keys.specs.Ring.{IsKeying}
use Rattle.sealing.specs.Sectors.{joined, reading, units}
use Rattle.readings.specs.Writings.{Put, Writing, Raw, AreWritings, all_device_bytes, device_bytes}
use Rattle.readings.specs.Steps.{Step, Flush, after, cell, event_of, events_of, last_writing}
use Rattle.readings.specs.Read.{read_sector}
use Rattle.readings.specs.Survivors.{AreSteps, content_media, placed}
use Rattle.readings.specs.Writes.{AreStepsBelow, IsNumberedBelow, data_steps, raw_steps}
use Rattle.readings.proofs.Readings.{unit_readings-read}
use Rattle.sector_runs.specs.Writing.{data_writes}
use Rattle.provider_readings.proofs.Data.{events_of-data}
use Rattle.readings.proofs.Settled.{present-cell}
use Rattle.readings.proofs.Writes.{AreStepsBelow-none, AreStepsBelow-raw, AreStepsBelow-write, events_of-raw}
use Rattle.readings.proofs.Survivors.{All-last, AreWritings-fit, Fits, Fits-cell, placed-front, room, some-cell, some-units}
use Rattle.bio_queue.specs.Answers.{FailsStep, Gave, HasBadUnit, IsAsked, IsGiven, JobIsInRange, IsSubmitted, StepsOn, TakesOut, asked, units_of}
use Rattle.bio_queue.specs.Requests.{Request, first_of, next_of, request_with, step_events}
use Rattle.bio_queue.specs.Requests as requests
use Rattle.sealing.specs.Data.{opened_data, opened_sectors}
use Rattle.bio_queue.specs.declared.job.Job.{Job}
use Rattle.bio_queue.specs.declared.job.Job.TheVariants as job
use Rattle.bio_queue.specs.declared.job.Reaped.{Reaped}
use Rattle.queue_readings.specs.Tasks.{Task, Work, Reads, Writes, Flushes, data_from, exchange_task, job_of, put_task, request_of, sectors_from, steps_of, task_after, task_with, unit_steps, units_left, without_task, work_after, work_of, writings_of}
use Rattle.queue_readings.specs.Play.{IsCovered, IsFaulty, IsOpen, IsOpenTask, IsPlay, Play, Shows, StoodThere, Yields, broken, pending, reaped, task_stepped, submitted}
use Rattle.queue_readings.proofs.Among.{AreAmong, PlacesAmong, among_behind, among_front, among_then, behind_among, both_among, fit_front, fits_among, front_among, fits_other, fits_write, open_later, pending-each, tasks_later, unit_among}
use Rattle.queue_readings.proofs.Lists.{all_exchange, all_put, all_without, exchange_shown, put_shown, task_found, without_shown}
use Rattle.queue_readings.proofs.Puts.{length-placed, length-steps, sealed-shown, unit_placed}

-- ---- what each call comes to

-- a step of the task with this tag: so many of its units are left, and the disk and the queue are those of the play in
-- which it is done
pub record Steps (k : Keying) (c : Content) (m : Play) (tag left : ℕ) (new : List Request) (d : DiskState) : Type 0 where
  pub task : Task
  pub found : task_with tag m.tasks ≡ Some task
  pub more : task.done < units_of k (job_of task.work)
  pub rest : left ≡ units_left k (task_after k (cell c m.steps) task)
  pub shows : Shows k c (task_stepped k c task m) new d

-- a step at which the device failed
pub record BreaksOff (k : Keying) (c : Content) (m : Play) (tag : ℕ) (new : List Request) (d : DiskState) : Type 0 where
  pub task : Task
  pub found : task_with tag m.tasks ≡ Some task
  pub more : task.done < units_of k (job_of task.work)
  pub many : ℕ
  pub shows : Shows k c (broken k task many m) new d

-- the task with this tag was done, and was taken out
pub record Leaves (k : Keying) (c : Content) (m : Play) (tag : ℕ) (new : List Request) (d : DiskState) (P : Work → Type 0) : Type 0 where
  pub task : Task
  pub found : task_with tag m.tasks ≡ Some task
  pub none : units_left k task ≡ 0
  pub gives : P task.work
  pub shows : Shows k c (reaped tag m) new d

-- ---- the disk

disk_size : (c : Content) (steps : List Step) (d : DiskState) → d.content ≡ Some (after steps c) → length c.base ≡ d.size
disk_size c steps d told = let fits : IsContentOf d.size (after steps c) = subst (FitsSize d.size) told d.well_formed.fits in fits.sectors

pub same_media : (k : Keying) (c : Content) (steps : List Step) (d : DiskState) → d.content ≡ Some (after steps c) → provider.media k d ≡ content_media k c
same_media k c steps d told = ap (λ (n : ℕ). media_sectors k.auth k.sectorsize (512 * n)) (sym (disk_size c steps d told))

after-append : (steps more : List Step) (c : Content) → Some (after (steps ++ more) c) ≡ logged (events_of more) (Some (after steps c))
after-append steps more c =
    ap (λ (h : List Event). Some (record { base = c.base; history = c.history ++ h })) (map-append _ steps more)
    ∙ ap (λ (h : List Event). Some (record { base = c.base; history = h })) (sym (append_assoc c.history (events_of steps) (events_of more)))

told_more : (c : Content) (steps more : List Step) (events : List Event) (old new : DiskState) → old.content ≡ Some (after steps c) → events ≡ events_of more → Logs events old new → new.content ≡ Some (after (steps ++ more) c)
told_more c steps more events old new told is logs = logs.content ∙ (λ i. logged (is i) (told i)) ∙ sym (after-append steps more c)

fits_same : (k : Keying) (next : ℕ) (steps : List Step) (tasks new : List Task) → AreStepsBelow next (steps ++ pending k tasks) → All (PlacesAmong k (placed (pending k tasks))) new → AreStepsBelow next (steps ++ pending k new)
fits_same k next steps tasks new are new_in =
    subst (λ (l : List Step). AreStepsBelow next (l ++ pending k new)) (append-nil steps) (fits_other k next steps [] tasks new are (All-nil (Contains (placed (pending k tasks)))) new_in)

-- ---- submitting

asked-shown : (k : Keying) (tag next : ℕ) (j : Job) (from : List ℕ) → asked k tag j from ≡ request_of k (record { tag = tag; done = 0; work = work_of next j from })
asked-shown k tag next (job.Read sector count) from = refl
asked-shown k tag next (job.Write sector count) from =
    λ i. record { tag = tag; job = job.Write sector count; done = 0; units = count * units k; device = sealed-shown next k sector count from i }
asked-shown k tag next job.Flush from = refl

play_submitted : (k : Keying) (c : Content) (m : Play) (tag : ℕ) (j : Job) (from : List ℕ) → IsPlay k c m → AreBytes from → IsAsked k.sectorsize j from → JobIsInRange (content_media k c) j → IsPlay k c (submitted tag j from m)
play_submitted k c m tag (job.Read sector count) from play small is_asked range =
    let new : Task = record { tag = tag; done = 0; work = Reads sector count [] } in
    record {
      keying = play.keying;
      content = play.content;
      steps = fits_same k m.next m.steps m.tasks (put_task new m.tasks) play.steps
          (all_put (PlacesAmong k (placed (pending k m.tasks))) new m.tasks (All-nil (Contains (placed (pending k m.tasks)))) (pending-each k m.tasks));
      tasks = all_put (IsOpenTask k c m.steps) new m.tasks (refl, is_asked.0, range, All-nil (StoodThere m.steps)) play.tasks;
    }
play_submitted k c m tag (job.Write sector count) from play small is_asked range =
    let new : Task = record { tag = tag; done = 0; work = Writes m.next sector count from } in
    let own : List Writing = placed (data_steps m.next k sector count from) in
    let those : List Writing = placed (pending k m.tasks) ++ own in
    let old_in = All-weaker (PlacesAmong k (placed (pending k m.tasks))) (PlacesAmong k those)
    (λ t h. among_then (placed (steps_of k t.work)) (placed (pending k m.tasks)) those h (among_front (placed (pending k m.tasks)) own)) m.tasks (pending-each k m.tasks) in
    let long = is_asked.2 in
    record {
      keying = play.keying;
      content = play.content;
      steps = fits_write k m.next sector count from m.steps m.tasks (put_task new m.tasks) play.steps play.keying small (omega (arith, long))
          (all_put (PlacesAmong k those) new m.tasks (among_behind (placed (pending k m.tasks)) own) old_in);
      tasks = all_put (IsOpenTask k c m.steps) new m.tasks (is_asked.0, range, All-nil (Contains m.steps)) play.tasks;
    }
play_submitted k c m tag job.Flush from play small is_asked range =
    let new : Task = record { tag = tag; done = 0; work = Flushes } in
    record {
      keying = play.keying;
      content = play.content;
      steps = fits_same k m.next m.steps m.tasks (put_task new m.tasks) play.steps
          (all_put (PlacesAmong k (placed (pending k m.tasks))) new m.tasks (All-nil (Contains (placed (pending k m.tasks)))) (pending-each k m.tasks));
      tasks = all_put (IsOpenTask k c m.steps) new m.tasks tt play.tasks;
    }

pub submits : (k : Keying) (readonly : Bool) (c : Content) (m : Play) (j : Job) (from : List ℕ) (old new : List Request) (d d' : DiskState) (tag : ℕ) → Shows k c m old d → AreBytes from → IsAsked k.sectorsize j from
    → IsSubmitted k readonly d j from old new tag → d' ≡ d → Shows k c (submitted tag j from m) new d'
submits k readonly c m j from old new d d' tag shows small is_asked h same =
    let range = subst (λ (n : ℕ). JobIsInRange n j) (same_media k c m.steps d shows.told) h.admitted.in_range in
    let task : Task = record { tag = tag; done = 0; work = work_of m.next j from } in
    record {
      play = play_submitted k c m tag j from shows.play small is_asked range;
      told = ap (λ (x : DiskState). x.content) same ∙ shows.told;
      queue = h.queue ∙ (λ i. requests.put_in (asked-shown k tag m.next j from i) (shows.queue i)) ∙ put_shown k task m.tasks;
    }

-- ---- a step

-- what the tasks know of themselves
Known : (k : Keying) (c : Content) (m : Play) → Task → Type 0
Known k c m t = IsOpenTask k c m.steps t × PlacesAmong k (placed (pending k m.tasks)) t

known : (k : Keying) (c : Content) (m : Play) → IsPlay k c m → All (Known k c m) m.tasks
unfolding Known
known k c m play = λ i d lt. (play.tasks i d lt, pending-each k m.tasks i d lt)

first_place : (sector count units : ℕ) → 1 ≤ count → sector * (count * units / count) ≡ sector * units
first_place sector count units some = let e : count * units ≡ units * count = omega arith in ap (λ (n : ℕ). sector * n) (ap (λ (n : ℕ). n / count) e ∙ mul-div_cancel units some)

-- the event of a unit is that of its step
step_logs : (k : Keying) (c : Content) (steps : List Step) (tag done : ℕ) (work : Work) → IsOpen k c steps work done → done < units_of k (job_of work)
    → step_events (request_of k (record { tag = tag; done = done; work = work })) ≡ events_of (unit_steps k work done)
step_logs k c steps tag done (Reads sector count ws) is more = refl
step_logs k c steps tag done (Writes number sector count bytes) is more =
    let all : List Writing = placed (data_steps number k sector count bytes) in
    let long = length-placed number k sector count bytes in
    let at : first_of (job.Write sector count) (count * units k) ≡ sector * units k = first_place sector count (units k) is.0 in
    (λ i. event.Write (at i + done) (get_or-map device_bytes all done (Raw []) [] (omega (arith, long, more)) i) ∷ [])
    ∙ sym (ap (λ (s : Step). events_of (s ∷ [])) (unit_placed number k sector count bytes done more))
step_logs k c steps tag done Flushes is more = refl

-- where a unit of a read stands
unit_there : (k : Keying) (sector count done sectors : ℕ) → IsKeying k → 1 ≤ count → sector + count ≤ (512 * sectors - 512) / (512 * units k) → done < count * units k → sector * units k + done < sectors
unit_there k sector count done sectors is some fits more =
    let last : ℕ = sector + (count - 1) in
    let there = room (units k) last sectors (some-units k is) (omega arith) in
    let sum : sector + count ≡ last + 1 = omega arith in
    let all : sector * units k + count * units k ≡ last * units k + units k = let e : (sector + count) * units k ≡ (last + 1) * units k = ap (λ (n : ℕ). n * units k) sum in omega (arith, e) in
    omega (arith, there, all, more)

stood : (steps : List Step) (w : Writing) → Fits (placed steps) w → StoodThere steps w
stood steps w h = record { is = h.is; is_in = h.is_in }

fits_then : (steps : List Step) (w : Writing) → StoodThere steps w → Fits (placed steps) w
fits_then steps w h = record { is = h.is; is_in = h.is_in }

stood_now : (k : Keying) (c : Content) (m : Play) (sector count done : ℕ) → IsPlay k c m → 1 ≤ count → sector + count ≤ content_media k c → done < count * units k → StoodThere m.steps (last_writing (cell c m.steps (sector * units k + done)))
stood_now k c m sector count done play some range more =
    let n : ℕ = sector * units k + done in
    let there = unit_there k sector count done (length c.base) play.keying some range more in
    let all = Fits-cell c m.steps n play.content there (fit_front m.next m.steps (pending k m.tasks) play.steps) in
    stood m.steps (last_writing (cell c m.steps n)) (All-last (Fits (placed m.steps)) (cell c m.steps n) (some-cell c m.steps n) all)

-- what is then known of the task
open_after : (k : Keying) (c : Content) (m : Play) (work : Work) (done : ℕ) → IsPlay k c m → IsOpen k c m.steps work done → IsOpen k c (m.steps ++ unit_steps k work done) work done → done < units_of k (job_of work)
    → IsOpen k c (m.steps ++ unit_steps k work done) (work_after k (cell c m.steps) work done) (done + 1)
open_after k c m (Reads sector count ws) done play is later more =
    let w : Writing = last_writing (cell c m.steps (sector * units k + done)) in
    let now = stood_now k c m sector count done play is.1 is.2 more in
    let long = length-append ws (w ∷ []) in
    let count_is = is.0 in (
      omega (arith, long, count_is),
      is.1,
      is.2,
      All-push (StoodThere (m.steps ++ [])) ws w later.3 (subst (λ (l : List Step). StoodThere l w) (sym (append-nil m.steps)) now),
    )
open_after k c m (Writes number sector count bytes) done play is later more =
    let all : List Step = data_steps number k sector count bytes in
    let long = length-steps number k sector count bytes in
    let s : Step = get_or all done Flush in
    (is.0, is.1, All-more (Contains (m.steps ++ s ∷ [])) all done Flush (omega (arith, long, more)) later.2 (Contains-push m.steps s))
open_after k c m Flushes done play is later more = tt

-- what it places is among the steps of the open writes
unit_known : (k : Keying) (c : Content) (steps : List Step) (work : Work) (done : ℕ) → done < units_of k (job_of work) → AreAmong (placed (steps_of k work)) (placed (unit_steps k work done))
unit_known k c steps (Reads sector count ws) done more = All-nil (Contains [])
unit_known k c steps (Writes number sector count bytes) done more = unit_among k number sector count bytes done more
unit_known k c steps Flushes done more = All-nil (Contains [])

same_steps : (k : Keying) (cells : ℕ → List Writing) (work : Work) (done : ℕ) → steps_of k (work_after k cells work done) ≡ steps_of k work
same_steps k cells (Reads sector count ws) done = refl
same_steps k cells (Writes number sector count bytes) done = refl
same_steps k cells Flushes done = refl

play_stepped : (k : Keying) (c : Content) (m : Play) (t : Task) → IsPlay k c m → Known k c m t → t.done < units_of k (job_of t.work)
    → IsPlay k c (record { steps = m.steps ++ unit_steps k t.work t.done; tasks = exchange_task (task_after k (cell c m.steps) t) m.tasks; next = m.next })
unfolding Known
play_stepped k c m t play is more =
    let steps : List Step = unit_steps k t.work t.done in
    let new : Task = task_after k (cell c m.steps) t in
    let those : List Writing = placed (pending k m.tasks) in
    let unit_in = among_then (placed steps) (placed (steps_of k t.work)) those (unit_known k c m.steps t.work t.done more) is.1 in
    let new_in = subst (λ (l : List Step). AreAmong those (placed l)) (sym (same_steps k (cell c m.steps) t.work t.done)) is.1 in
    let later = tasks_later k c m.steps steps m.tasks play.tasks in
    let here = open_later k c m.steps steps t.work t.done is.0 in
    record {
      keying = play.keying;
      content = play.content;
      steps = fits_other k m.next m.steps steps m.tasks (exchange_task new m.tasks) play.steps unit_in (all_exchange (PlacesAmong k those) new m.tasks new_in (pending-each k m.tasks));
      tasks = all_exchange (IsOpenTask k c (m.steps ++ steps)) new m.tasks (open_after k c m t.work t.done play is.0 here more) later;
    }

-- the request after its step is the task after it
request_after : (k : Keying) (c : Content) (m : Play) (tag done : ℕ) (work : Work) (d : DiskState) (bytes : List ℕ) → IsOpen k c m.steps work done → d.content ≡ Some (after m.steps c)
    → IsGiven d (job_of work) (first_of (job_of work) (units_of k (job_of work)) + done) bytes
    → requests.stepped (request_of k (record { tag = tag; done = done; work = work })) bytes ≡ request_of k (task_after k (cell c m.steps) (record { tag = tag; done = done; work = work }))
request_after k c m tag done (Reads sector count ws) d bytes is told given =
    let n : ℕ = sector * units k + done in
    let w : Writing = last_writing (cell c m.steps n) in
    let at : first_of (job.Read sector count) (count * units k) + done ≡ n = ap (λ (x : ℕ). x + done) (first_place sector count (units k) is.1) in
    let here : GivesFrom (Some (after m.steps c)) n bytes = subst (λ (o : Option Content). GivesFrom o n bytes) told (subst (λ (x : ℕ). GivesFrom d.content x bytes) at given) in
    let same : bytes ≡ device_bytes w = here ∙ present-cell c m.steps n in
    let device : all_device_bytes ws ++ bytes ∷ [] ≡ all_device_bytes (ws ++ w ∷ []) = ap (λ (b : List ℕ). all_device_bytes ws ++ b ∷ []) same ∙ sym (map-append device_bytes ws (w ∷ [])) in
    λ i. record { tag = tag; job = job.Read sector count; done = done + 1; units = count * units k; device = device i }
request_after k c m tag done (Writes number sector count bytes') d bytes is told given = refl
request_after k c m tag done Flushes d bytes is told given = refl

pub steps_on : (k : Keying) (c : Content) (m : Play) (tag left : ℕ) (old new : List Request) (d d' : DiskState) → Shows k c m old d → StepsOn tag left old new d d' → Steps k c m tag left new d'
unfolding Known
steps_on k c m tag left old new d d' shows h =
    let found = task_found k tag m.tasks h.request (Known k c m) (known k c m shows.play) (ap (request_with tag) (sym shows.queue) ∙ h.found) in
    let t = found.task in
    let new_task : Task = task_after k (cell c m.steps) t in
    let more : t.done < units_of k (job_of t.work) = subst (λ (r : Request). r.done < r.units) (sym found.shown) h.more in
    let events = ap step_events (sym found.shown) ∙ step_logs k c m.steps t.tag t.done t.work found.is.0 more in
    let given = subst (λ (r : Request). IsGiven d r.job (next_of r) h.bytes) (sym found.shown) h.given in
    let after_is : requests.stepped h.request h.bytes ≡ request_of k new_task = ap (λ (r : Request). requests.stepped r h.bytes) (sym found.shown) ∙ request_after k c m t.tag t.done t.work d h.bytes found.is.0 shows.told given in
    record {
      task = t;
      found = found.found;
      more = more;
      rest = h.rest ∙ ap requests.left_of after_is;
      shows = record {
        play = play_stepped k c m t shows.play found.is more;
        told = told_more c m.steps (unit_steps k t.work t.done) (step_events h.request) d d' shows.told events h.logs;
        queue = h.queue ∙ (λ i. requests.exchanged (after_is i) (shows.queue i)) ∙ exchange_shown k new_task m.tasks;
      };
    }

-- ---- a step at which the device failed

events_front : (many : ℕ) (steps : List Step) → take many (events_of steps) ≡ events_of (take many steps)
events_front many steps = take-map event_of many steps

pub breaks_off : (k : Keying) (c : Content) (m : Play) (tag : ℕ) (old new : List Request) (d d' : DiskState) → Shows k c m old d → FailsStep tag old new d d' → BreaksOff k c m tag new d'
unfolding Known
breaks_off k c m tag old new d d' shows h =
    let found = task_found k tag m.tasks h.request (Known k c m) (known k c m shows.play) (ap (request_with tag) (sym shows.queue) ∙ h.found) in
    let t = found.task in
    let more : t.done < units_of k (job_of t.work) = subst (λ (r : Request). r.done < r.units) (sym found.shown) h.more in
    let steps : List Step = unit_steps k t.work t.done in
    let many : ℕ = h.fails.count in
    let events = ap step_events (sym found.shown) ∙ step_logs k c m.steps t.tag t.done t.work found.is.0 more in
    let those : List Writing = placed (pending k m.tasks) in
    let front : AreAmong (placed steps) (placed (take many steps)) = subst (λ (l : List Writing). AreAmong l (placed (take many steps))) (sym (placed-front many steps)) (among_front (placed (take many steps)) (placed (drop many steps))) in
    let unit_in = among_then (placed steps) (placed (steps_of k t.work)) those (unit_known k c m.steps t.work t.done more) found.is.1 in
    record {
      task = t;
      found = found.found;
      more = more;
      many = many;
      shows = record {
        play = record {
          keying = shows.play.keying;
          content = shows.play.content;
          steps = fits_other k m.next m.steps (take many steps) m.tasks m.tasks shows.play.steps (among_then (placed (take many steps)) (placed steps) those front unit_in) (pending-each k m.tasks);
          tasks = tasks_later k c m.steps (take many steps) m.tasks shows.play.tasks;
        };
        told = told_more c m.steps (take many steps) (take many (step_events h.request)) d d' shows.told (ap (take many) events ∙ events_front many steps) h.fails.logs;
        queue = h.queue ∙ shows.queue;
      };
    }

-- ---- reaping

-- the sectors read from the device bytes as their writings say
read_as_stood : (k : Keying) (steps : List Step) (sector count : ℕ) (ws : List Writing) → IsKeying k → AreSteps steps → All (StoodThere steps) ws → count * units k ≤ length ws
    → opened_sectors k sector count (all_device_bytes ws) ≡ sectors_from k sector count ws
read_as_stood k steps sector zero ws is are all long = refl
read_as_stood k steps sector (suc count) ws is are all long =
    let P : ℕ = units k in
    let each : suc count * P ≡ P + count * P = omega arith in
    let first : List Writing = take P ws in
    let size : length first ≡ P = length-take-le P ws (omega (arith, each)) in
    let rest_long = length-drop P ws in
    let fit : AreWritings k first = AreWritings-fit k steps first are size (All-weaker (StoodThere steps) (Fits (placed steps)) (fits_then steps) first (All-take (StoodThere steps) P ws all)) in
    let here : reading k sector (take P (all_device_bytes ws)) ≡ read_sector k sector first = ap (reading k sector) (take-map device_bytes P ws) ∙ ap joined (unit_readings-read k sector first is fit) in
    let more = ap (opened_sectors k (sector + 1) count) (drop-map device_bytes P ws) ∙ read_as_stood k steps (sector + 1) count (drop P ws) is are (All-drop (StoodThere steps) P ws all) (omega (arith, each, rest_long)) in
    λ i. here i ∷ more i

data_as_stood : (k : Keying) (c : Content) (m : Play) (sector count done : ℕ) (ws : List Writing) → IsPlay k c m → IsOpen k c m.steps (Reads sector count ws) done → count * units k - done ≡ 0
    → opened_data k sector count (all_device_bytes ws) ≡ data_from k sector count ws
data_as_stood k c m sector count done ws play is none =
    let long = is.0 in
    ap joined (read_as_stood k m.steps sector count ws play.keying (fit_front m.next m.steps (pending k m.tasks) play.steps) is.3 (omega (arith, long, none)))

yields : (k : Keying) (c : Content) (m : Play) (work : Work) (done : ℕ) (before after_bytes : List ℕ) (given : Reaped) → IsPlay k c m → IsOpen k c m.steps work done → units_of k (job_of work) - done ≡ 0
    → Gave k (job_of work) (all_device_bytes (writings_of k work)) before after_bytes given → Yields k m.steps work before after_bytes given
yields k c m (Reads sector count ws) done before after_bytes given play is none h = (h.0, sym (data_as_stood k c m sector count done ws play is none) ∙ h.1, h.2, h.3, h.4)
yields k c m (Writes number sector count bytes) done before after_bytes given play is none h =
    let all : List Step = data_steps number k sector count bytes in
    let long = length-steps number k sector count bytes in
    (h.0, h.1, subst (All (Contains m.steps)) (take_all done all (omega (arith, long, none))) is.2)
yields k c m Flushes done before after_bytes given play is none h = h

faulty : (k : Keying) (c : Content) (m : Play) (work : Work) (done offset : ℕ) → IsPlay k c m → IsOpen k c m.steps work done → units_of k (job_of work) - done ≡ 0
    → HasBadUnit k (job_of work) (all_device_bytes (writings_of k work)) offset → IsFaulty k work offset
faulty k c m (Reads sector count ws) done offset play is none h = sym (data_as_stood k c m sector count done ws play is none) ∙ h
faulty k c m (Writes number sector count bytes) done offset play is none h = h
faulty k c m Flushes done offset play is none h = h

leaves : (k : Keying) (c : Content) (m : Play) (tag : ℕ) (old new : List Request) (d : DiskState) (P : Work → Type 0) (Q : Request → Type 0) → Shows k c m old d
    → ((t : Task) → IsOpenTask k c m.steps t → units_left k t ≡ 0 → Q (request_of k t) → P t.work) → TakesOut tag old new Q → Leaves k c m tag new d P
unfolding Known
leaves k c m tag old new d P Q shows gives h =
    let found = task_found k tag m.tasks h.request (Known k c m) (known k c m shows.play) (ap (request_with tag) (sym shows.queue) ∙ h.found) in
    let t = found.task in
    let none : units_left k t ≡ 0 = ap requests.left_of found.shown ∙ h.none in
    record {
      task = t;
      found = found.found;
      none = none;
      gives = gives t found.is.0 none (subst Q (sym found.shown) h.gives);
      shows = record {
        play = record {
          keying = shows.play.keying;
          content = shows.play.content;
          steps = fits_same k m.next m.steps m.tasks (without_task tag m.tasks) shows.play.steps (all_without (PlacesAmong k (placed (pending k m.tasks))) tag m.tasks (pending-each k m.tasks));
          tasks = all_without (IsOpenTask k c m.steps) tag m.tasks shows.play.tasks;
        };
        told = shows.told;
        queue = h.queue ∙ ap (requests.without tag) shows.queue ∙ without_shown k tag m.tasks;
      };
    }

pub reaps : (k : Keying) (c : Content) (m : Play) (tag : ℕ) (old new : List Request) (d : DiskState) (before after_bytes : List ℕ) (given : Reaped) → Shows k c m old d
    → TakesOut tag old new (λ r. Gave k r.job r.device before after_bytes given) → Leaves k c m tag new d (λ work. Yields k m.steps work before after_bytes given)
reaps k c m tag old new d before after_bytes given shows h =
    leaves k c m tag old new d (λ work. Yields k m.steps work before after_bytes given) (λ r. Gave k r.job r.device before after_bytes given) shows
    (λ t is none gave. yields k c m t.work t.done before after_bytes given shows.play is none gave) h

pub reaps_fault : (k : Keying) (c : Content) (m : Play) (tag offset : ℕ) (old new : List Request) (d : DiskState) → Shows k c m old d → TakesOut tag old new (λ r. HasBadUnit k r.job r.device offset)
    → Leaves k c m tag new d (λ work. IsFaulty k work offset)
reaps_fault k c m tag offset old new d shows h =
    leaves k c m tag old new d (λ work. IsFaulty k work offset) (λ r. HasBadUnit k r.job r.device offset) shows (λ t is none bad. faulty k c m t.work t.done offset shows.play is none bad) h

-- ---- the beginning, and what is done between the calls

pub nothing_yet : (k : Keying) (c : Content) (d : DiskState) → IsKeying k → d.content ≡ Some c → Shows k c (record { steps = []; tasks = []; next = 0 }) [] d
nothing_yet k c d is told =
    let fits : IsContentOf d.size c = subst (FitsSize d.size) told d.well_formed.fits in
    record {
      play = record {
        keying = is;
        content = subst (λ (n : ℕ). IsContentOf n c) (sym fits.sectors) fits;
        steps = AreStepsBelow-none;
        tasks = All-nil (IsOpenTask k c []);
      };
      told = told ∙ ap (λ (h : List Event). Some (record { base = c.base; history = h })) (sym (append-nil c.history));
      queue = refl;
    }

-- a write of the provider, which takes the next number
pub written_between : (k : Keying) (c : Content) (m : Play) (queue : List Request) (d new : DiskState) (sector count many : ℕ) (bytes : List ℕ) → Shows k c m queue d → AreBytes bytes → count * k.sectorsize ≤ length bytes
    → Logs (take many (data_writes k sector count bytes)) d new
    → Shows k c (record { steps = m.steps ++ take many (data_steps m.next k sector count bytes); tasks = m.tasks; next = m.next + 1 }) queue new
written_between k c m queue d new sector count many bytes shows small fits logs =
    let all : List Step = data_steps m.next k sector count bytes in
    let own : List Step = take many all in
    let base : List Step = m.steps ++ pending k m.tasks in
    let those : List Writing = placed (base ++ all) in
    let are = AreStepsBelow-write m.next base k sector count bytes shows.play.steps shows.play.keying small fits in
    let own_in : AreAmong (placed all) (placed own) = subst (λ (l : List Writing). AreAmong l (placed own)) (sym (placed-front many all)) (among_front (placed own) (placed (drop many all))) in
    let base_in = front_among base all in
    let steps_in = among_then (placed m.steps) (placed base) those (front_among m.steps (pending k m.tasks)) base_in in
    let open_in = among_then (placed (pending k m.tasks)) (placed base) those (behind_among m.steps (pending k m.tasks)) base_in in
    record {
      play = record {
        keying = shows.play.keying;
        content = shows.play.content;
        steps = fits_among (m.next + 1) (base ++ all) ((m.steps ++ own) ++ pending k m.tasks)
            (both_among those (m.steps ++ own) (pending k m.tasks) (both_among those m.steps own steps_in (among_then (placed own) (placed all) those own_in (behind_among base all))) open_in) are;
        tasks = tasks_later k c m.steps own m.tasks shows.play.tasks;
      };
      told = told_more c m.steps own (take many (data_writes k sector count bytes)) d new shows.told (ap (take many) (sym (events_of-data m.next k sector count bytes)) ∙ events_front many all) logs;
      queue = shows.queue;
    }

-- other events of the disk
pub events_between : (k : Keying) (c : Content) (m : Play) (queue : List Request) (d new : DiskState) (events : List Event) → Shows k c m queue d → All (IsEventOf (length c.base)) events → Logs events d new
    → Shows k c (record { steps = m.steps ++ raw_steps events; tasks = m.tasks; next = m.next }) queue new
events_between k c m queue d new events shows fit logs =
    let own : List Step = raw_steps events in
    let base : List Step = m.steps ++ pending k m.tasks in
    let those : List Writing = placed (base ++ own) in
    let are = AreStepsBelow-raw m.next (length c.base) base events shows.play.steps fit in
    let base_in = front_among base own in
    let steps_in = among_then (placed m.steps) (placed base) those (front_among m.steps (pending k m.tasks)) base_in in
    let open_in = among_then (placed (pending k m.tasks)) (placed base) those (behind_among m.steps (pending k m.tasks)) base_in in
    record {
      play = record {
        keying = shows.play.keying;
        content = shows.play.content;
        steps = fits_among m.next (base ++ own) ((m.steps ++ own) ++ pending k m.tasks) (both_among those (m.steps ++ own) (pending k m.tasks) (both_among those m.steps own steps_in (behind_among base own)) open_in) are;
        tasks = tasks_later k c m.steps own m.tasks shows.play.tasks;
      };
      told = told_more c m.steps own events d new shows.told (sym (events_of-raw events)) logs;
      queue = shows.queue;
    }

below_number : (next number : ℕ) (w : Writing) → next ≤ number → IsNumberedBelow next w → IsNumberedBelow number w
below_number next number (Put p) le h = omega arith
below_number next number (Raw bytes) le h = tt

pub higher_number : (k : Keying) (c : Content) (m : Play) (queue : List Request) (d : DiskState) (number : ℕ) → Shows k c m queue d → m.next ≤ number → Shows k c (record { steps = m.steps; tasks = m.tasks; next = number }) queue d
higher_number k c m queue d number shows le = record {
  play = record {
    keying = shows.play.keying;
    content = shows.play.content;
    steps = record {
      fit = shows.play.steps.fit;
      below = All-weaker (IsNumberedBelow m.next) (IsNumberedBelow number) (λ w h. below_number m.next number w le h) (placed (m.steps ++ pending k m.tasks)) shows.play.steps.below;
    };
    tasks = shows.play.tasks;
  };
  told = shows.told;
  queue = shows.queue;
}

-- ---- flushes

split_at : (steps : List Step) (n : ℕ) (s : Step) → n < length steps → get_or steps n s ≡ s → steps ≡ take n steps ++ s ∷ drop (suc n) steps
split_at steps n s lt is = sym (take-append-drop n steps) ∙ ap (λ (l : List Step). take n steps ++ l) (drop-cons steps n s lt ∙ ap (λ (x : Step). x ∷ drop (suc n) steps) is)

pub covered : (steps more : List Step) (s : Step) → Contains steps s → IsCovered ((steps ++ more) ++ Flush ∷ []) s
covered steps more s h =
    let n : ℕ = h.0 in
    let behind : List Step = drop (suc n) steps in
    record {
      earlier = take n steps;
      between = behind ++ more;
      since = [];
      are =
          ap (λ (l : List Step). (l ++ more) ++ Flush ∷ []) (split_at steps n s h.1 h.2)
          ∙ ap (λ (l : List Step). l ++ Flush ∷ []) (append_assoc (take n steps) (s ∷ behind) more)
          ∙ append_assoc (take n steps) (s ∷ behind ++ more) (Flush ∷ []);
    }
