-- What `submit`, `step` and `reap` make of the play of an attached drawer.
use Rattle.std.proofs.Common.{◌≡◌, ◌∙◌, ◌⊎◌, inl, inr, ℕ, zero, suc, ◌*◌, ◌/◌, ◌%◌, ◌<◌, ◌≤◌, ◌==◌, Bool, true, false, cond, List, [], ◌∷◌, length, take, Option, None, Some, Result, Ok, Err, refl, sym, ap, subst, arith, ◌&&◌, nat_le, unwrap_or}
use Rattle.std.specs.Option.{option_map}
use Rattle.std.proofs.lemmas.Bool.Decides.{nat_tests}
use Rattle.std.proofs.Math.Nat.{div-add-mod, mul-div_cancel}
use Rattle.std.proofs.Math.Seq.{take-length}
use Rattle.block_traits.proofs.Logs.{Logs-nothing}
use Rattle.command_rows.specs.Rows.{Attachment, GoesOn, NeedsRequest, Reach, bytes_spelled, or_refusal, whole_sectors}
use Rattle.command_rows.specs.Vocabulary.{Content, DiskState, Event, IsAsked, IsKeying, Job, JobWords, Keying, Logs, ReapAnswers, ReapFault, Reaped, Refusal, Request, StepAnswers, StepFault, StepsOn, SubmitAnswers, SubmitFault, bytes_at, request_with, step_events}
use Rattle.command_words.specs.declared.commands.JobWords.TheVariants as words
use Rattle.eli_base.specs.declared.refusals.Refusal.TheVariants as refusals
use Rattle.eli_base.specs.Requests.{request_limit}
use Rattle.bio_queue.specs.declared.faults.ReapFault.TheVariants as reap
use Rattle.bio_queue.specs.declared.faults.StepFault.TheVariants as step
use Rattle.bio_queue.specs.declared.job.Job.TheVariants as jobs
use Rattle.bio_queue.specs.declared.job.Reaped.TheVariants as given
use Rattle.reply_text.specs.Answer as answers
use Rattle.geli_core.specs.Placing.{cells_after, goes_on, request_steps, tasks_reaped, tasks_stepped, tasks_submitted, work_in}
use Rattle.geli_core.specs.Vocabulary.{AreBytes, EventsBy, Play, ReapRow, ReapsRequest, Step, StepRow, StepsRequest, SubmitRow, Submits, Task, Work, cell, exchange_task, left_or, next_events, put_task, raw_steps, reap_answer, reaped_or, request_of, step_refusal, submit_refusal, tag_or, task_after, task_with, unit_steps, without_task, work_of}
use Rattle.geli_core.proofs.Following.{Tracks, the_same, tracks_broken, tracks_raw, tracks_reaped, tracks_reaped_fault, tracks_stepped, tracks_stepped_other, tracks_submitted, unit_events}
use Rattle.geli_core.proofs.Written.{bytes_spelled-bytes, row_events}

-- ---- the bytes of a request

pub passed : {A : Type 0} (test : Bool) (v w : A) (r : Refusal) → cond test (Ok v) (Err r) ≡ Ok w → (test ≡ true) × (v ≡ w)
passed true v w r h = (refl, (let same : v ≡ w = cc h in same))
passed false v w r h = absurd (let none : ⊥ = cc h in none)

both : (a b : Bool) → (a && b) ≡ true → (a ≡ true) × (b ≡ true)
both true b h = (refl, h)
both false b h = absurd (let none : ⊥ = cc h in none)

-- some whole sectors, and not too many
pub record IsWhole (size bytes whole : ℕ) : Type 0 where
  pub some : 1 ≤ whole
  pub few : whole * size ≤ request_limit
  pub is : bytes ≡ whole * size
  pub count : whole ≡ bytes / size

whole_is : (size bytes whole : ℕ) → 0 < size → whole_sectors size bytes ≡ Ok whole → IsWhole size bytes whole
whole_is size bytes whole positive h =
    let p = passed _ (bytes / size) whole (refusals.BadLength bytes size) h in
    let outer = both (nat_le 1 bytes && nat_le bytes 131072) (bytes % size == 0) p.0 in
    let inner = both (nat_le 1 bytes) (nat_le bytes 131072) outer.0 in
    let some : 1 ≤ bytes = grind (arith, nat_tests, inner) in
    let few : bytes ≤ 131072 = grind (arith, nat_tests, inner) in
    let even : bytes % size ≡ 0 = grind (arith, nat_tests, outer) in
    let split = div-add-mod bytes size in
    let is : bytes ≡ (bytes / size) * size = let e : size * (bytes / size) ≡ (bytes / size) * size = omega arith in omega (arith, e, split, even) in
    let size_is : bytes ≡ whole * size = is ∙ ap (λ (n : ℕ). n * size) p.1 in
    record {
      some = one_more size bytes whole size_is some;
      few = omega (arith, size_is, few);
      is = size_is;
      count = sym p.1;
    }
  where
    one_more : (size bytes whole : ℕ) → bytes ≡ whole * size → 1 ≤ bytes → 1 ≤ whole
    one_more size bytes zero is some = absurd (omega (arith, is, some))
    one_more size bytes (suc whole) is some = omega arith

-- ---- submitting

-- a job was submitted, which is the one that the line asks for
pub record Asks (line : List ℕ) (asked : JobWords) (a : Attachment) (old : Reach) (answer : Result ℕ Refusal) (new : Reach) : Type 0 where
  pub job : Job
  pub from : List ℕ
  pub small : AreBytes from
  pub is_asked : IsAsked a.keying.sectorsize job from
  pub work : (number : ℕ) → work_in number a.keying line asked ≡ work_of number job from
  pub submits : Submits a job from old answer new

no_bytes : AreBytes []
no_bytes = λ k. (let small : 0 < 256 = omega arith in small)

-- a refusal changes nothing
pub record IsRefusal {A : Type 0} (old : Reach) (answer : Result A Refusal) (new : Reach) : Type 0 where
  pub refusal : Refusal
  pub is : answer ≡ Err refusal
  pub unchanged : new ≡ old

whole_then : {B : Type 0} (Next : ℕ → Reach → Result B Refusal → Reach → Type 0) (Claim : Type 0) (size bytes : ℕ) (old : Reach) (given : Result ℕ Refusal) (middle : Reach) (answer : Result B Refusal) (new : Reach) → 0 < size → given ≡ whole_sectors size bytes
    → middle ≡ old → ((whole : ℕ) → IsWhole size bytes whole → Next whole old answer new → Claim) → GoesOn Next given middle answer new → IsRefusal old answer new ⊎ Claim
whole_then Next Claim size bytes old (Ok whole) middle answer new positive is same next h = inr (next whole (whole_is size bytes whole positive (sym is)) (subst (λ (r : Reach). Next whole r answer new) same h))
whole_then Next Claim size bytes old (Err refusal) middle answer new positive is same next h = inl (record { refusal = refusal; is = h.0; unchanged = h.1 ∙ same })

pub submit_asks : (line : List ℕ) (asked : JobWords) (a : Attachment) (old : Reach) (answer : Result ℕ Refusal) (new : Reach) → IsKeying a.keying → SubmitRow line asked a old answer new → IsRefusal old answer new ⊎ Asks line asked a old answer new
submit_asks line (words.Read sector count) a old answer new keyed h =
    let size : ℕ = a.keying.sectorsize in
    whole_then (λ whole. Submits a (jobs.Read sector whole) []) (Asks line (words.Read sector count) a old answer new) size (count * size) old h.given h.middle answer new (omega (arith, keyed.at_least)) h.first.0 h.first.1
    (λ whole w next.
    let same : count ≡ whole = sym (w.count ∙ mul-div_cancel count (omega (arith, keyed.at_least))) in
    record { job = jobs.Read sector whole; from = []; small = no_bytes; is_asked = (w.some, w.few); work = λ number. ap (λ (n : ℕ). work_of number (jobs.Read sector n) []) same; submits = next })
    h.next
submit_asks line (words.Write sector hex) a old answer new keyed h =
    let size : ℕ = a.keying.sectorsize in
    let bytes : List ℕ = bytes_spelled (bytes_at line hex) in
    whole_then (λ whole. Submits a (jobs.Write sector whole) bytes) (Asks line (words.Write sector hex) a old answer new) size (length bytes) old h.given h.middle answer new (omega (arith, keyed.at_least)) h.first.0 h.first.1
    (λ whole w next.
    record {
      job = jobs.Write sector whole;
      from = bytes;
      small = bytes_spelled-bytes (bytes_at line hex);
      is_asked = (w.some, w.few, w.is);
      work = λ number. ap (λ (n : ℕ). work_of number (jobs.Write sector n) bytes) (sym w.count);
      submits = next;
    })
    h.next
submit_asks line words.Flush a old answer new keyed h = inr (record { job = jobs.Flush; from = []; small = no_bytes; is_asked = tt; work = λ number. refl; submits = h })

-- with another queue that is equal
with_other : (Fresh : Type 0) (c : Content) (m : Play) (k : Keying) (queue more : List Request) (d : DiskState) → more ≡ queue → Tracks Fresh c m k queue d → Tracks Fresh c m k more d
with_other Fresh c m k queue more d is t = subst (λ (q : List Request). Tracks Fresh c m k q d) (sym is) t

-- nothing was done, and the play stays
still : (Fresh : Type 0) (c : Content) (m : Play) (k : Keying) (queue more : List Request) (d new : DiskState) (events : List Event) → Tracks Fresh c m k queue d → more ≡ queue → new ≡ d → events ≡ [] → Tracks Fresh c (goes_on (raw_steps events) m.tasks m) k more new
still Fresh c m k queue more d new events t is same none =
    with_other Fresh c (goes_on (raw_steps events) m.tasks m) k queue more new is (tracks_raw Fresh c m k queue d new events t (subst (λ (e : List Event). Logs e d new) (sym none) (rw same (Logs-nothing d))))

pub submitted_as : (Fresh : Type 0) (c : Content) (m : Play) (line : List ℕ) (asked : JobWords) (a : Attachment) (job : Job) (from : List ℕ) (queue : List Request) (tag : Result ℕ SubmitFault) (d new : DiskState) (events : List Event) → Tracks Fresh c m a.keying a.queue d → AreBytes from
    → IsAsked a.keying.sectorsize job from → ((number : ℕ) → work_in number a.keying line asked ≡ work_of number job from) → SubmitAnswers a.keying a.readonly d job from a.queue queue tag → new ≡ d → events ≡ []
    → Tracks Fresh c (goes_on (raw_steps events) (tasks_submitted (tag_or (or_refusal submit_refusal tag)) (work_in m.next a.keying line asked) m.tasks) m) a.keying queue new
submitted_as Fresh c m line asked a job from queue (Ok tag) d new events t small is_asked work h same none =
    let P : List Event → DiskState → Work → Type 0 = λ e x w. Tracks Fresh c (goes_on (raw_steps e) (put_task (record { tag = tag; done = 0; work = w }) m.tasks) m) a.keying queue x in
    let now : P [] d (work_of m.next job from) = tracks_submitted Fresh c m a.keying a.readonly a.queue queue d job from tag t small is_asked h in
    subst (λ (e : List Event). P e new (work_in m.next a.keying line asked)) (sym none) (subst (λ (x : DiskState). P [] x (work_in m.next a.keying line asked)) (sym same) (subst (P [] d) (sym (work m.next)) now))
submitted_as Fresh c m line asked a job from queue (Err fault) d new events t small is_asked work h same none = still Fresh c m a.keying a.queue queue d new events t h.1 same none

-- ---- a step

-- the request that is asked for is there, or nothing changes
pub record IsNoRequest {A : Type 0} (tag : ℕ) (old : Reach) (answer : Result A Refusal) (new : Reach) : Type 0 where
  pub is : answer ≡ Err (refusals.NoRequest tag)
  pub unchanged : new ≡ old

request_then : {B : Type 0} (a : Attachment) (tag : ℕ) (Next : Reach → Result B Refusal → Reach → Type 0) (old : Reach) (given : Result (Unit {0}) Refusal) (middle : Reach) (answer : Result B Refusal) (new : Reach) → NeedsRequest a tag old given middle
    → GoesOn (λ done. Next) given middle answer new → IsNoRequest tag old answer new ⊎ Next old answer new
request_then a tag Next old (Ok done) middle answer new needs h = inr (subst (λ (r : Reach). Next r answer new) needs.1 h)
request_then a tag Next old (Err (refusals.NoRequest named)) middle answer new needs h =
    inl (record { is = h.0 ∙ ap (λ (n : ℕ). Err (refusals.NoRequest n)) needs.0; unchanged = h.1 ∙ needs.2 })
request_then a tag Next old (Err refusal) middle answer new needs h = absurd needs

pub step_asks : (tag : ℕ) (a : Attachment) (old : Reach) (answer : Result ℕ Refusal) (new : Reach) → StepRow tag a old answer new → IsNoRequest tag old answer new ⊎ StepsRequest a tag old answer new
step_asks tag a old answer new h = request_then a tag (StepsRequest a tag) old h.given h.middle answer new h.first h.next

pub reap_asks : (tag : ℕ) (a : Attachment) (old : Reach) (answer : Result (Option (List ℕ)) Refusal) (new : Reach) → ReapRow tag a old answer new → IsNoRequest tag old answer new ⊎ ReapsRequest a tag old answer new
reap_asks tag a old answer new h = request_then a tag (ReapsRequest a tag) old h.given h.middle answer new h.first h.next

next_is : (tag : ℕ) (queue : List Request) (r : Request) → request_with tag queue ≡ Some r → next_events tag queue ≡ step_events r
next_is tag queue r found = ap (λ (o : Option Request). unwrap_or (option_map step_events o) []) found

no_steps : (k : Keying) (found : Option Task) → request_steps k found [] ≡ []
no_steps k None = refl
no_steps k (Some t) = none (unit_steps k t.work t.done)
  where
    none : (steps : List Step) → take 0 steps ≡ []
    none [] = refl
    none (s ∷ steps) = refl

-- nothing was done
pub tracks_still : (Fresh : Type 0) (c : Content) (m : Play) (k : Keying) (queue more : List Request) (d new : DiskState) (found : Option Task) (events : List Event) → Tracks Fresh c m k queue d → more ≡ queue → Logs events d new → events ≡ []
    → Tracks Fresh c (goes_on (request_steps k found events) m.tasks m) k more new
tracks_still Fresh c m k queue more d new found events t same logs none =
    let now : Tracks Fresh c (goes_on [] m.tasks m) k more new = with_other Fresh c (goes_on [] m.tasks m) k queue more new same (tracks_raw Fresh c m k queue d new [] t (subst (λ (e : List Event). Logs e d new) none logs)) in
    subst (λ (l : List Step). Tracks Fresh c (goes_on l m.tasks m) k more new) (sym (ap (request_steps k found) none ∙ no_steps k found)) now

-- the next unit was done
unit_done : (Fresh : Type 0) (c : Content) (m : Play) (k : Keying) (queue more : List Request) (d new : DiskState) (tag left : ℕ) (events : List Event) (found : Option Task) → Tracks Fresh c m k queue d → task_with tag m.tasks ≡ found → StepsOn tag left queue more d new → Logs events d new
    → events ≡ next_events tag queue → Tracks Fresh c (goes_on (request_steps k found events) (tasks_stepped (answers.Left left) found k (cells_after (Some c) m.steps) m.tasks) m) k more new
unit_done Fresh c m k queue more d new tag left events None t is h logs all = tracks_stepped_other Fresh c m k queue more d new tag left events t is h logs
unit_done Fresh c m k queue more d new tag left events (Some task) t is h logs all =
    let units : List Step = unit_steps k task.work task.done in
    let same : request_of k task ≡ h.request = the_same Fresh c m k queue d tag task h.request t is h.found in
    let size : length events ≡ length units = ap (λ (l : List Event). length l) (all ∙ next_is tag queue h.request h.found ∙ ap step_events (sym same)) ∙ unit_events k task in
    let whole : take (length events) units ≡ units = ap (λ (n : ℕ). take n units) size ∙ take-length units in
    subst (λ (l : List Step). Tracks Fresh c (goes_on l (exchange_task (task_after k (cell c m.steps) task) m.tasks) m) k more new) (sym whole) (tracks_stepped Fresh c m k queue more d new tag left task t is h)

-- the disk failed
unit_broken : (Fresh : Type 0) (c : Content) (m : Play) (k : Keying) (queue more : List Request) (d new : DiskState) (tag : ℕ) (events : List Event) (found : Option Task) → Tracks Fresh c m k queue d → task_with tag m.tasks ≡ found → StepAnswers tag queue more d new (Err step.DeviceFault) → Logs events d new
    → events ≡ take (length events) (next_events tag queue) → Tracks Fresh c (goes_on (request_steps k found events) m.tasks m) k more new
unit_broken Fresh c m k queue more d new tag events None t is h logs first = with_other Fresh c (goes_on (raw_steps events) m.tasks m) k queue more new h.queue (tracks_raw Fresh c m k queue d new events t logs)
unit_broken Fresh c m k queue more d new tag events (Some task) t is h logs first =
    let same : request_of k task ≡ h.request = the_same Fresh c m k queue d tag task h.request t is h.found in
    let part : events ≡ take (length events) (step_events (request_of k task)) = first ∙ ap (take (length events)) (next_is tag queue h.request h.found ∙ ap step_events (sym same)) in
    tracks_broken Fresh c m k queue more d new tag task events t is h logs part

-- what a step does, by the result of the queue
pub stepped_as : (Fresh : Type 0) (c : Content) (m : Play) (k : Keying) (queue more : List Request) (d new : DiskState) (tag : ℕ) (events : List Event) (left : Result ℕ StepFault) → Tracks Fresh c m k queue d → StepAnswers tag queue more d new left → Logs events d new
    → EventsBy (λ wanted. wanted ≡ next_events tag queue) false (left_or (or_refusal (step_refusal tag) left)) events
    → let found = task_with tag m.tasks in
    Tracks Fresh c (goes_on (request_steps k found events) (tasks_stepped (left_or (or_refusal (step_refusal tag) left)) found k (cells_after (Some c) m.steps) m.tasks) m) k more new
stepped_as Fresh c m k queue more d new tag events (Ok left) t h logs of_line = unit_done Fresh c m k queue more d new tag left events (task_with tag m.tasks) t refl h logs of_line
stepped_as Fresh c m k queue more d new tag events (Err step.NoRequest) t h logs of_line = tracks_still Fresh c m k queue more d new (task_with tag m.tasks) events t h.1 logs of_line
stepped_as Fresh c m k queue more d new tag events (Err step.AllDone) t h logs of_line = tracks_still Fresh c m k queue more d new (task_with tag m.tasks) events t h.1 logs of_line
stepped_as Fresh c m k queue more d new tag events (Err step.DeviceFault) t h logs of_line =
    unit_broken Fresh c m k queue more d new tag events (task_with tag m.tasks) t refl h logs (row_events (next_events tag queue) (answers.Refused refusals.DeviceFault) events of_line)

-- ---- reaping

moved : (Fresh : Type 0) (c : Content) (m : Play) (k : Keying) (more : List Request) (d new : DiskState) (tag : ℕ) (events : List Event) → Tracks Fresh c (goes_on [] (without_task tag m.tasks) m) k more d → new ≡ d → events ≡ []
    → Tracks Fresh c (goes_on (raw_steps events) (without_task tag m.tasks) m) k more new
moved Fresh c m k more d new tag events t same none =
    subst (λ (e : List Event). Tracks Fresh c (goes_on (raw_steps e) (without_task tag m.tasks) m) k more new) (sym none) (subst (Tracks Fresh c (goes_on [] (without_task tag m.tasks) m) k more) (sym same) t)

pub reaped_as : (Fresh : Type 0) (c : Content) (m : Play) (k : Keying) (queue more : List Request) (d new : DiskState) (tag : ℕ) (before after : List ℕ) (events : List Event) (said : Result Reaped ReapFault) → Tracks Fresh c m k queue d → ReapAnswers k tag queue more before after said
    → new ≡ d → events ≡ [] → Tracks Fresh c (goes_on (raw_steps events) (tasks_reaped (reaped_or (reap_answer tag after said)) tag m.tasks) m) k more new
reaped_as Fresh c m k queue more d new tag before after events (Ok (given.Bytes count)) t h same none = moved Fresh c m k more d new tag events (tracks_reaped Fresh c m k queue more d tag before after (given.Bytes count) t h).tracks same none
reaped_as Fresh c m k queue more d new tag before after events (Ok given.Written) t h same none = moved Fresh c m k more d new tag events (tracks_reaped Fresh c m k queue more d tag before after given.Written t h).tracks same none
reaped_as Fresh c m k queue more d new tag before after events (Ok given.Flushed) t h same none = moved Fresh c m k more d new tag events (tracks_reaped Fresh c m k queue more d tag before after given.Flushed t h).tracks same none
reaped_as Fresh c m k queue more d new tag before after events (Err (reap.Integrity offset)) t h same none = moved Fresh c m k more d new tag events (tracks_reaped_fault Fresh c m k queue more d tag offset t h.0).tracks same none
reaped_as Fresh c m k queue more d new tag before after events (Err reap.NoRequest) t h same none = still Fresh c m k queue more d new events t h.1 same none
reaped_as Fresh c m k queue more d new tag before after events (Err (reap.NotDone left)) t h same none = still Fresh c m k queue more d new events t h.1 same none
