-- Steps on the requests that are open.
use Rattle.std.proofs.Common.{◌≡◌, ◌≢◌, ◌∙◌, ◌⊎◌, inl, inr, ℕ, ◌*◌, ◌<◌, ◌≤◌, List, [], ◌∷◌, ◌++◌, length, take, drop, refl, ap, sym, subst, arith, Bool, true, false, Option, None, Some, Result, Ok, Err, IsSome}
use Rattle.std.proofs.Math.Seq.{take-append_seam}
use Rattle.sealing.specs.Data.{opened_data}
use Rattle.bio_queue.specs.declared.faults.ReapFault.TheVariants as reap
use Rattle.bio_queue.specs.declared.faults.StepFault.TheVariants as step
use Rattle.bio_queue.specs.declared.faults.SubmitFault.TheVariants as submit
use Rattle.bio_queue.specs.declared.job.Job.TheVariants as jobs
use Rattle.command_rows.specs.Rows.{Attachment, IsAttached, NeedsRequest, Reach, or_refusal, with_queue}
use Rattle.command_rows.specs.Vocabulary.{AsksReads, DiskState, Gave, HasBadUnit, IsAdmitted, IsGiven, IsLeastFree, IsOpenRequest, IsWrite, Job, JobPassesEnd, Keying, Logs, ReapAnswers, ReapFault, Reaped, Refusal, Request, Rose, StepAnswers, StepFault, SubmitAnswers, SubmitFault, TakesJob, asked, device_after, exchanged, left_of, media, media_sectors, next_of, put_in, request_with, step_events, stepped, without}
use Rattle.eli_base.specs.declared.refusals.Refusal.TheVariants as refusals
use Rattle.command_rows.specs.verbs.Reap.{ReapsRequest, reap_answer}
use Rattle.command_rows.specs.verbs.Step.{StepsRequest, step_refusal}
use Rattle.command_rows.specs.verbs.Submit.{Submits, submit_refusal}
use Rattle.turn_determinism.specs.Same.{IsSameCount}
use Rattle.turn_determinism.proofs.Alike.{AlikeDisk, counted_same, given_by, logs_alike, still_disk, uncounted_same}
use Rattle.turn_determinism.proofs.Deciding.{held_settled}
use Rattle.turn_determinism.proofs.Disks.{beside_later, beside_settled}
use Rattle.turn_determinism.proofs.Steps.{Both, HasMemory, Later, Settled, Sure, same_disk_later, settled_still, still_later}

-- ---- submitting

-- why a job is taken or isn't, by how many logical sectors there are
Why : Bool → ℕ → Job → ℕ → Result ℕ SubmitFault → Type 0
Why readonly there job many (Ok tag) = IsAdmitted readonly there job × (many < 32)
Why readonly there job many (Err submit.ReadOnly) = IsWrite job × (readonly ≡ true)
Why readonly there job many (Err (submit.OutOfRange sector count end)) = TakesJob readonly job × JobPassesEnd there job sector count end
Why readonly there job many (Err submit.QueueFull) = IsAdmitted readonly there job × (many ≡ 32)
Why readonly there job many (Err submit.NoMemory) = ⊥

takes_no_write : (readonly : Bool) (job : Job) → TakesJob readonly job → IsWrite job → readonly ≡ true → ⊥
takes_no_write readonly (jobs.Read sector count) takes write is = write
takes_no_write readonly (jobs.Write sector count) takes write is = let no : false ≡ true = sym takes ∙ is in cc no
takes_no_write readonly jobs.Flush takes write is = write

inside : (readonly : Bool) (there : ℕ) (job : Job) (sector count end : ℕ) → IsAdmitted readonly there job → JobPassesEnd there job sector count end → ⊥
inside readonly there (jobs.Read first many) sector count end admitted passes = omega (arith, admitted.in_range, passes.0)
inside readonly there (jobs.Write first many) sector count end admitted passes = omega (arith, admitted.in_range, passes.0)
inside readonly there jobs.Flush sector count end admitted passes = passes

passes_same : (there : ℕ) (job : Job) (sector count end sector' count' end' : ℕ) → JobPassesEnd there job sector count end → JobPassesEnd there job sector' count' end' → submit.OutOfRange sector' count' end' ≡ submit.OutOfRange sector count end
passes_same there (jobs.Read first many) sector count end sector' count' end' h h' = rw (h.1, h.2, h.3, h'.1, h'.2, h'.3) refl
passes_same there (jobs.Write first many) sector count end sector' count' end' h h' = rw (h.1, h.2, h.3, h'.1, h'.2, h'.3) refl
passes_same there jobs.Flush sector count end sector' count' end' h h' = absurd h

-- both jobs are taken, or both are refused for the same reason
AgreeBut : Result ℕ SubmitFault → Result ℕ SubmitFault → Type 0
AgreeBut (Ok tag) (Ok tag') = Unit {0}
AgreeBut (Ok tag) (Err fault) = ⊥
AgreeBut (Err fault) (Ok tag) = ⊥
AgreeBut (Err fault) (Err fault') = fault' ≡ fault

agree : (readonly : Bool) (there : ℕ) (job : Job) (many : ℕ) (tag tag' : Result ℕ SubmitFault) → Why readonly there job many tag → Why readonly there job many tag' → AgreeBut tag tag'
unfolding Why AgreeBut
agree readonly there job many (Ok tag) (Ok tag') h h' = tt
agree readonly there job many (Ok tag) (Err submit.ReadOnly) h h' = takes_no_write readonly job h.0.takes h'.0 h'.1
agree readonly there job many (Ok tag) (Err (submit.OutOfRange sector count end)) h h' = inside readonly there job sector count end h.0 h'.1
agree readonly there job many (Ok tag) (Err submit.QueueFull) h h' = omega (arith, h.1, h'.1)
agree readonly there job many (Ok tag) (Err submit.NoMemory) h h' = h'
agree readonly there job many (Err submit.ReadOnly) (Ok tag') h h' = takes_no_write readonly job h'.0.takes h.0 h.1
agree readonly there job many (Err submit.ReadOnly) (Err submit.ReadOnly) h h' = refl
agree readonly there job many (Err submit.ReadOnly) (Err (submit.OutOfRange sector count end)) h h' = absurd (takes_no_write readonly job h'.0 h.0 h.1)
agree readonly there job many (Err submit.ReadOnly) (Err submit.QueueFull) h h' = absurd (takes_no_write readonly job h'.0.takes h.0 h.1)
agree readonly there job many (Err submit.ReadOnly) (Err submit.NoMemory) h h' = absurd h'
agree readonly there job many (Err (submit.OutOfRange sector count end)) (Ok tag') h h' = inside readonly there job sector count end h'.0 h.1
agree readonly there job many (Err (submit.OutOfRange sector count end)) (Err submit.ReadOnly) h h' = absurd (takes_no_write readonly job h.0 h'.0 h'.1)
agree readonly there job many (Err (submit.OutOfRange sector count end)) (Err (submit.OutOfRange sector' count' end')) h h' = passes_same there job sector count end sector' count' end' h.1 h'.1
agree readonly there job many (Err (submit.OutOfRange sector count end)) (Err submit.QueueFull) h h' = absurd (inside readonly there job sector count end h'.0 h.1)
agree readonly there job many (Err (submit.OutOfRange sector count end)) (Err submit.NoMemory) h h' = absurd h'
agree readonly there job many (Err submit.QueueFull) (Ok tag') h h' = omega (arith, h.1, h'.1)
agree readonly there job many (Err submit.QueueFull) (Err submit.ReadOnly) h h' = absurd (takes_no_write readonly job h.0.takes h'.0 h'.1)
agree readonly there job many (Err submit.QueueFull) (Err (submit.OutOfRange sector count end)) h h' = absurd (inside readonly there job sector count end h.0 h'.1)
agree readonly there job many (Err submit.QueueFull) (Err submit.QueueFull) h h' = refl
agree readonly there job many (Err submit.QueueFull) (Err submit.NoMemory) h h' = absurd h'
agree readonly there job many (Err submit.NoMemory) tag' h h' = absurd h

least_same : (queue : List Request) (tag tag' : ℕ) → IsLeastFree tag queue → IsLeastFree tag' queue → tag' ≡ tag
least_same queue tag tag' h h' =
    let P : Option Request → Type 0 = λ o. IsSome o in
    let no : tag < tag' → ⊥ = λ lt. let none : false ≡ true = subst P h.free (h'.least tag lt) in cc none in
    let no' : tag' < tag → ⊥ = λ lt. let none : false ≡ true = subst P h'.free (h.least tag' lt) in cc none in
    omega (arith, no, no')

-- the queue after a job was submitted
QueueIs : Keying → Job → List ℕ → List Request → List Request → Result ℕ SubmitFault → Type 0
QueueIs k job from old new (Ok tag) = IsLeastFree tag old × (new ≡ put_in (asked k tag job from) old)
QueueIs k job from old new (Err fault) = new ≡ old

-- why a job is taken or isn't, and the queue after it
record SubmitIs (k : Keying) (readonly : Bool) (there : ℕ) (job : Job) (from : List ℕ) (old new : List Request) (tag : Result ℕ SubmitFault) : Type 0 where
  why : Why readonly there job (length old) tag
  queue : QueueIs k job from old new tag

submit_is : (k : Keying) (readonly : Bool) (d : DiskState) (job : Job) (from : List ℕ) (old new : List Request) (tag : Result ℕ SubmitFault) → tag ≢ Err submit.NoMemory → SubmitAnswers k readonly d job from old new tag
    → SubmitIs k readonly (media k d) job from old new tag
unfolding Why QueueIs
submit_is k readonly d job from old new (Ok tag) memory h = record { why = (h.admitted, h.room); queue = (h.free, h.queue) }
submit_is k readonly d job from old new (Err submit.ReadOnly) memory h = record { why = h.0; queue = h.1 }
submit_is k readonly d job from old new (Err (submit.OutOfRange sector count end)) memory h = record { why = h.0; queue = h.1 }
submit_is k readonly d job from old new (Err submit.QueueFull) memory h = record { why = h.0; queue = h.1 }
submit_is k readonly d job from old new (Err submit.NoMemory) memory h = absurd (memory refl)

submit_same : (k : Keying) (readonly : Bool) (there : ℕ) (job : Job) (from : List ℕ) (old new new' : List Request) (tag tag' : Result ℕ SubmitFault) → AgreeBut tag tag' → QueueIs k job from old new tag → QueueIs k job from old new' tag'
    → (tag' ≡ tag) × (new' ≡ new)
unfolding AgreeBut QueueIs
submit_same k readonly there job from old new new' (Ok tag) (Ok tag') agrees h h' =
    let is : tag' ≡ tag = least_same old tag tag' h.0 h'.0 in
    (ap (λ (n : ℕ). Ok n) is, h'.1 ∙ ap (λ (n : ℕ). put_in (asked k n job from) old) is ∙ sym h.1)
submit_same k readonly there job from old new new' (Ok tag) (Err fault) agrees h h' = absurd agrees
submit_same k readonly there job from old new new' (Err fault) (Ok tag) agrees h h' = absurd agrees
submit_same k readonly there job from old new new' (Err fault) (Err fault') agrees h h' = (ap (λ (f : SubmitFault). Err f) agrees, h' ∙ sym h)

tag_memory : (answer : Result ℕ Refusal) (tag : Result ℕ SubmitFault) → HasMemory answer → answer ≡ or_refusal submit_refusal tag → tag ≢ Err submit.NoMemory
tag_memory answer tag memory is none = memory (is ∙ ap (or_refusal submit_refusal) none)

-- what is attached has these requests open
with_same : (a : Attachment) (old new : Reach) (queue queue' : List Request) → queue' ≡ queue → new ≡ record { disk = old.disk; holding = IsAttached (with_queue queue' a); cabinet = old.cabinet; entropy = old.entropy }
    → new ≡ record { disk = old.disk; holding = IsAttached (with_queue queue a); cabinet = old.cabinet; entropy = old.entropy }
with_same a old new queue queue' is h =
    let P : List Request → Type 0 = λ q. new ≡ record { disk = old.disk; holding = IsAttached (with_queue q a); cabinet = old.cabinet; entropy = old.entropy } in
    subst P is h

held_later : (a : Attachment) (old new : Reach) (queue : List Request) → new ≡ record { disk = old.disk; holding = IsAttached (with_queue queue a); cabinet = old.cabinet; entropy = old.entropy } → Later old new
held_later a old new queue is = rw is (record { disk = omega arith; cabinet = omega arith; entropy = omega arith })

submits_settled : (a : Attachment) (job : Job) (from : List ℕ) (old old' : Reach) (answer answer' : Result ℕ Refusal) (new new' : Reach) → (both : Both old old' new new') → HasMemory answer → HasMemory answer'
    → Submits a job from old answer new → Submits a job from old' answer' new' → Settled both.counts answer answer' new new'
submits_settled a job from old old' answer answer' new new' both memory memory' h h' =
    let there : ℕ = media a.keying old.disk in
    let P : ℕ → Type 0 = λ n. SubmitIs a.keying a.readonly (media_sectors a.keying.auth a.keying.sectorsize (512 * n)) job from a.queue h'.queue h'.tag in
    let x : SubmitIs a.keying a.readonly there job from a.queue h.queue h.tag = submit_is a.keying a.readonly old.disk job from a.queue h.queue h.tag (tag_memory answer h.tag memory h.answered) h.submits in
    let x' : SubmitIs a.keying a.readonly there job from a.queue h'.queue h'.tag =
    subst P both.same.disk.size (submit_is a.keying a.readonly old'.disk job from a.queue h'.queue h'.tag (tag_memory answer' h'.tag memory' h'.answered) h'.submits) in
    let is = submit_same a.keying a.readonly there job from a.queue h.queue h'.queue h.tag h'.tag (agree a.readonly there job (length a.queue) h.tag h'.tag x.why x'.why) x.queue x'.queue in
    held_settled (IsAttached (with_queue h.queue a)) old old' answer answer' new new' both (h'.answered ∙ ap (or_refusal submit_refusal) is.0 ∙ sym h.answered) h.left (with_same a old' new' h.queue h'.queue is.1 h'.left)

pub submits_sure : (a : Attachment) (job : Job) (from : List ℕ) → Sure (Submits a job from)
submits_sure a job from = record { goes = λ old answer new h. held_later a old new h.queue h.left; settles = submits_settled a job from }

-- ---- a request that is open

record NeedIs (a : Attachment) (tag : ℕ) (there : ℕ) (old : Reach) (answer : Result (Unit {0}) Refusal) (new : Reach) : Type 0 where
  unchanged : new ≡ old
  decided : ((answer ≡ Ok tt) × IsOpenRequest a.keying there tag a.queue) ⊎ ((answer ≡ Err (refusals.NoRequest tag)) × (¬ IsOpenRequest a.keying there tag a.queue))

need_is : (a : Attachment) (tag : ℕ) (old : Reach) (answer : Result (Unit {0}) Refusal) (new : Reach) → NeedsRequest a tag old answer new → NeedIs a tag (media a.keying old.disk) old answer new
need_is a tag old (Ok done) new h = record { unchanged = h.1; decided = inl (refl, h.0) }
need_is a tag old (Err (refusals.NoRequest named)) new h = record { unchanged = h.2; decided = inr (ap (λ (n : ℕ). Err (refusals.NoRequest n)) h.0, h.1) }
need_is a tag old (Err refusal) new h = absurd h

need_same : (a : Attachment) (tag there : ℕ) (answer answer' : Result (Unit {0}) Refusal) → ((answer ≡ Ok tt) × IsOpenRequest a.keying there tag a.queue) ⊎ ((answer ≡ Err (refusals.NoRequest tag)) × (¬ IsOpenRequest a.keying there tag a.queue))
    → ((answer' ≡ Ok tt) × IsOpenRequest a.keying there tag a.queue) ⊎ ((answer' ≡ Err (refusals.NoRequest tag)) × (¬ IsOpenRequest a.keying there tag a.queue)) → answer' ≡ answer
need_same a tag there answer answer' (inl h) (inl h') = h'.0 ∙ sym h.0
need_same a tag there answer answer' (inl h) (inr h') = absurd (h'.1 h.1)
need_same a tag there answer answer' (inr h) (inl h') = absurd (h.1 h'.1)
need_same a tag there answer answer' (inr h) (inr h') = h'.0 ∙ sym h.0

pub request_sure : (a : Attachment) (tag : ℕ) → Sure (NeedsRequest a tag)
request_sure a tag = record {
  goes = λ old answer new h. still_later old new (need_is a tag old answer new h).unchanged;
  settles = λ old old' answer answer' new new' both memory memory' h h'.
      let P : ℕ → Type 0 = λ n. NeedIs a tag (media_sectors a.keying.auth a.keying.sectorsize (512 * n)) old' answer' new' in
      let x : NeedIs a tag (media a.keying old.disk) old answer new = need_is a tag old answer new h in
      let x' : NeedIs a tag (media a.keying old.disk) old' answer' new' = subst P both.same.disk.size (need_is a tag old' answer' new' h') in
      settled_still old old' answer answer' new new' both (need_same a tag (media a.keying old.disk) answer answer' x.decided x'.decided) x.unchanged x'.unchanged;
}

-- ---- a step

step_later : (tag : ℕ) (old new : List Request) (d e : DiskState) (left : Result ℕ StepFault) → StepAnswers tag old new d e left → d.faults ≤ e.faults
step_later tag old new d e (Ok left) h = h.logs.faults
step_later tag old new d e (Err step.NoRequest) h = same_disk_later d e h.2
step_later tag old new d e (Err step.AllDone) h = same_disk_later d e h.2
step_later tag old new d e (Err step.DeviceFault) h = h.fails.logs.faults

-- a unit of this request is done
record StepsSo (r : Request) (old new : List Request) (d e : DiskState) (left : Result ℕ StepFault) : Type 0 where
  more : r.done < r.units
  logs : Logs (step_events r) d e
  asked : AsksReads r.job d e
  bytes : List ℕ
  given : IsGiven d r.job (next_of r) bytes
  queue : new ≡ exchanged (stepped r bytes) old
  rest : left ≡ Ok (left_of (stepped r bytes))

record StepsNone (old new : List Request) (d e : DiskState) (left : Result ℕ StepFault) (fault : StepFault) : Type 0 where
  is : left ≡ Err fault
  queue : new ≡ old
  disk : e ≡ d

-- what a step does, by the request with the tag
StepIs : Option Request → List Request → List Request → DiskState → DiskState → Result ℕ StepFault → Type 0
StepIs None old new d e left = StepsNone old new d e left step.NoRequest
StepIs (Some r) old new d e left = StepsSo r old new d e left ⊎ ((left_of r ≡ 0) × StepsNone old new d e left step.AllDone)

step_is : (tag : ℕ) (old new : List Request) (d e : DiskState) (left : Result ℕ StepFault) → ¬ Rose d.faults e.faults → StepAnswers tag old new d e left → StepIs (request_with tag old) old new d e left
unfolding StepIs
step_is tag old new d e (Ok left) quiet h =
    let P : Option Request → Type 0 = λ o. StepIs o old new d e (Ok left) in
    let x : StepIs (Some h.request) old new d e (Ok left) =
    inl (record { more = h.more; logs = h.logs; asked = h.asked; bytes = h.bytes; given = h.given; queue = h.queue; rest = ap (λ (n : ℕ). Ok n) h.rest }) in
    subst P (sym h.found) x
step_is tag old new d e (Err step.NoRequest) quiet h =
    let P : Option Request → Type 0 = λ o. StepIs o old new d e (Err step.NoRequest) in
    let x : StepIs None old new d e (Err step.NoRequest) = record { is = refl; queue = h.1; disk = h.2 } in
    subst P (sym h.0) x
step_is tag old new d e (Err step.AllDone) quiet h =
    let P : Option Request → Type 0 = λ o. StepIs o old new d e (Err step.AllDone) in
    let x : StepIs (Some h.0.request) old new d e (Err step.AllDone) = inr (h.0.none, record { is = refl; queue = h.1; disk = h.2 }) in
    subst P (sym h.0.found) x
step_is tag old new d e (Err step.DeviceFault) quiet h = absurd (quiet h.fails.rose)

asks_alike : (job : Job) (d d' e e' : DiskState) → IsSameCount d.reads d'.reads → AsksReads job d e → AsksReads job d' e' → IsSameCount e.reads e'.reads
asks_alike (jobs.Read sector count) d d' e e' same h h' = counted_same 1 same h h'
asks_alike (jobs.Write sector count) d d' e e' same h h' = uncounted_same same h h'
asks_alike jobs.Flush d d' e e' same h h' = uncounted_same same h h'

device_same : (job : Job) (n : ℕ) (device : List (List ℕ)) (bytes bytes' : List ℕ) (d d' : DiskState) → AlikeDisk d d' → IsGiven d job n bytes → IsGiven d' job n bytes' → device_after job device bytes' ≡ device_after job device bytes
device_same (jobs.Read sector count) n device bytes bytes' d d' same h h' =
    ap (λ (b : List ℕ). device ++ b ∷ []) (given_by d' same.content n bytes' same.told' h' ∙ sym (given_by d same.content n bytes same.told h))
device_same (jobs.Write sector count) n device bytes bytes' d d' same h h' = refl
device_same jobs.Flush n device bytes bytes' d d' same h h' = refl

stepped_same : (r : Request) (bytes bytes' : List ℕ) → device_after r.job r.device bytes' ≡ device_after r.job r.device bytes → stepped r bytes' ≡ stepped r bytes
stepped_same r bytes bytes' is = rw is refl

step_by : (found : Option Request) (old new new' : List Request) (d d' e e' : DiskState) (left left' : Result ℕ StepFault) → AlikeDisk d d' → StepIs found old new d e left → StepIs found old new' d' e' left'
    → (left' ≡ left) × (new' ≡ new) × AlikeDisk e e'
unfolding StepIs
step_by None old new new' d d' e e' left left' same h h' = (h'.is ∙ sym h.is, h'.queue ∙ sym h.queue, still_disk d d' e e' same h.disk h'.disk)
step_by (Some r) old new new' d d' e e' left left' same (inl h) (inl h') =
    let is : stepped r h'.bytes ≡ stepped r h.bytes = stepped_same r h.bytes h'.bytes (device_same r.job (next_of r) r.device h.bytes h'.bytes d d' same h.given h'.given) in (
      h'.rest ∙ ap (λ (s : Request). Ok (left_of s)) is ∙ sym h.rest,
      h'.queue ∙ ap (λ (s : Request). exchanged s old) is ∙ sym h.queue,
      logs_alike (step_events r) d d' e e' same h.logs h'.logs (asks_alike r.job d d' e e' same.reads h.asked h'.asked),
    )
step_by (Some r) old new new' d d' e e' left left' same (inl h) (inr h') = absurd (omega (arith, h.more, h'.0))
step_by (Some r) old new new' d d' e e' left left' same (inr h) (inl h') = absurd (omega (arith, h.0, h'.more))
step_by (Some r) old new new' d d' e e' left left' same (inr h) (inr h') =
    (h'.1.is ∙ sym h.1.is, h'.1.queue ∙ sym h.1.queue, still_disk d d' e e' same h.1.disk h'.1.disk)

pub steps_request_sure : (a : Attachment) (tag : ℕ) → Sure (StepsRequest a tag)
steps_request_sure a tag = record {
  goes = λ old answer new h. beside_later old new (step_later tag a.queue h.queue old.disk new.disk h.left h.steps) h.outside.cabinet h.outside.entropy;
  settles = λ old old' answer answer' new new' both memory memory' h h'.
      let is = step_by (request_with tag a.queue) a.queue h.queue h'.queue old.disk old'.disk new.disk new'.disk h.left h'.left both.same.disk
      (step_is tag a.queue h.queue old.disk new.disk h.left both.quiet.disk h.steps) (step_is tag a.queue h'.queue old'.disk new'.disk h'.left both.quiet'.disk h'.steps) in
      beside_settled old old' answer answer' new new' both (h'.answered ∙ ap (or_refusal (step_refusal tag)) is.0 ∙ sym h.answered) is.2
      (h'.holding ∙ ap (λ (q : List Request). IsAttached (with_queue q a)) is.1 ∙ sym h.holding) h.outside.cabinet h'.outside.cabinet h.outside.entropy h'.outside.entropy;
}

-- ---- reaping

-- what a request that is done returns
as_read : Result (List ℕ) ℕ → Result (Option (List ℕ)) Refusal
as_read (Ok bytes) = Ok (Some bytes)
as_read (Err offset) = Err (refusals.Integrity offset)

as_reaped : Keying → Job → List (List ℕ) → Result (Option (List ℕ)) Refusal
as_reaped k (jobs.Read sector count) device = as_read (opened_data k sector count device)
as_reaped k (jobs.Write sector count) device = Ok None
as_reaped k jobs.Flush device = Ok None

front : (bytes behind after : List ℕ) → after ≡ bytes ++ behind → take (length bytes) after ≡ bytes
front bytes behind after is = rw is (take-append_seam bytes behind)

gave_is : (k : Keying) (tag : ℕ) (job : Job) (device : List (List ℕ)) (before after : List ℕ) (given : Reaped) → Gave k job device before after given → reap_answer tag after (Ok given) ≡ as_reaped k job device
unfolding as_read as_reaped
gave_is k tag (jobs.Read sector count) device before after given h =
    let bytes : List ℕ = h.0 in
    let some : take (length bytes) after ≡ bytes = front bytes (drop (length bytes) before) after h.4 in
    ap (λ (g : Reaped). reap_answer tag after (Ok g)) h.2 ∙ ap (λ (b : List ℕ). Ok (Some b)) some ∙ ap as_read (sym h.1)
gave_is k tag (jobs.Write sector count) device before after given h = ap (λ (g : Reaped). reap_answer tag after (Ok g)) h.0
gave_is k tag jobs.Flush device before after given h = ap (λ (g : Reaped). reap_answer tag after (Ok g)) h.0

bad_is : (k : Keying) (job : Job) (device : List (List ℕ)) (offset : ℕ) → HasBadUnit k job device offset → Err (refusals.Integrity offset) ≡ as_reaped k job device
unfolding as_read as_reaped
bad_is k (jobs.Read sector count) device offset h = ap as_read (sym h)
bad_is k (jobs.Write sector count) device offset h = absurd h
bad_is k jobs.Flush device offset h = absurd h

-- the request is taken out
record ReapsSo (k : Keying) (tag : ℕ) (r : Request) (old new : List Request) (answer : Result (Option (List ℕ)) Refusal) : Type 0 where
  none : left_of r ≡ 0
  is : answer ≡ as_reaped k r.job r.device
  queue : new ≡ without tag old

-- some units of the request are left
record ReapsLater (tag : ℕ) (r : Request) (old new : List Request) (answer : Result (Option (List ℕ)) Refusal) : Type 0 where
  some : 1 ≤ left_of r
  is : answer ≡ Err (refusals.RequestNotDone tag (left_of r))
  queue : new ≡ old

record ReapsNone (tag : ℕ) (old new : List Request) (answer : Result (Option (List ℕ)) Refusal) : Type 0 where
  is : answer ≡ Err (refusals.NoRequest tag)
  queue : new ≡ old

-- what reaping does, by the request with the tag
ReapIs : Keying → ℕ → Option Request → List Request → List Request → Result (Option (List ℕ)) Refusal → Type 0
ReapIs k tag None old new answer = ReapsNone tag old new answer
ReapIs k tag (Some r) old new answer = ReapsSo k tag r old new answer ⊎ ReapsLater tag r old new answer

reap_found : (k : Keying) (tag : ℕ) (found found' : Option Request) (old new : List Request) (answer : Result (Option (List ℕ)) Refusal) → found ≡ found' → ReapIs k tag found' old new answer → ReapIs k tag found old new answer
reap_found k tag found found' old new answer is h = let P : Option Request → Type 0 = λ o. ReapIs k tag o old new answer in subst P (sym is) h

reap_is : (k : Keying) (tag : ℕ) (old new : List Request) (before after : List ℕ) (given : Result Reaped ReapFault) → ReapAnswers k tag old new before after given → ReapIs k tag (request_with tag old) old new (reap_answer tag after given)
unfolding ReapIs
reap_is k tag old new before after (Ok given) h =
    reap_found k tag (request_with tag old) (Some h.request) old new (reap_answer tag after (Ok given)) h.found
    (inl (record { none = h.none; is = gave_is k tag h.request.job h.request.device before after given h.gives; queue = h.queue }))
reap_is k tag old new before after (Err reap.NoRequest) h =
    reap_found k tag (request_with tag old) None old new (Err (refusals.NoRequest tag)) h.0 (record { is = refl; queue = h.1 })
reap_is k tag old new before after (Err (reap.NotDone left)) h =
    reap_found k tag (request_with tag old) (Some h.0.request) old new (Err (refusals.RequestNotDone tag left)) h.0.found
    (inr (record { some = omega (arith, h.0.some, h.0.rest); is = ap (λ (n : ℕ). Err (refusals.RequestNotDone tag n)) h.0.rest; queue = h.1 }))
reap_is k tag old new before after (Err (reap.Integrity offset)) h =
    reap_found k tag (request_with tag old) (Some h.0.request) old new (Err (refusals.Integrity offset)) h.0.found
    (inl (record { none = h.0.none; is = bad_is k h.0.request.job h.0.request.device offset h.0.gives; queue = h.0.queue }))

reap_by : (k : Keying) (tag : ℕ) (found : Option Request) (old new new' : List Request) (answer answer' : Result (Option (List ℕ)) Refusal) → ReapIs k tag found old new answer → ReapIs k tag found old new' answer' → (answer' ≡ answer) × (new' ≡ new)
unfolding ReapIs
reap_by k tag None old new new' answer answer' h h' = (h'.is ∙ sym h.is, h'.queue ∙ sym h.queue)
reap_by k tag (Some r) old new new' answer answer' (inl h) (inl h') = (h'.is ∙ sym h.is, h'.queue ∙ sym h.queue)
reap_by k tag (Some r) old new new' answer answer' (inl h) (inr h') = absurd (omega (arith, h.none, h'.some))
reap_by k tag (Some r) old new new' answer answer' (inr h) (inl h') = absurd (omega (arith, h.some, h'.none))
reap_by k tag (Some r) old new new' answer answer' (inr h) (inr h') = (h'.is ∙ sym h.is, h'.queue ∙ sym h.queue)

reaps_is : (a : Attachment) (tag : ℕ) (old : Reach) (answer : Result (Option (List ℕ)) Refusal) (new : Reach) (h : ReapsRequest a tag old answer new) → ReapIs a.keying tag (request_with tag a.queue) a.queue h.queue answer
reaps_is a tag old answer new h =
    let P : Result (Option (List ℕ)) Refusal → Type 0 = λ r. ReapIs a.keying tag (request_with tag a.queue) a.queue h.queue r in
    subst P (sym h.answered) (reap_is a.keying tag a.queue h.queue h.before h.after h.given h.reaps)

pub reaps_sure : (a : Attachment) (tag : ℕ) → Sure (ReapsRequest a tag)
reaps_sure a tag = record {
  goes = λ old answer new h. held_later a old new h.queue h.left;
  settles = λ old old' answer answer' new new' both memory memory' h h'.
      let is = reap_by a.keying tag (request_with tag a.queue) a.queue h.queue h'.queue answer answer' (reaps_is a tag old answer new h) (reaps_is a tag old' answer' new' h') in
      held_settled (IsAttached (with_queue h.queue a)) old old' answer answer' new new' both is.0 h.left (with_same a old' new' h.queue h'.queue is.1 h'.left);
}
