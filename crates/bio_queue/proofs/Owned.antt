-- The requests of a queue stay those of their provider.
use Rattle.std.proofs.Common.{inl, inr, ◌≡◌, ◌⊎◌, ℕ, ◌+◌, ◌*◌, ◌/◌, ◌≤◌, ◌==◌, nat_lt, Bool, true, false, cond, List, [], ◌∷◌, Option, Some, None, IfSome, Result, Ok, Err, refl, sym, ap, ◌∙◌, subst, arith}
use Rattle.std.specs.Prelude.{IsSomeAnd}
use Rattle.std.proofs.Math.Nat.{mul-div_cancel, mul-le-mul_right}
use Rattle.block_traits.specs.Disk.{DiskState}
use Rattle.eli_base.specs.Keying.{Keying}
use Rattle.eli_base.specs.Units.{media_sectors}
use Rattle.provider.specs.Attached.{media}
use Rattle.sealing.specs.Sectors.{units}
use Rattle.bio_queue.specs.Answers.{CanBeReaped, CanStep, IsAsked, JobIsInRange, IsOfProvider, ReapAnswers, StepAnswers, SubmitAnswers, asked}
use Rattle.bio_queue.specs.Owners.{AreAllOf, IsMadeOf, IsOf, IsOpenRequest}
use Rattle.bio_queue.specs.Requests.{IsBelow, Request, exchanged, put_in, request_with, stepped, without}
use Rattle.bio_queue.specs.declared.faults.ReapFault.{ReapFault}
use Rattle.bio_queue.specs.declared.faults.ReapFault.TheVariants as reap
use Rattle.bio_queue.specs.declared.faults.StepFault.{StepFault}
use Rattle.bio_queue.specs.declared.faults.StepFault.TheVariants as step
use Rattle.bio_queue.specs.declared.faults.SubmitFault.{SubmitFault}
use Rattle.bio_queue.specs.declared.job.Job.{Job}
use Rattle.bio_queue.specs.declared.job.Job.TheVariants.{Read, Write, Flush}
use Rattle.bio_queue.specs.declared.job.Reaped.{Reaped}

-- ---- what becomes of the queue

put_step : (k : Keying) (m : ℕ) (new x : Request) (queue : List Request) (b : Bool) → IsOf k m new → AreAllOf k m (x ∷ queue) → AreAllOf k m (put_in new queue) → AreAllOf k m (cond b (new ∷ x ∷ queue) (x ∷ put_in new queue))
put_step k m new x queue true is all more = (is, all)
put_step k m new x queue false is all more = (all.0, more)

of_put : (k : Keying) (m : ℕ) (new : Request) (queue : List Request) → IsOf k m new → AreAllOf k m queue → AreAllOf k m (put_in new queue)
of_put k m new [] is all = (is, tt)
of_put k m new (x ∷ queue) is all = put_step k m new x queue (nat_lt new.tag x.tag) is all (of_put k m new queue is all.1)

exchange_step : (k : Keying) (m : ℕ) (new x : Request) (queue : List Request) (b : Bool) → IsOf k m new → AreAllOf k m (x ∷ queue) → AreAllOf k m (exchanged new queue) → AreAllOf k m (cond b (new ∷ queue) (x ∷ exchanged new queue))
exchange_step k m new x queue true is all more = (is, all.1)
exchange_step k m new x queue false is all more = (all.0, more)

of_exchange : (k : Keying) (m : ℕ) (new : Request) (queue : List Request) → IsOf k m new → AreAllOf k m queue → AreAllOf k m (exchanged new queue)
of_exchange k m new [] is all = tt
of_exchange k m new (x ∷ queue) is all = exchange_step k m new x queue (x.tag == new.tag) is all (of_exchange k m new queue is all.1)

without_step : (k : Keying) (m tag : ℕ) (x : Request) (queue : List Request) (b : Bool) → AreAllOf k m (x ∷ queue) → AreAllOf k m (without tag queue) → AreAllOf k m (cond b queue (x ∷ without tag queue))
without_step k m tag x queue true all more = all.1
without_step k m tag x queue false all more = (all.0, more)

of_without : (k : Keying) (m tag : ℕ) (queue : List Request) → AreAllOf k m queue → AreAllOf k m (without tag queue)
of_without k m tag [] all = tt
of_without k m tag (x ∷ queue) all = without_step k m tag x queue (x.tag == tag) all (of_without k m tag queue all.1)

found_step : (k : Keying) (m tag : ℕ) (x : Request) (queue : List Request) (b : Bool) → AreAllOf k m (x ∷ queue) → IfSome (request_with tag queue) (IsOf k m) → IfSome (cond b (Some x) (request_with tag queue)) (IsOf k m)
found_step k m tag x queue true all more = all.0
found_step k m tag x queue false all more = more

of_found : (k : Keying) (m tag : ℕ) (queue : List Request) → AreAllOf k m queue → IfSome (request_with tag queue) (IsOf k m)
of_found k m tag [] all = tt
of_found k m tag (x ∷ queue) all = found_step k m tag x queue (x.tag == tag) all (of_found k m tag queue all.1)

-- ---- a new request

of_asked : (k : Keying) (m tag : ℕ) (job : Job) (from : List ℕ) → IsAsked k.sectorsize job from → JobIsInRange m job → IsOf k m (asked k tag job from)
of_asked k m tag (Read sector count) from is range = record { some = is.0; few = is.1; in_range = range; units_are = refl }
of_asked k m tag (Write sector count) from is range = record { some = is.0; few = is.1; in_range = range; units_are = refl }
of_asked k m tag Flush from is range = refl

-- ---- the calls

pub submit_keeps : (k : Keying) (readonly : Bool) (d : DiskState) (job : Job) (from : List ℕ) (old new : List Request) (answer : Result ℕ SubmitFault) → IsAsked k.sectorsize job from → SubmitAnswers k readonly d job from old new answer
    → AreAllOf k (media k d) old → AreAllOf k (media k d) new
submit_keeps k readonly d job from old new (Ok tag) is h all =
    let m = media k d in
    subst (AreAllOf k m) (sym h.queue) (of_put k m (asked k tag job from) old (of_asked k m tag job from is h.admitted.in_range) all)
submit_keeps k readonly d job from old new (Err fault) is h all = subst (AreAllOf k (media k d)) (sym h.1) all

of_request : (k : Keying) (m tag : ℕ) (queue : List Request) (r : Request) → request_with tag queue ≡ Some r → AreAllOf k m queue → IsOf k m r
of_request k m tag queue r found all = subst (λ (o : Option Request). IfSome o (IsOf k m)) found (of_found k m tag queue all)

-- the disk keeps its size
of_kept : (k : Keying) (before after : DiskState) (queue : List Request) → after.size ≡ before.size → AreAllOf k (media k before) queue → AreAllOf k (media k after) queue
of_kept k before after queue size all = subst (λ (n : ℕ). AreAllOf k (media_sectors k.auth k.sectorsize (512 * n)) queue) (sym size) all

of_same : (k : Keying) (before after : DiskState) (old new : List Request) → new ≡ old → after ≡ before → AreAllOf k (media k before) old → AreAllOf k (media k after) new
of_same k before after old new queue disk all = subst (λ (d : DiskState). AreAllOf k (media k d) new) (sym disk) (subst (AreAllOf k (media k before)) (sym queue) all)

pub step_keeps : (k : Keying) (tag : ℕ) (old new : List Request) (before after : DiskState) (answer : Result ℕ StepFault) → StepAnswers tag old new before after answer → AreAllOf k (media k before) old → AreAllOf k (media k after) new
step_keeps k tag old new before after (Ok left) h all =
    let m = media k before in
    let one : IsOf k m (stepped h.request h.bytes) = of_request k m tag old h.request h.found all in
    of_kept k before after new h.logs.size (subst (AreAllOf k m) (sym h.queue) (of_exchange k m (stepped h.request h.bytes) old one all))
step_keeps k tag old new before after (Err step.NoRequest) h all = of_same k before after old new h.1 h.2 all
step_keeps k tag old new before after (Err step.AllDone) h all = of_same k before after old new h.1 h.2 all
step_keeps k tag old new before after (Err step.DeviceFault) h all = of_kept k before after new h.fails.logs.size (subst (AreAllOf k (media k before)) (sym h.queue) all)

pub reap_keeps : (k : Keying) (m tag : ℕ) (old new : List Request) (before after : List ℕ) (answer : Result Reaped ReapFault) → ReapAnswers k tag old new before after answer → AreAllOf k m old → AreAllOf k m new
reap_keeps k m tag old new before after (Ok given) h all = subst (AreAllOf k m) (sym h.queue) (of_without k m tag old all)
reap_keeps k m tag old new before after (Err reap.NoRequest) h all = subst (AreAllOf k m) (sym h.1) all
reap_keeps k m tag old new before after (Err (reap.NotDone left)) h all = subst (AreAllOf k m) (sym h.1) all
reap_keeps k m tag old new before after (Err (reap.Integrity offset)) h all = subst (AreAllOf k m) (sym h.0.queue) (of_without k m tag old all)

-- ---- the conditions of a step and of reaping

below : (sector count many m units : ℕ) → 1 ≤ count → sector + count ≤ m → many ≡ count * units → sector * (many / count) + many ≤ m * units
below sector count many m units some fits is =
    let e : count * units ≡ units * count = omega arith in
    let same : many / count ≡ units = ap (λ (n : ℕ). n / count) (is ∙ e) ∙ mul-div_cancel units some in
    let at : sector * (many / count) ≡ sector * units = ap (λ (n : ℕ). sector * n) same in
    let all : (sector + count) * units ≤ m * units = mul-le-mul_right units fits in
    omega (arith, at, all, is)

can_step : (k : Keying) (m : ℕ) (job : Job) (many : ℕ) → IsMadeOf k m job many → IsBelow (m * units k) job many
can_step k m (Read sector count) many h = below sector count many m (units k) h.some h.in_range h.units_are
can_step k m (Write sector count) many h = below sector count many m (units k) h.some h.in_range h.units_are
can_step k m Flush many h = tt

can_be_reaped : (k : Keying) (m : ℕ) (job : Job) (many : ℕ) → IsMadeOf k m job many → IsOfProvider k m job many
can_be_reaped k m (Read sector count) many h = (h.in_range, h.units_are, h.few)
can_be_reaped k m (Write sector count) many h = tt
can_be_reaped k m Flush many h = tt

met_by : (k : Keying) (d : DiskState) (o : Option Request) → IsSomeAnd o (IsOf k (media k d)) → IfSome o (CanStep k d) × IfSome o (CanBeReaped k d)
met_by k d None h = absurd h
met_by k d (Some r) h = (can_step k (media k d) r.job r.units h, can_be_reaped k (media k d) r.job r.units h)

pub met : (k : Keying) (d : DiskState) (tag : ℕ) (queue : List Request) → IsOpenRequest k (media k d) tag queue → IfSome (request_with tag queue) (CanStep k d) × IfSome (request_with tag queue) (CanBeReaped k d)
met k d tag queue h = met_by k d (request_with tag queue) h

there_or_none : (o : Option Request) (P : Request → Type 0) → IfSome o P → (o ≡ None) ⊎ IsSomeAnd o P
there_or_none None P h = inl refl
there_or_none (Some r) P h = inr h

pub served : (k : Keying) (m tag : ℕ) (queue : List Request) → AreAllOf k m queue → (request_with tag queue ≡ None) ⊎ IsOpenRequest k m tag queue
served k m tag queue all = there_or_none (request_with tag queue) (IsOf k m) (of_found k m tag queue all)
