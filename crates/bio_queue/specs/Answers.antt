-- What the calls of a queue return, each result with its cause, and what they leave.
use Rattle.std.specs.Prelude.{◌≡◌, ℕ, ◌+◌, ◌*◌, ◌<◌, ◌≤◌, Bool, true, false, List, [], ◌++◌, length, drop, replicate, Some, None, Result, Ok, Err}
use Rattle.block_traits.specs.Causes.{Counted}
use Rattle.block_traits.specs.Disk.{DiskState, FailsIn, Gives, Logs}
use Rattle.eli_base.specs.Keying.{Keying}
use Rattle.eli_base.specs.Requests.{request_limit}
use Rattle.provider.specs.Attached.{media}
use Rattle.sealing.specs.Sectors.{units}
use Rattle.bio_queue.specs.declared.faults.ReapFault.{ReapFault}
use Rattle.bio_queue.specs.declared.faults.ReapFault.TheVariants as reap
use Rattle.bio_queue.specs.declared.faults.StepFault.{StepFault}
use Rattle.bio_queue.specs.declared.faults.StepFault.TheVariants as step
use Rattle.bio_queue.specs.declared.faults.SubmitFault.{SubmitFault}
use Rattle.bio_queue.specs.declared.faults.SubmitFault.TheVariants as submit
use Rattle.bio_queue.specs.declared.job.Job.{Job}
use Rattle.bio_queue.specs.declared.job.Job.TheVariants.{Read, Write, Flush}
use Rattle.bio_queue.specs.declared.job.Reaped.{Reaped}
use Rattle.bio_queue.specs.declared.job.Reaped.TheVariants.{Bytes, Written, Flushed}
use Rattle.bio_queue.specs.Requests.{IsBelow, IsLeastFree, Request, exchanged, left_of, next_of, put_in, request_with, step_events, stepped, without}
use Rattle.sealing.specs.Data.{opened_data, sealed_sectors}

-- ---- submitting

-- a job for some bytes, and not too many, in logical sectors of this size; a write has these plain bytes
abbrev pub IsAsked : ℕ → Job → List ℕ → Type 0
IsAsked size (Read sector count) from = (1 ≤ count) × (count * size ≤ request_limit)
IsAsked size (Write sector count) from = (1 ≤ count) × (count * size ≤ request_limit) × (length from ≡ count * size)
IsAsked size Flush from = Unit {0}

-- how many units a job has
abbrev pub units_of : Keying → Job → ℕ
units_of k (Read sector count) = count * units k
units_of k (Write sector count) = count * units k
units_of k Flush = 1

-- the device sectors of a write, which is sealed at once
abbrev pub device_of : Keying → Job → List ℕ → List (List ℕ)
device_of k (Read sector count) from = []
device_of k (Write sector count) from = sealed_sectors k sector count from
device_of k Flush from = []

-- the request of a job, of which nothing is done
abbrev pub asked : Keying → ℕ → Job → List ℕ → Request
asked k tag job from = record { tag = tag; job = job; done = 0; units = units_of k job; device = device_of k job from }

-- a read-only provider takes no write
abbrev pub TakesJob : Bool → Job → Type 0
TakesJob readonly (Read sector count) = Unit {0}
TakesJob readonly (Write sector count) = readonly ≡ false
TakesJob readonly Flush = Unit {0}

abbrev pub IsWrite : Job → Type 0
IsWrite (Read sector count) = ⊥
IsWrite (Write sector count) = Unit {0}
IsWrite Flush = ⊥

-- the logical sectors of a job are among so many; a flush has none
abbrev pub JobIsInRange : ℕ → Job → Type 0
JobIsInRange media (Read sector count) = sector + count ≤ media
JobIsInRange media (Write sector count) = sector + count ≤ media
JobIsInRange media Flush = Unit {0}

-- a job passes the end of so many logical sectors, and these are its numbers
abbrev pub JobPassesEnd : ℕ → Job → ℕ → ℕ → ℕ → Type 0
JobPassesEnd media (Read sector count) first many there = (media < sector + count) × (first ≡ sector) × (many ≡ count) × (there ≡ media)
JobPassesEnd media (Write sector count) first many there = (media < sector + count) × (first ≡ sector) × (many ≡ count) × (there ≡ media)
JobPassesEnd media Flush first many there = ⊥

-- a provider that is read-only or not, with so many logical sectors, takes the job
pub record IsAdmitted (readonly : Bool) (media : ℕ) (job : Job) : Type 0 where
  pub takes : TakesJob readonly job
  pub in_range : JobIsInRange media job

-- why such a provider doesn't take the job
abbrev pub JobIsRefused : Bool → ℕ → Job → SubmitFault → Type 0
JobIsRefused readonly media job submit.ReadOnly = IsWrite job × (readonly ≡ true)
JobIsRefused readonly media job (submit.OutOfRange sector count there) = TakesJob readonly job × JobPassesEnd media job sector count there
JobIsRefused readonly media job submit.QueueFull = ⊥
JobIsRefused readonly media job submit.NoMemory = ⊥

-- why a job isn't submitted: the provider doesn't take it, the queue of so many requests is full, or there is no memory
abbrev pub IsRefusedBy : Bool → ℕ → Job → ℕ → SubmitFault → Type 0
IsRefusedBy readonly media job many submit.ReadOnly = JobIsRefused readonly media job submit.ReadOnly
IsRefusedBy readonly media job many (submit.OutOfRange sector count there) = JobIsRefused readonly media job (submit.OutOfRange sector count there)
IsRefusedBy readonly media job many submit.QueueFull = IsAdmitted readonly media job × (many ≡ 32)
IsRefusedBy readonly media job many submit.NoMemory = IsAdmitted readonly media job × (many < 32)

-- the job was admitted, and its request was put in under the least free tag
pub record IsSubmitted (k : Keying) (readonly : Bool) (d : DiskState) (job : Job) (from : List ℕ) (old new : List Request) (tag : ℕ) : Type 0 where
  pub admitted : IsAdmitted readonly (media k d) job
  pub room : length old < 32
  pub free : IsLeastFree tag old
  pub queue : new ≡ put_in (asked k tag job from) old

-- what submitting a job returns, by the keying of the provider, whether it is read-only, and its disk
abbrev pub SubmitAnswers : Keying → Bool → DiskState → Job → List ℕ → List Request → List Request → Result ℕ SubmitFault → Type 0
SubmitAnswers k readonly d job from old new (Ok tag) = IsSubmitted k readonly d job from old new tag
SubmitAnswers k readonly d job from old new (Err fault) = IsRefusedBy readonly (media k d) job (length old) fault × (new ≡ old)

-- ---- a step

-- a unit of a read makes one read of the disk, and no other unit makes any
abbrev pub AsksReads : Job → DiskState → DiskState → Type 0
AsksReads (Read sector count) old new = Counted 1 old.reads new.reads
AsksReads (Write sector count) old new = new.reads ≡ old.reads
AsksReads Flush old new = new.reads ≡ old.reads

-- the bytes that a unit of a read is given are what stands in its device sector, if the disk reports its sectors
abbrev pub IsGiven : DiskState → Job → ℕ → List ℕ → Type 0
IsGiven d (Read sector count) n bytes = Gives d n bytes
IsGiven d (Write sector count) n bytes = Unit {0}
IsGiven d Flush n bytes = Unit {0}

-- the next unit of the request with this tag is done: exactly its event was logged, and so many units are left
pub record StepsOn (tag left : ℕ) (old new : List Request) (before after : DiskState) : Type 0 where
  pub request : Request
  pub found : request_with tag old ≡ Some request
  pub more : request.done < request.units
  pub logs : Logs (step_events request) before after
  pub asked : AsksReads request.job before after
  pub bytes : List ℕ
  pub given : IsGiven before request.job (next_of request) bytes
  pub queue : new ≡ exchanged (stepped request bytes) old
  pub rest : left ≡ left_of (stepped request bytes)

-- the device failed at the next unit of the request with this tag: its event was logged or wasn't, and the unit isn't
-- done
pub record FailsStep (tag : ℕ) (old new : List Request) (before after : DiskState) : Type 0 where
  pub request : Request
  pub found : request_with tag old ≡ Some request
  pub more : request.done < request.units
  pub fails : FailsIn (step_events request) before after
  pub asked : AsksReads request.job before after
  pub queue : new ≡ old

-- no unit of the request with this tag is left
pub record IsAllDone (tag : ℕ) (old : List Request) : Type 0 where
  pub request : Request
  pub found : request_with tag old ≡ Some request
  pub none : left_of request ≡ 0

-- what a step returns: `before` and `after` are what the disk reports of itself
abbrev pub StepAnswers : ℕ → List Request → List Request → DiskState → DiskState → Result ℕ StepFault → Type 0
StepAnswers tag old new before after (Ok left) = StepsOn tag left old new before after
StepAnswers tag old new before after (Err step.NoRequest) = (request_with tag old ≡ None) × (new ≡ old) × (after ≡ before)
StepAnswers tag old new before after (Err step.AllDone) = IsAllDone tag old × (new ≡ old) × (after ≡ before)
StepAnswers tag old new before after (Err step.DeviceFault) = FailsStep tag old new before after

-- this fact holds if the step was refused before a call of the disk
abbrev pub OnNoCall : Result ℕ StepFault → Type 0 → Type 0
OnNoCall (Ok left) P = Unit {0}
OnNoCall (Err step.NoRequest) P = P
OnNoCall (Err step.AllDone) P = P
OnNoCall (Err step.DeviceFault) P = Unit {0}

-- the device sectors of a request are below those of a provider with this keying
abbrev pub CanStep : Keying → DiskState → Request → Type 0
CanStep k d r = IsBelow (media k d * units k) r.job r.units

-- ---- reaping

-- a read was made of a provider with this keying and so many logical sectors
abbrev pub IsOfProvider : Keying → ℕ → Job → ℕ → Type 0
IsOfProvider k media (Read sector count) many = (sector + count ≤ media) × (many ≡ count * units k) × (count * k.sectorsize ≤ request_limit)
IsOfProvider k media (Write sector count) many = Unit {0}
IsOfProvider k media Flush many = Unit {0}

abbrev pub CanBeReaped : Keying → DiskState → Request → Type 0
CanBeReaped k d r = IsOfProvider k (media k d) r.job r.units

-- what a request that is done gives: a read its bytes, which stand at the front of the buffer
abbrev pub Gave : Keying → Job → List (List ℕ) → List ℕ → List ℕ → Reaped → Type 0
Gave k (Read sector count) device before after reaped =
    (bytes : List ℕ) × (opened_data k sector count device ≡ Ok bytes) × (reaped ≡ Bytes (length bytes)) × (length bytes ≡ count * k.sectorsize) × (after ≡ bytes ++ drop (length bytes) before)
Gave k (Write sector count) device before after reaped = (reaped ≡ Written) × (after ≡ before)
Gave k Flush device before after reaped = (reaped ≡ Flushed) × (after ≡ before)

-- a unit among the device sectors that a read was given has another tag than its ciphertext: the first has this byte
-- offset
abbrev pub HasBadUnit : Keying → Job → List (List ℕ) → ℕ → Type 0
HasBadUnit k (Read sector count) device offset = opened_data k sector count device ≡ Err offset
HasBadUnit k (Write sector count) device offset = ⊥
HasBadUnit k Flush device offset = ⊥

-- the request with this tag was done, and was taken out
pub record TakesOut (tag : ℕ) (old new : List Request) (P : Request → Type 0) : Type 0 where
  pub request : Request
  pub found : request_with tag old ≡ Some request
  pub none : left_of request ≡ 0
  pub queue : new ≡ without tag old
  pub gives : P request

-- so many units of the request with this tag are left
pub record IsNotDone (tag left : ℕ) (old : List Request) : Type 0 where
  pub request : Request
  pub found : request_with tag old ≡ Some request
  pub some : 1 ≤ left
  pub rest : left ≡ left_of request

-- what reaping returns: `before` and `after` are the bytes of the buffer
abbrev pub ReapAnswers : Keying → ℕ → List Request → List Request → List ℕ → List ℕ → Result Reaped ReapFault → Type 0
ReapAnswers k tag old new before after (Ok reaped) = TakesOut tag old new (λ r. Gave k r.job r.device before after reaped)
ReapAnswers k tag old new before after (Err reap.NoRequest) = (request_with tag old ≡ None) × (new ≡ old) × (after ≡ before)
ReapAnswers k tag old new before after (Err (reap.NotDone left)) = IsNotDone tag left old × (new ≡ old) × (after ≡ before)
ReapAnswers k tag old new before after (Err (reap.Integrity offset)) =
    TakesOut tag old new (λ r. HasBadUnit k r.job r.device offset) × (after ≡ replicate (length before) 0)
