-- The requests that are open on a provider, by writings.
use Rattle.std.specs.Prelude.{ℕ, zero, suc, ◌+◌, ◌-◌, ◌*◌, ◌==◌, nat_lt, List, [], ◌∷◌, ◌++◌, get_or, take, drop, Option, Some, None, Result, if◌then◌else◌}
use Rattle.eli_base.specs.Keying.{Keying}
use Rattle.sealing.specs.Sectors.{joined, units}
use Rattle.readings.specs.Writings.{Writing, all_device_bytes}
use Rattle.readings.specs.Steps.{Step, Flush, last_writing}
use Rattle.readings.specs.Read.{read_sector}
use Rattle.readings.specs.Survivors.{placed}
use Rattle.readings.specs.Writes.{data_steps}
use Rattle.bio_queue.specs.Answers.{units_of}
use Rattle.bio_queue.specs.Requests.{Request}
use Rattle.bio_queue.specs.declared.job.Job.{Job}
use Rattle.bio_queue.specs.declared.job.Job.TheVariants as job

-- logical sectors are read, and these writings stood in their device sectors at the steps so far; or they are written,
-- by the write with this number, with these plain bytes; or the disk is flushed
pub data Work : Type 0 where
  Reads : (sector count : ℕ) → List Writing → Work
  Writes : (number sector count : ℕ) → List ℕ → Work
  Flushes : Work

-- an open request: its tag, how many of its units are done, and its work
pub record Task : Type 0 where
  pub tag : ℕ
  pub done : ℕ
  pub work : Work

-- ---- as the request that the provider's queue has

abbrev pub job_of : Work → Job
job_of (Reads sector count ws) = job.Read sector count
job_of (Writes number sector count bytes) = job.Write sector count
job_of Flushes = job.Flush

-- the steps of a write; the other works place nothing
abbrev pub steps_of : Keying → Work → List Step
steps_of k (Reads sector count ws) = []
steps_of k (Writes number sector count bytes) = data_steps number k sector count bytes
steps_of k Flushes = []

-- the writings whose device bytes the request has: those that stood there for a read, and those that a write places
abbrev pub writings_of : Keying → Work → List Writing
writings_of k (Reads sector count ws) = ws
writings_of k (Writes number sector count bytes) = placed (data_steps number k sector count bytes)
writings_of k Flushes = []

abbrev pub request_of : Keying → Task → Request
request_of k t = record { tag = t.tag; job = job_of t.work; done = t.done; units = units_of k (job_of t.work); device = all_device_bytes (writings_of k t.work) }

-- how many units are left
abbrev pub units_left : Keying → Task → ℕ
units_left k t = units_of k (job_of t.work) - t.done

-- ---- a queue of tasks, in order of their tags

abbrev pub task_with : ℕ → List Task → Option Task
task_with tag [] = None
task_with tag (t ∷ tasks) = if t.tag == tag then Some t else task_with tag tasks

abbrev pub put_task : Task → List Task → List Task
put_task new [] = new ∷ []
put_task new (t ∷ tasks) = if nat_lt new.tag t.tag then new ∷ t ∷ tasks else t ∷ put_task new tasks

abbrev pub exchange_task : Task → List Task → List Task
exchange_task new [] = []
exchange_task new (t ∷ tasks) = if t.tag == new.tag then new ∷ tasks else t ∷ exchange_task new tasks

abbrev pub without_task : ℕ → List Task → List Task
without_task tag [] = []
without_task tag (t ∷ tasks) = if t.tag == tag then tasks else t ∷ without_task tag tasks

-- ---- the moves of a task

-- the work of a job; a write takes this number
abbrev pub work_of : ℕ → Job → List ℕ → Work
work_of number (job.Read sector count) from = Reads sector count []
work_of number (job.Write sector count) from = Writes number sector count from
work_of number job.Flush from = Flushes

-- the number of the write after a job
abbrev pub next_after : Job → ℕ → ℕ
next_after (job.Read sector count) next = next
next_after (job.Write sector count) next = next + 1
next_after job.Flush next = next

-- what the next unit of a task does to the disk, of which so many are done: it places the next unit of a write, or
-- flushes
abbrev pub unit_steps : Keying → Work → ℕ → List Step
unit_steps k (Reads sector count ws) done = []
unit_steps k (Writes number sector count bytes) done = get_or (data_steps number k sector count bytes) done Flush ∷ []
unit_steps k Flushes done = Flush ∷ []

-- a read takes the writing that stands in its next device sector
abbrev pub work_after : Keying → (ℕ → List Writing) → Work → ℕ → Work
work_after k cells (Reads sector count ws) done = Reads sector count (ws ++ last_writing (cells (sector * units k + done)) ∷ [])
work_after k cells (Writes number sector count bytes) done = Writes number sector count bytes
work_after k cells Flushes done = Flushes

abbrev pub task_after : Keying → (ℕ → List Writing) → Task → Task
task_after k cells t = record { tag = t.tag; done = t.done + 1; work = work_after k cells t.work t.done }

-- what each of so many logical sectors reads as, from the writings that stood in their device sectors
abbrev pub sectors_from : Keying → ℕ → ℕ → List Writing → List (Result (List ℕ) ℕ)
sectors_from k sector zero ws = []
sectors_from k sector (suc count) ws = read_sector k sector (take (units k) ws) ∷ sectors_from k (sector + 1) count (drop (units k) ws)

-- the bytes of these logical sectors one after the other, or the first fault among them
abbrev pub data_from : Keying → ℕ → ℕ → List Writing → Result (List ℕ) ℕ
data_from k sector count ws = joined (sectors_from k sector count ws)
