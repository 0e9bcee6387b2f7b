-- What calls on a queue and its provider come to, as steps and tasks.
use Rattle.std.specs.Prelude.{◌≡◌, ℕ, ◌+◌, ◌*◌, ◌<◌, ◌≤◌, List, [], ◌∷◌, ◌++◌, length, map, take, drop, Some, None, IsSome, Ok, Err, All, Contains}
use Rattle.block_traits.specs.Content.{Content, IsContentOf}
use Rattle.block_traits.specs.Disk.{DiskState}
use Rattle.eli_base.specs.Keying.{Keying}
use Rattle.range_keys.specs.Ring.{IsKeying}
use Rattle.readings.specs.Writings.{PutUnit, Writing, Put, IsWriting}
use Rattle.readings.specs.Steps.{Step, Flush, after, cell}
use Rattle.readings.specs.Survivors.{content_media, placed}
use Rattle.readings.specs.Writes.{AreStepsBelow, data_steps}
use Rattle.bio_queue.specs.Requests.{Request}
use Rattle.bio_queue.specs.declared.job.Job.{Job}
use Rattle.bio_queue.specs.declared.job.Reaped.{Reaped}
use Rattle.bio_queue.specs.declared.job.Reaped.TheVariants.{Bytes, Written, Flushed}
use Rattle.queue_readings.specs.Tasks.{Task, Work, Reads, Writes, Flushes, data_from, exchange_task, next_after, put_task, request_of, steps_of, task_after, task_with, unit_steps, without_task, work_of}

-- the steps so far, the open requests, and the number of the next write
pub record Play : Type 0 where
  pub steps : List Step
  pub tasks : List Task
  pub next : ℕ

-- the steps of the writes that are open, each whole
abbrev pub pending : Keying → List Task → List Step
pending k [] = []
pending k (t ∷ tasks) = steps_of k t.work ++ pending k tasks

-- w is a writing, and if it is a unit that was put there, one of these steps put it
pub record StoodThere (steps : List Step) (w : Writing) : Type 0 where
  pub is : IsWriting w
  pub is_in : (p : PutUnit) → w ≡ Put p → Contains (placed steps) (Put p)

-- what is known of an open request, of which so many units are done
abbrev pub IsOpen : Keying → Content → List Step → Work → ℕ → Type 0
IsOpen k c steps (Reads sector count ws) done = (length ws ≡ done) × (1 ≤ count) × (sector + count ≤ content_media k c) × All (StoodThere steps) ws
IsOpen k c steps (Writes number sector count bytes) done = (1 ≤ count) × (sector + count ≤ content_media k c) × All (Contains steps) (take done (data_steps number k sector count bytes))
IsOpen k c steps Flushes done = Unit {0}

abbrev pub IsOpenTask : Keying → Content → List Step → Task → Type 0
IsOpenTask k c steps t = IsOpen k c steps t.work t.done

-- the steps fit one another, together with those that are to come: no other write has the number of an open one
pub record IsPlay (k : Keying) (c : Content) (m : Play) : Type 0 where
  pub keying : IsKeying k
  pub content : IsContentOf (length c.base) c
  pub steps : AreStepsBelow m.next (m.steps ++ pending k m.tasks)
  pub tasks : All (IsOpenTask k c m.steps) m.tasks

-- the disk reports that it had this content before the steps, and the queue is that of the tasks
pub record Shows (k : Keying) (c : Content) (m : Play) (open_requests : List Request) (d : DiskState) : Type 0 where
  pub play : IsPlay k c m
  pub told : d.content ≡ Some (after m.steps c)
  pub queue : open_requests ≡ map (request_of k) m.tasks

-- ---- the moves of a play

-- a job comes to the tasks; a write draws the next number
abbrev pub submitted : ℕ → Job → List ℕ → Play → Play
submitted tag job from m = record {
  steps = m.steps;
  tasks = put_task (record { tag = tag; done = 0; work = work_of m.next job from }) m.tasks;
  next = next_after job m.next;
}

-- the next unit of a task is done
abbrev pub task_stepped : Keying → Content → Task → Play → Play
task_stepped k c t m = record { steps = m.steps ++ unit_steps k t.work t.done; tasks = exchange_task (task_after k (cell c m.steps) t) m.tasks; next = m.next }

-- the device failed at the next unit of a task: its step was done or wasn't, and the unit isn't done
abbrev pub broken : Keying → Task → ℕ → Play → Play
broken k t many m = record { steps = m.steps ++ take many (unit_steps k t.work t.done); tasks = m.tasks; next = m.next }

-- a task is taken out
abbrev pub reaped : ℕ → Play → Play
reaped tag m = record { steps = m.steps; tasks = without_task tag m.tasks; next = m.next }

-- no task has the tag, which is below 32, and each smaller one is in use
pub record IsLeastFreeTag (tag : ℕ) (tasks : List Task) : Type 0 where
  pub room : tag < 32
  pub free : task_with tag tasks ≡ None
  pub least : (t : ℕ) → t < tag → IsSome (task_with t tasks)

-- what a finished task gives: a read gives the bytes that its writings say, and each step of a write is among those
-- that were done
abbrev pub Yields : Keying → List Step → Work → List ℕ → List ℕ → Reaped → Type 0
Yields k steps (Reads sector count ws) before after given =
    (bytes : List ℕ) × (data_from k sector count ws ≡ Ok bytes) × (given ≡ Bytes (length bytes)) × (length bytes ≡ count * k.sectorsize) × (after ≡ bytes ++ drop (length bytes) before)
Yields k steps (Writes number sector count bytes) before after given = (given ≡ Written) × (after ≡ before) × All (Contains steps) (data_steps number k sector count bytes)
Yields k steps Flushes before after given = (given ≡ Flushed) × (after ≡ before)

-- a unit of a read is a fault at this byte offset, the first that is, as its writings say
abbrev pub IsFaulty : Keying → Work → ℕ → Type 0
IsFaulty k (Reads sector count ws) offset = data_from k sector count ws ≡ Err offset
IsFaulty k (Writes number sector count bytes) offset = ⊥
IsFaulty k Flushes offset = ⊥

-- ---- flushes

-- this step was done before a flush
pub record IsCovered (steps : List Step) (s : Step) : Type 0 where
  pub earlier : List Step
  pub between : List Step
  pub since : List Step
  pub are : steps ≡ earlier ++ (s ∷ (between ++ (Flush ∷ since)))
