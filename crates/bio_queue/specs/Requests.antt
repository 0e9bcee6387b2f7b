-- Requests that are open on an attached provider.
use Rattle.std.specs.Prelude.{◌≡◌, ℕ, ◌+◌, ◌-◌, ◌*◌, ◌/◌, ◌<◌, ◌≤◌, ◌==◌, nat_lt, List, [], ◌∷◌, ◌++◌, IsSome, Option, Some, None, get_or, if◌then◌else◌}
use Rattle.block_traits.specs.declared.disk.Event.{Event}
use Rattle.block_traits.specs.declared.disk.Event.TheVariants as event
use Rattle.bio_queue.specs.declared.job.Job.{Job}
use Rattle.bio_queue.specs.declared.job.Job.TheVariants.{Read, Write, Flush}

-- a request: its tag, what was asked, how many of its units are done, how many it has, and the device sectors of a
-- write, or those of a read that were read so far
pub record Request : Type 0 where
  pub tag : ℕ
  pub job : Job
  pub done : ℕ
  pub units : ℕ
  pub device : List (List ℕ)

-- how many units are left
abbrev pub left_of : Request → ℕ
left_of r = r.units - r.done

-- ---- where the units of a request stand

-- the number of the first device sector of a job that has so many; a flush has none
abbrev pub first_of : Job → ℕ → ℕ
first_of (Read sector count) units = sector * (units / count)
first_of (Write sector count) units = sector * (units / count)
first_of Flush units = 0

-- the number of the device sector of a request's next unit
abbrev pub next_of : Request → ℕ
next_of r = first_of r.job r.units + r.done

-- the device sectors of a job that has so many are below this number
abbrev pub IsBelow : ℕ → Job → ℕ → Type 0
IsBelow limit (Read sector count) units = first_of (Read sector count) units + units ≤ limit
IsBelow limit (Write sector count) units = first_of (Write sector count) units + units ≤ limit
IsBelow limit Flush units = Unit {0}

-- ---- a queue: requests in order of their tags

-- the request with this tag
abbrev pub request_with : ℕ → List Request → Option Request
request_with tag [] = None
request_with tag (r ∷ queue) = if r.tag == tag then Some r else request_with tag queue

-- the queue with one request more, before those with a greater tag
abbrev pub put_in : Request → List Request → List Request
put_in new [] = new ∷ []
put_in new (r ∷ queue) = if nat_lt new.tag r.tag then new ∷ r ∷ queue else r ∷ put_in new queue

-- the queue with this request in place of the one that has its tag
abbrev pub exchanged : Request → List Request → List Request
exchanged new [] = []
exchanged new (r ∷ queue) = if r.tag == new.tag then new ∷ queue else r ∷ exchanged new queue

-- the queue without the request with this tag
abbrev pub without : ℕ → List Request → List Request
without tag [] = []
without tag (r ∷ queue) = if r.tag == tag then queue else r ∷ without tag queue

-- no request has this tag, and each smaller one is in use
pub record IsLeastFree (tag : ℕ) (queue : List Request) : Type 0 where
  pub room : tag < 32
  pub free : request_with tag queue ≡ None
  pub least : (t : ℕ) → t < tag → IsSome (request_with t queue)

-- the tags ascend, from this one on, and are below 32
abbrev pub AscendsFrom : ℕ → List Request → Type 0
AscendsFrom least [] = Unit {0}
AscendsFrom least (r ∷ queue) = (least ≤ r.tag) × (r.tag < 32) × AscendsFrom (r.tag + 1) queue

-- ---- a step

-- what the next unit of a request logs: that of a write, or a flush, and nothing for a read
abbrev pub unit_events : Job → ℕ → List ℕ → List Event
unit_events (Read sector count) n bytes = []
unit_events (Write sector count) n bytes = event.Write n bytes ∷ []
unit_events Flush n bytes = event.Flush ∷ []

abbrev pub step_events : Request → List Event
step_events r = unit_events r.job (next_of r) (get_or r.device r.done [])

-- the request with one more unit done, for which a read was given these bytes
abbrev pub device_after : Job → List (List ℕ) → List ℕ → List (List ℕ)
device_after (Read sector count) device bytes = device ++ bytes ∷ []
device_after (Write sector count) device bytes = device
device_after Flush device bytes = device

abbrev pub stepped : Request → List ℕ → Request
stepped r bytes = record { tag = r.tag; job = r.job; done = r.done + 1; units = r.units; device = device_after r.job r.device bytes }
