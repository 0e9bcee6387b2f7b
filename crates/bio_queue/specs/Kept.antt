-- What the fields of an open request keep, and where requests stand in a queue.
use Rattle.std.specs.Prelude.{◌≡◌, ℕ, ◌+◌, ◌*◌, ◌≤◌, ◌==◌, List, [], ◌∷◌, Option, Some, None, if◌then◌else◌}
use Rattle.std.specs.Option.{option_map}
use Rattle.block_traits.specs.Parts.{parts}
use Rattle.bio_queue.specs.declared.job.Job.{Job}
use Rattle.bio_queue.specs.declared.job.Job.TheVariants.{Read, Write, Flush}
use Rattle.bio_queue.specs.Requests.{Request, first_of}

-- the device sectors that contracts see: those of a read that were read, and all of a write
abbrev pub shown : Job → ℕ → ℕ → List ℕ → List (List ℕ)
shown (Read sector count) done units bytes = parts 512 done bytes
shown (Write sector count) done units bytes = parts 512 units bytes
shown Flush done units bytes = []

-- the bytes that are kept for so many units
abbrev pub room_of : Job → ℕ → ℕ
room_of (Read sector count) units = 512 * units
room_of (Write sector count) units = 512 * units
room_of Flush units = 0

-- no more units are done than there are, the first device sector is that of the job, and each unit of a read or a write
-- has its bytes
pub record IsHeld (job : Job) (many all first bytes : ℕ) : Type 0 where
  pub within : many ≤ all
  pub place : first ≡ first_of job all
  pub room : bytes ≡ room_of job all

-- the place of the request with this tag
abbrev pub request_place : ℕ → List Request → Option ℕ
request_place tag [] = None
request_place tag (r ∷ queue) = if r.tag == tag then Some 0 else option_map (λ n. n + 1) (request_place tag queue)

-- the first number from this one on, counted along the queue, that isn't the tag of the request there
abbrev pub gap_from : ℕ → List Request → ℕ
gap_from n [] = n
gap_from n (r ∷ queue) = if r.tag == n then gap_from (n + 1) queue else n
