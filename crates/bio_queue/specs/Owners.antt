-- Requests that a provider, as it is now, would make of their jobs, with as many units, in its sectors.
use Rattle.std.specs.Prelude.{◌≡◌, ℕ, ◌+◌, ◌*◌, ◌≤◌, List, [], ◌∷◌, IsSomeAnd}
use Rattle.eli_base.specs.Keying.{Keying}
use Rattle.eli_base.specs.Requests.{request_limit}
use Rattle.sealing.specs.Sectors.{units}
use Rattle.bio_queue.specs.Requests.{Request, request_with}
use Rattle.bio_queue.specs.declared.job.Job.{Job}
use Rattle.bio_queue.specs.declared.job.Job.TheVariants.{Read, Write, Flush}

-- `many` units are those of `count` logical sectors from this one on, of a provider with this keying and `media`
-- logical sectors
pub record IsMadeFor (k : Keying) (media sector count many : ℕ) : Type 0 where
  pub some : 1 ≤ count
  pub few : count * k.sectorsize ≤ request_limit
  pub in_range : sector + count ≤ media
  pub units_are : many ≡ count * units k

-- so many units are those of the job
abbrev pub IsMadeOf : Keying → ℕ → Job → ℕ → Type 0
IsMadeOf k media (Read sector count) many = IsMadeFor k media sector count many
IsMadeOf k media (Write sector count) many = IsMadeFor k media sector count many
IsMadeOf k media Flush many = many ≡ 1

-- a provider with this keying and so many logical sectors would make the request of its job
abbrev pub IsOf : Keying → ℕ → Request → Type 0
IsOf k media r = IsMadeOf k media r.job r.units

-- such a provider would make each request of the queue
abbrev pub AreAllOf : Keying → ℕ → List Request → Type 0
AreAllOf k media [] = Unit {0}
AreAllOf k media (r ∷ queue) = IsOf k media r × AreAllOf k media queue

-- a request with this tag is open, and such a provider would make it
abbrev pub IsOpenRequest : Keying → ℕ → ℕ → List Request → Type 0
IsOpenRequest k media tag queue = IsSomeAnd (request_with tag queue) (IsOf k media)
