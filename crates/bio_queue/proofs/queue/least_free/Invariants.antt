use Rattle.std.proofs.Common.{◌≡◌, drop}
use Rattle.bio_queue.specs.Kept.{gap_from}
use Rattle.bio_queue.proofs.queue.least_free.Given as goal

-- each request before this place has its place as its tag
abbrev pub invariant-loop-place : goal.invariant-loop-place
invariant-loop-place l = gap_from 0 l.requests ≡ gap_from l.place (drop l.place l.requests)
