use Rattle.std.proofs.Common.{◌≡◌, ◌+◌, drop}
use Rattle.std.specs.Option.{option_map}
use Rattle.bio_queue.specs.Kept.{request_place}
use Rattle.bio_queue.proofs.queue.find.Given as goal

-- no request before this place has the tag
abbrev pub invariant-loop-place : goal.invariant-loop-place
invariant-loop-place l = request_place l.tag l.requests ≡ option_map (λ n. n + l.place) (request_place l.tag (drop l.place l.requests))
