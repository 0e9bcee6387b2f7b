-- What was found is the last of the writes of the sector that were looked at.
use Rattle.std.proofs.Common.{◌≡◌, map}
use Rattle.disk_layers.specs.Waiting.{last_waiting}
use Rattle.disk_layers.proofs.write_behind.last_of.Given as goal

abbrev pub invariant-loop-write : goal.invariant-loop-write
invariant-loop-write l = l.found ≡ last_waiting l.n (map (λ write. write.now) l.yielded)
