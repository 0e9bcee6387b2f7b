use Rattle.std.proofs.Common.{◌≡◌, ◌*◌, length, take}
use Rattle.sha2.specs.Sha512.{digest_bytes}
use Rattle.sha512_lanes.proofs.hashes.digest.Given as goal

abbrev pub invariant-words : goal.invariant-words
invariant-words g l = (length l.bytes ≡ 64) × (take (8 * l.i) l.bytes ≡ digest_bytes l.h l.i)
