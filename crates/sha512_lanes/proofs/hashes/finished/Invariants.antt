use Rattle.std.proofs.Common.{◌≡◌, ℕ, ◌<◌, List, length}
use Rattle.sha2.specs.Sha512.{compress}
use Rattle.sha_lanes.specs.Lanes.{bytes_of, lane}
use Rattle.sha512_lanes.proofs.HashLaws.{IsAfter}
use Rattle.sha512_lanes.proofs.hashes.finished.Given as goal

abbrev pub invariant-blocks-2 : goal.invariant-blocks-2
invariant-blocks-2 l =
    (j : ℕ) → j < 4 → (h before : List ℕ) → length before ≡ 128 → lane j l.fn.state ≡ compress h before
    → IsAfter h before (bytes_of j l.messages) (lane j l.v) l.i
