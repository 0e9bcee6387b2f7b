use Rattle.std.proofs.Common.{◌≡◌, ℕ, ◌+◌, ◌*◌, ◌<◌, length, take, drop, slice_index}
use Rattle.sha2.specs.Sha512.{IsRoundsAt, word_at}
use Rattle.sha_lanes.specs.Lanes.{bytes_of, lane}
use Rattle.sha512_lanes.proofs.rounds.compress.Given as goal

abbrev pub invariant-load : goal.invariant-load
invariant-load l = (length l.w ≡ 16)
    × ((j : ℕ) → j < 4 → (k : ℕ) → k < l.i → slice_index (lane j l.w) k ≡ word_at (bytes_of j l.texts) (l.at + 8 * k))

abbrev pub invariant-schedule : goal.invariant-schedule
invariant-schedule l =
    (j : ℕ) → j < 4 → IsRoundsAt (take 128 (drop l.at (bytes_of j l.texts))) (lane j l.state) (lane j l.w) (lane j l.v) (16 * l.turn)
