use Rattle.std.proofs.Common.{◌≡◌, ◌+◌, ◌*◌, ◌<◌, ℕ, [], false, get_or, length}
use Rattle.sector_runs.specs.Verdicts.{accepted_among}
use Rattle.sector_runs.proofs.judging.judge_four_sectors.Given as goal

abbrev pub invariant-loop-j : goal.invariant-loop-j
invariant-loop-j l = record {
  long : length l.accepted ≡ 10;
  each : (j i : ℕ) → j < l.j → i < 4 → get_or (get_or l.accepted j []) i false ≡ accepted_among l.ring.keying l.n l.device (i * l.units + j);
}
