use Rattle.std.proofs.Common.{◌≡◌, drop}
use Rattle.crash_disk.specs.Survivor.{is_picked}
use Rattle.crash_disk.proofs.survivor.is_picked.Given as goal

abbrev pub invariant-loop-pick : goal.invariant-loop-pick
invariant-loop-pick l = is_picked l.n (drop l.pick-index l.picks) ≡ is_picked l.n l.picks
