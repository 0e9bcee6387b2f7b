use Rattle.std.proofs.Common.{◌≡◌, ◌-◌, ◌<◌, ◌≤◌, ℕ, true}
use Rattle.sector_runs.specs.Verdicts.{accepted_among}
use Rattle.sector_runs.proofs.judging.first_refused.Given as goal

abbrev pub invariant-groups : goal.invariant-groups
invariant-groups l = record {
  within : l.done ≤ l.count;
  accepted : (m : ℕ) → m < l.done → accepted_among l.ring.keying l.n l.device m ≡ true;
}

abbrev pub decreases-groups : goal.decreases-groups
decreases-groups l = l.count - l.done
