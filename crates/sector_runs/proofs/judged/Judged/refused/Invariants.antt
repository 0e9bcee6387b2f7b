use Rattle.std.proofs.Common.{◌≡◌, ◌<◌, ℕ, true}
use Rattle.sector_runs.specs.Verdicts.{verdict}
use Rattle.sector_runs.proofs.judged.Judged.refused.Given as goal

abbrev pub invariant-loop-m : goal.invariant-loop-m
invariant-loop-m l = (m : ℕ) → m < l.m → verdict l.self m ≡ true
