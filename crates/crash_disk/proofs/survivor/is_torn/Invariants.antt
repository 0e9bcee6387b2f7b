use Rattle.std.proofs.Common.{◌≡◌, drop}
use Rattle.crash_disk.specs.Survivor.{is_torn}
use Rattle.crash_disk.proofs.survivor.is_torn.Given as goal

abbrev pub invariant-loop-tear : goal.invariant-loop-tear
invariant-loop-tear l = is_torn l.n (drop l.tear-index l.torn) ≡ is_torn l.n l.torn
