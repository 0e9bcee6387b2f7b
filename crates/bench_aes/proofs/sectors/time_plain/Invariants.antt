use Rattle.std.proofs.Common.{◌≡◌}
use Rattle.bench_aes.proofs.sectors.time_plain.Given as goal

abbrev pub invariant-loop : goal.invariant-loop
invariant-loop l = l.ring.keying ≡ l.fn.ring.keying
