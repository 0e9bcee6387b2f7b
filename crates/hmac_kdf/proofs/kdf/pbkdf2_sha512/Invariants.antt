use Rattle.std.proofs.Common.{◌≡◌, ◌-◌}
use Rattle.hmac_kdf.specs.Pbkdf2.{iterate, sum_of_iterates}
use Rattle.hmac_kdf.proofs.kdf.pbkdf2_sha512.Given as goal

abbrev pub invariant-loop-done : goal.invariant-loop-done
invariant-loop-done l = (l.iterate ≡ iterate l.pass l.salt (l._done - 1)) × (l.out ≡ sum_of_iterates l.pass l.salt (l._done - 1))
