use Rattle.std.proofs.Common.{arith}
use Rattle.std.proofs.lemmas.Map.Entries.{length-keys_of}
use Rattle.range_keys.proofs.ring.KeyRing.keeps_few.Goals as goal

pub returns-clause-few : goal.returns-clause-few
returns-clause-few c =
    let long = length-keys_of c.self.inside.keys.cache.entries in
    let at_most = c.len.ensures.valid.1 in
    let cap = c.self.invariant.keys.room in
    rw (← c.self.view_is) (omega (arith, long, at_most, cap))

pub returns-clause-each_once : goal.returns-clause-each_once
returns-clause-each_once c = rw (← c.self.view_is) c.len.ensures.valid.0
