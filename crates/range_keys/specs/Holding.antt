-- What a held ring is once it is no longer lent.
use Rattle.std.specs.Borrow.{Lends, MutBor, Fml}
use Rattle.range_keys.specs.Ring.{Ring}
use Rattle.range_keys.specs.contracts.ring.KeyRing as ring
use Rattle.range_keys.specs.contracts.held.HeldRing as held

-- it is as the ring was left
abbrev pub LendsRing : MutBor Ring → MutBor Ring → Fml
LendsRing self lent = Lends held.the_row ring.the_row self lent (λ left. left)
