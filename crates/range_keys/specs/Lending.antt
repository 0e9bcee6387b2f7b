-- What a ring is once the key that it lent is given back.
use Rattle.std.specs.Prelude.{◌≡◌, ℕ, ⊤}
use Rattle.std.specs.Borrow.{follows_so, MutBor, Fml}
use mathlib.Core.Option.{none}
use Rattle.range_keys.specs.Keys.{key_number}
use Rattle.range_keys.specs.Numbers.{AfterUse}
use Rattle.range_keys.specs.Ring.{Ring}
use Rattle.range_keys.specs.contracts.ring.KeyRing.{the_row}

-- the ring has the keying that it had, and keeps the range key of this offset if there is memory for it
abbrev pub LendsKeyAt : MutBor Ring → ℕ → Fml
LendsKeyAt ring offset =
    follows_so the_row the_row ring.ghost_name none (λ _ _. ⊤)
    (λ last. (last.keying ≡ ring.now.keying) × AfterUse (key_number ring.now.keying offset) ring.now.numbers last.numbers)
