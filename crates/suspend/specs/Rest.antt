-- What a suspended provider shows of itself in numbers, beside its disk.
use Rattle.std.specs.Prelude.{ℕ, List, ◌∷◌}
use Rattle.provider.specs.Rest.{truth_number}
use Rattle.suspend.specs.Suspension.{Suspension}

-- the slot, the bytes of a logical sector, how many there were, and the read-only state; the digest of the master key
-- last
abbrev pub suspended_rest : {D : Type 0} → Suspension D → List ℕ
suspended_rest s = s.slot ∷ s.sectorsize ∷ s.sectors ∷ truth_number s.readonly ∷ s.mark
