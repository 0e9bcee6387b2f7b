-- Which of two disks failed last.
use Rattle.std.proofs.Common.{◌≡◌, ◌≤◌, Bool, true, false, List, sym, subst, Result, Ok, Err, OnErr}
use Rattle.block_traits.specs.Disk.{DiskState, FailsIn}
use Rattle.block_traits.specs.declared.disk.Event.{Event}
use Rattle.block_traits.proofs.Causes.{Rose-earlier}
use Rattle.disk_layers.specs.Concat.{FailedLast}

-- the first did
pub failed_first : {T E : Type 0} (result : Result T E) (noted : Bool) (events : List Event) (a new b new_b : DiskState) → OnErr result (noted ≡ false) → OnErr result (FailsIn events a new) → OnErr result (FailedLast noted a new b new_b)
failed_first (Ok done) noted events a new b new_b is fails = tt
failed_first (Err failed) noted events a new b new_b is fails = subst (λ (s : Bool). FailedLast s a new b new_b) (sym is) fails.rose

-- the second did
pub failed_second : {T E : Type 0} (result : Result T E) (noted : Bool) (events : List Event) (a new_a b new : DiskState) → OnErr result (noted ≡ true) → OnErr result (FailsIn events b new) → OnErr result (FailedLast noted a new_a b new)
failed_second (Ok done) noted events a new_a b new is fails = tt
failed_second (Err failed) noted events a new_a b new is fails = subst (λ (s : Bool). FailedLast s a new_a b new) (sym is) fails.rose

-- so it is too since an earlier call of the first
pub failed_since : (noted : Bool) (a middle new_a b new_b : DiskState) → a.faults ≤ middle.faults → FailedLast noted middle new_a b new_b → FailedLast noted a new_a b new_b
failed_since false a middle new_a b new_b le failed = Rose-earlier a.faults middle.faults new_a.faults le failed
failed_since true a middle new_a b new_b le failed = failed
