-- A call that was counted.
use Rattle.std.proofs.Common.{◌≡◌, refl}
use Rattle.crash_disk.specs.declared.plan.CallKind.{CallKind}
use Rattle.crash_disk.specs.declared.plan.CallKind.TheVariants.{Read, Write, Flush}
use Rattle.crash_disk.specs.Count.{one_more}
use Rattle.crash_disk.specs.Plan.{PlanState, counted, made}

pub made_counted : (kind : CallKind) (plan : PlanState) → made kind (counted kind plan) ≡ one_more (made kind plan)
made_counted Read plan = refl
made_counted Write plan = refl
made_counted Flush plan = refl

pub entries_counted : (kind : CallKind) (plan : PlanState) → (counted kind plan).entries ≡ plan.entries
entries_counted Read plan = refl
entries_counted Write plan = refl
entries_counted Flush plan = refl
