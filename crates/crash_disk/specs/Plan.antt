-- Which calls of a disk fail.
use Rattle.std.specs.Prelude.{ℕ, ◌==◌, ◌&&◌, Bool, true, false, List, [], ◌∷◌, if◌then◌else◌, Option, Some, None}
use Rattle.crash_disk.specs.Count.{raised, one_more}
use Rattle.crash_disk.specs.declared.plan.CallKind.{CallKind}
use Rattle.crash_disk.specs.declared.plan.CallKind.TheVariants.{Read, Write, Flush}
use Rattle.crash_disk.specs.declared.plan.FailAt.{FailAt}

-- how many calls of each kind were made, and which fail
pub record PlanState : Type 0 where
  pub reads : ℕ
  pub writes : ℕ
  pub flushes : ℕ
  pub entries : List FailAt

-- no call was made, and none fails
abbrev pub no_plan : PlanState
no_plan = record { reads = 0; writes = 0; flushes = 0; entries = [] }

-- these calls fail from now on
abbrev pub with_entries : List FailAt → PlanState → PlanState
with_entries entries plan = record plan { entries = entries }

-- how many calls of a kind were made
abbrev pub made : CallKind → PlanState → ℕ
made Read plan = plan.reads
made Write plan = plan.writes
made Flush plan = plan.flushes

-- one more call of a kind was made
abbrev pub counted : CallKind → PlanState → PlanState
counted Read plan = record plan { reads = one_more plan.reads }
counted Write plan = record plan { writes = one_more plan.writes }
counted Flush plan = record plan { flushes = one_more plan.flushes }

-- so many more reads were made
abbrev pub more_reads : ℕ → PlanState → PlanState
more_reads many plan = record plan { reads = raised many plan.reads }

abbrev pub same_kind : CallKind → CallKind → Bool
same_kind Read Read = true
same_kind Write Write = true
same_kind Flush Flush = true
same_kind kind other = false

-- the first entry for the call of this number says whether its event is appended
abbrev pub lands_at : CallKind → ℕ → List FailAt → Option Bool
lands_at kind nth [] = None
lands_at kind nth (entry ∷ entries) = if same_kind entry.kind kind && (entry.nth == nth) then Some entry.lands else lands_at kind nth entries

-- what the entries say of the next call of a kind
abbrev pub planned : CallKind → PlanState → Option Bool
planned kind plan = lands_at kind (one_more (made kind plan)) plan.entries

-- there is an entry for a read
abbrev pub has_read : List FailAt → Bool
has_read [] = false
has_read (entry ∷ entries) = if same_kind entry.kind Read then true else has_read entries
