-- Why a drawer isn't in the state that a verb needs, by what it does with its disk. This is checked before the row of
-- the verb.
use Rattle.std.specs.Prelude.{Option, Some, None}
pub use Rattle.command_words.specs.Traits.{job_writes, needs, traits_of}
pub use Rattle.command_words.specs.declared.verbs.Needs.{Needs}
pub use Rattle.command_words.specs.declared.verbs.Needs.TheVariants.{AnIdle, AnAttached, ASuspended, NoIdle, NoSuspended, AnyOne}
use Rattle.eli_base.specs.declared.refusals.Refusal.TheVariants as refusals
use Rattle.command_rows.specs.Rows.{Holding, Idle, IsAttached, IsSuspended}
use Rattle.command_rows.specs.Vocabulary.{Refusal}

-- why a drawer isn't in the state that a verb needs, if it isn't
abbrev pub refused_by : Needs → Holding → Option Refusal
refused_by AnIdle Idle = None
refused_by AnIdle (IsAttached a) = Some refusals.StillAttached
refused_by AnIdle (IsSuspended kept) = Some refusals.StillAttached
refused_by AnAttached Idle = Some refusals.NotAttached
refused_by AnAttached (IsAttached a) = None
refused_by AnAttached (IsSuspended kept) = Some refusals.Suspended
refused_by ASuspended Idle = Some refusals.NotAttached
refused_by ASuspended (IsAttached a) = Some refusals.NotSuspended
refused_by ASuspended (IsSuspended kept) = None
refused_by NoIdle Idle = Some refusals.NotAttached
refused_by NoIdle (IsAttached a) = None
refused_by NoIdle (IsSuspended kept) = None
refused_by NoSuspended Idle = None
refused_by NoSuspended (IsAttached a) = None
refused_by NoSuspended (IsSuspended kept) = Some refusals.Suspended
refused_by AnyOne holding = None
