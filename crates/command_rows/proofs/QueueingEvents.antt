-- The events of `submit`, `step` and `reap`.
use Rattle.eli_base.specs.declared.refusals.Refusal.TheVariants as refusals
use Rattle.std.proofs.Common.{Err, Ok, ℕ}
use Rattle.command_rows.specs.Rows.{Attachment, NeedsRequest}
use Rattle.command_rows.proofs.Events.{Quiet, same_quiet}

-- ---- `step`

pub quiet_needs : (a : Attachment) (tag : ℕ) → Quiet (NeedsRequest a tag)
quiet_needs a tag old (Ok done) new h = same_quiet old new h.1
quiet_needs a tag old (Err (refusals.NoRequest named)) new h = same_quiet old new h.2
quiet_needs a tag old (Err refusal) new h = absurd h
