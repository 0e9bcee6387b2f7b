-- The open requests of an attached provider, as `submit`, `step`, `reap` and `suspend` see them.
use Rattle.std.specs.Prelude.{Err, List, Ok, Result, ℕ, ◌≡◌}
use Rattle.eli_base.specs.declared.refusals.Refusal.TheVariants as refusals
use Rattle.command_rows.specs.Vocabulary.{DiskState, IsOpenRequest, Refusal, Request, media}
use Rattle.command_rows.specs.World.{Attachment, Reach}

-- this attachment with these open requests in place of its own
abbrev pub with_queue : List Request → Attachment → Attachment
with_queue queue a = record { slot = a.slot; keying = a.keying; readonly = a.readonly; queue = queue }

-- ---- a request that is open

-- an open request has the tag, and is one of the provider, as that is now
abbrev pub HasRequest : Attachment → ℕ → DiskState → Type 0
HasRequest a tag disk = IsOpenRequest a.keying (media a.keying disk) tag a.queue

-- An open request has the tag, and is one of the provider, or the line is refused. Nothing changes.
abbrev pub NeedsRequest : Attachment → ℕ → Reach → Result (Unit {0}) Refusal → Reach → Type 0
NeedsRequest a tag old (Ok done) new = HasRequest a tag old.disk × (new ≡ old)
NeedsRequest a tag old (Err (refusals.NoRequest named)) new = (named ≡ tag) × (¬ HasRequest a tag old.disk) × (new ≡ old)
NeedsRequest a tag old (Err refusal) new = ⊥
