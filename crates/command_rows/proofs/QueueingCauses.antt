-- Why `submit`, `step` and `reap` are refused.
use Rattle.eli_base.specs.declared.refusals.Refusal.TheVariants as refusals
use Rattle.command_rows.specs.Causes.{FindsInQueue}
use Rattle.command_rows.specs.Rows.{Attachment, HasRequest, IsAttached, NeedsRequest, Reach}
use Rattle.command_rows.specs.Vocabulary.{Command, DiskState, IsOf, Refusal, Request, media, request_with}
use Rattle.std.proofs.Common.{Err, List, None, Ok, Option, Result, subst, ℕ, ◌≡◌, IsSomeAnd}
use Rattle.command_rows.proofs.Causing.{Why}

-- ---- `step` and `reap`

-- there is no such request
pub needs_why : (line : List ℕ) (command : Command) (a : Attachment) (tag : ℕ) (old : Reach) (given : Result (Unit {0}) Refusal) (middle : Reach) → old.holding ≡ IsAttached a
    → ((¬ HasRequest a tag old.disk) → FindsInQueue line command old.disk (refusals.NoRequest tag) a) → NeedsRequest a tag old given middle → Why line command old given middle
needs_why line command a tag old (Ok done) middle is lacks h = tt
needs_why line command a tag old (Err (refusals.NoRequest named)) middle is lacks h = rw (h.0, is) (lacks h.1)
needs_why line command a tag old (Err refusal) middle is lacks h = absurd h

pub has_none : (a : Attachment) (tag : ℕ) (disk : DiskState) → request_with tag a.queue ≡ None → ¬ HasRequest a tag disk
has_none a tag disk none has = subst (λ (o : Option Request). IsSomeAnd o (IsOf a.keying (media a.keying disk))) none has
