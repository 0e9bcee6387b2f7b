-- What a line makes of what a drawer does with its disk: by which verbs the drawer becomes idle, attached and
-- suspended, and with what.
use Rattle.std.specs.Prelude.{Bool, IsTrue, List, MatchOption, None, Option, Some, [], false, slice_get, true, ℕ, ◌∷◌, ◌≡◌, ◌⊎◌}
use Rattle.block_traits.specs.declared.disk.Event.TheVariants.{Flush}
use Rattle.command_words.specs.declared.commands.Command.TheVariants as commands
use Rattle.reply_text.specs.Answer as answers
use Rattle.command_rows.specs.Gate.{traits_of}
use Rattle.command_rows.specs.Rows.{Answer, Attachment, DrawerState, Holding, Idle, IsAttached, IsSuspended, Kept, Reach, World, place_of}
use Rattle.command_rows.specs.Turn.{reach, takes_out}
use Rattle.command_rows.specs.Vocabulary.{Command, FailsIn, KeyWords, Logs, Span, bytes_at, provider_of, sha256}
use Rattle.command_rows.specs.verbs.Attach.{OpensWith}
use Rattle.command_rows.specs.verbs.Suspend.{kept_by}

-- ---- idle

-- whether a verb leaves its drawer idle
abbrev pub lets_go : Command → Bool
lets_go command = (traits_of command).lets_go

-- ---- attached

-- whether a verb changes the requests that are open on its drawer
abbrev pub changes_requests : Command → Bool
changes_requests command = (traits_of command).changes_requests

-- the drawer was attached before, with the same slot, keying and read-only state; and but for `submit`, `step` and
-- `reap` the same requests are open
pub record StaysAttached (command : Command) (a : Attachment) (old : Holding) : Type 0 where
  pub before : Attachment
  pub was : old ≡ IsAttached before
  pub slot : a.slot ≡ before.slot
  pub keying : a.keying ≡ before.keying
  pub readonly : a.readonly ≡ before.readonly
  pub queue : changes_requests command ≡ false → a.queue ≡ before.queue

-- the drawer was idle, and `attach` was done, with a key that opens
pub record IsOpened (line : List ℕ) (command : Command) (a : Attachment) (old : Reach) (answer : Answer) : Type 0 where
  pub prov : Span
  pub readonly : Bool
  pub slot : Option ℕ
  pub words : KeyWords
  pub said : command ≡ commands.Attach prov false readonly slot words
  pub done : answer ≡ answers.Done
  pub was : old.holding ≡ Idle
  pub opens : OpensWith line slot readonly words old a

-- the drawer was suspended, and `resume` was done, with a key that opens the master key of which the digest was kept;
-- the disk logged nothing
pub record BecomesResumed (line : List ℕ) (command : Command) (a : Attachment) (old : Reach) (answer : Answer) (new : Reach) : Type 0 where
  pub prov : Span
  pub words : KeyWords
  pub said : command ≡ commands.Resume prov words
  pub done : answer ≡ answers.Done
  pub kept : Kept
  pub was : old.holding ≡ IsSuspended kept
  pub opens : OpensWith line None kept.readonly words old a
  pub same : sha256 a.keying.master ≡ kept.mark
  pub logs : Logs [] old.disk new.disk

-- ---- suspended

-- the drawer was suspended before, the same is kept of its provider, and the disk logged nothing
pub record StaysSuspended (kept : Kept) (old new : Reach) : Type 0 where
  pub was : old.holding ≡ IsSuspended kept
  pub logs : Logs [] old.disk new.disk

-- the drawer was attached, and `suspend` kept this of its provider; the disk was flushed, or failed in that
pub record IsSuspendedBy (command : Command) (kept : Kept) (old new : Reach) : Type 0 where
  pub prov : Span
  pub said : command ≡ commands.Suspend prov
  pub a : Attachment
  pub was : old.holding ≡ IsAttached a
  pub keeps : kept ≡ kept_by a old.disk
  pub flushes : Logs (Flush ∷ []) old.disk new.disk ⊎ FailsIn (Flush ∷ []) old.disk new.disk

-- ---- a line

-- how a drawer came to do this with its disk
abbrev pub BecomesBy : Holding → List ℕ → Command → Reach → Answer → Reach → Type 0
BecomesBy Idle line command old answer new = (old.holding ≡ Idle) ⊎ IsTrue (lets_go command)
BecomesBy (IsAttached a) line command old answer new = StaysAttached command a old.holding ⊎ IsOpened line command a old answer ⊎ BecomesResumed line command a old answer new
BecomesBy (IsSuspended kept) line command old answer new = StaysSuspended kept old new ⊎ IsSuspendedBy command kept old new

abbrev pub Becomes : List ℕ → Command → Reach → Answer → Reach → Type 0
Becomes line command old answer new = BecomesBy new.holding line command old answer new

-- the drawer at a place became what `Becomes` says
pub record BecomesAt (line : List ℕ) (command : Command) (answer : Answer) (old new : World) (place : ℕ) : Type 0 where
  pub before : DrawerState
  pub found : slice_get old.drawers place ≡ Some before
  pub after : DrawerState
  pub there : slice_get new.drawers place ≡ Some after
  pub becomes : Becomes line command (reach before old) answer (reach after new)

-- the drawer at a place became what `Becomes` says, unless the line takes it out of the list
abbrev pub BecomesUnless : Bool → List ℕ → Command → Answer → World → World → ℕ → Type 0
BecomesUnless true line command answer old new place = Unit {0}
BecomesUnless false line command answer old new place = BecomesAt line command answer old new place

-- the drawer that a line names became what `Becomes` says, if there is one
abbrev pub BecomesSo : List ℕ → Command → Answer → World → World → Type 0
BecomesSo line command answer old new =
    MatchOption (provider_of command) (Unit {0})
    (λ prov. MatchOption (place_of (bytes_at line prov) old.drawers) (Unit {0}) (BecomesUnless (takes_out command) line command answer old new))
