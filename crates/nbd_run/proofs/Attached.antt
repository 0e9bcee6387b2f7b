-- What the row of `attach` did with an idle drawer.
use Rattle.std.proofs.Common.{◌≡◌, ◌∙◌, ◌⊎◌, inl, inr, Bool, true, false, Result, Ok, Err, Option, List, [], ℕ, ap, sym, refl, subst}
use Rattle.block_traits.specs.Cabinet.{CabinetState}
use Rattle.block_traits.specs.Disk.{DiskState, Logs}
use Rattle.block_traits.specs.Streams.{EntropyState}
use Rattle.command_rows.proofs.Events.{quiet_attaching, quiet_then, quiet_trial}
use Rattle.command_rows.proofs.Still.{try_still}
use Rattle.reply_text.specs.Answer as answers
use Rattle.command_rows.specs.Replies.{Replies, done_or}
use Rattle.command_rows.specs.Steps.{Attaches, GoesOn}
use Rattle.command_rows.specs.Turn.{Serves}
use Rattle.command_rows.specs.Vocabulary.{Attached, KeyWords, Refusal, Request}
use Rattle.command_rows.specs.World.{Attachment, Holding, Idle, IsAttached, IsSuspended, Kept, Reach, reach_of}
use Rattle.command_rows.specs.verbs.Attach.{AttachRow, AttachesUnless}
use Rattle.command_words.specs.declared.commands.Command.{Command}
use Rattle.command_words.specs.declared.commands.Command.TheVariants as commands
use Rattle.eli_base.specs.declared.refusals.Refusal.TheVariants as refusals
use Rattle.reply_text.specs.declared.reply.Reply.{Reply}
use Rattle.reply_text.specs.declared.reply.Reply.TheVariants as replies
use Rattle.shelf.specs.Shelved.{attachment_of, kept_of, reach_in}
use Rattle.shelf.specs.declared.drawer.Held.{Held}
use Rattle.shelf.specs.declared.drawer.Held.TheVariants as held
use Rattle.suspend.specs.Suspension.{Suspension}
use Rattle.nbd_run.specs.Attaching.{AttachesProvider, IsRefusalOf}
use Rattle.nbd_run.specs.Words.{attaches}

-- the drawer is attached, and the reply says so; or it is idle, and the row was refused
abbrev pub Leaves : answers.Answer → Holding → Type 0
Leaves said holding =
    ((a : Attachment) × (said ≡ answers.Done) × (holding ≡ IsAttached a)) ⊎ ((refusal : Refusal) × (said ≡ answers.Refused refusal) × (holding ≡ Idle))

pub record Left (old : Reach) (said : answers.Answer) (new : Reach) : Type 0 where
  pub quiet : Logs [] old.disk new.disk
  pub leaves : Leaves said new.holding

same_holding : (old new : Reach) → new ≡ old → new.holding ≡ old.holding
same_holding old new is = ap (λ (r : Reach). r.holding) is

last : (a : Attachment) (middle : Reach) (answer : Result (Unit {0}) Refusal) (said : answers.Answer) (new : Reach) → middle.holding ≡ Idle → said ≡ done_or answer → Attaches a middle answer new → Leaves said new.holding
last a middle (Ok done) said new idle is h = inl (a, is, same_holding _ new h)
last a middle (Err refusals.NoMemory) said new idle is h = inr (refusals.NoMemory, is, same_holding middle new h ∙ idle)
last a middle (Err refusal) said new idle is h = absurd h

then : (given : Result Attachment Refusal) (middle : Reach) (answer : Result (Unit {0}) Refusal) (said : answers.Answer) (new : Reach) → middle.holding ≡ Idle → said ≡ done_or answer
    → GoesOn (λ a. AttachesUnless false a) given middle answer new → Leaves said new.holding
then (Ok a) middle answer said new idle is h = last a middle answer said new idle is h
then (Err refusal) middle answer said new idle is h = inr (refusal, is ∙ ap done_or h.0, same_holding middle new h.1 ∙ idle)

by_row : (line : List ℕ) (readonly : Bool) (slot : Option ℕ) (words : KeyWords) (old : Reach) (said : answers.Answer) (new : Reach) → old.holding ≡ Idle
    → Replies done_or (AttachRow line false readonly slot words) old said new → Left old said new
by_row line readonly slot words old said new idle h = record {
  quiet = quiet_then (quiet_trial line slot readonly words) (λ a. quiet_attaching a) old h.answer new h.row;
  leaves = then h.row.given h.row.middle h.answer said new ((try_still line slot readonly words).stays old h.row.given h.row.middle h.row.first ∙ idle) h.replied h.row.next;
}

pub left_by : (line : List ℕ) (command : Command) (d : DiskState) (cabinet : CabinetState) (entropy : EntropyState) (said : answers.Answer) (new : Reach) → attaches command ≡ true
    → Serves line command (reach_of d Idle cabinet entropy) said new → Left (reach_of d Idle cabinet entropy) said new
left_by line (commands.Attach prov false readonly slot words) d cabinet entropy said new verb h = by_row line readonly slot words (reach_of d Idle cabinet entropy) said new refl h
left_by line (commands.Attach prov true readonly slot words) d cabinet entropy said new verb h = absurd (cc verb)
left_by line command d cabinet entropy said new verb h = absurd (cc verb)

-- ---- by what the drawer does after the row

pub says_done : (said : answers.Answer) (holding : Holding) (a : Attachment) → Leaves said holding → holding ≡ IsAttached a → said ≡ answers.Done
says_done said holding a (inl h) is = h.1
says_done said holding a (inr h) is = absurd (let no : Idle ≡ IsAttached a = sym h.2 ∙ is in cc no)

pub says_refused : (said : answers.Answer) (holding : Holding) → Leaves said holding → holding ≡ Idle → (refusal : Refusal) × (said ≡ answers.Refused refusal)
says_refused said holding (inl h) is = absurd (let no : IsAttached h.0 ≡ Idle = sym h.2 ∙ is in cc no)
says_refused said holding (inr h) is = (h.0, h.1)

pub never_suspended : (said : answers.Answer) (holding : Holding) (kept : Kept) → Leaves said holding → holding ≡ IsSuspended kept → ⊥
never_suspended said holding kept (inl h) is = let no : IsAttached h.0 ≡ IsSuspended kept = sym h.2 ∙ is in cc no
never_suspended said holding kept (inr h) is = let no : Idle ≡ IsSuspended kept = sym h.2 ∙ is in cc no

-- ---- a reply

pub is_refusal : (bytes : List ℕ) (reply : Reply) (refusal : Refusal) → answers.answer_of bytes reply ≡ answers.Refused refusal → IsRefusalOf reply
is_refusal bytes (replies.Refused other) refusal is = tt
is_refusal bytes replies.Done refusal is = cc is
is_refusal bytes (replies.Payload count) refusal is = cc is
is_refusal bytes (replies.Digest digest) refusal is = cc is
is_refusal bytes (replies.Rows rows) refusal is = cc is
is_refusal bytes (replies.Dump meta) refusal is = cc is
is_refusal bytes (replies.Tag tag) refusal is = cc is
is_refusal bytes (replies.Left left) refusal is = cc is
is_refusal bytes (replies.Verified bad next) refusal is = cc is

-- ---- by what the drawer holds after the row

module _ {D : Type 0} (state : D → DiskState) (line other : List ℕ) (command : Command) (d : DiskState) (cabinet : CabinetState) (entropy : EntropyState) (said : answers.Answer) (holds : Held D)
    (files : CabinetState) (random : EntropyState) (same : other ≡ line) (verb : attaches command ≡ true) (served : Serves other command (reach_of d Idle cabinet entropy) said (reach_in state holds files random)) where
  abbrev Row : answers.Answer → Held D → Type 0
  Row answer held = Serves line command (reach_of d Idle cabinet entropy) answer (reach_in state held files random)

  row : Row said holds
  row = subst (λ (l : List ℕ). Serves l command (reach_of d Idle cabinet entropy) said (reach_in state holds files random)) same served

  left : (held : Held D) → holds ≡ held → Left (reach_of d Idle cabinet entropy) said (reach_in state held files random)
  left held is = left_by line command d cabinet entropy said (reach_in state held files random) verb (subst (Row said) is row)

  pub attached_so : (p : Attached D) (queue : List Request) → holds ≡ held.Attached p queue → AttachesProvider state line command (reach_of d Idle cabinet entropy) p files random
  attached_so p queue is =
      let h = left (held.Attached p queue) is in
      let done = says_done said _ (attachment_of queue p) h.leaves refl in
      record { queue = queue; row = subst (λ (answer : answers.Answer). Row answer (held.Attached p queue)) done (subst (Row said) is row) }

  pub refused_so : (disk : D) → holds ≡ held.Idle disk → (refusal : Refusal) × (said ≡ answers.Refused refusal)
  refused_so disk is = says_refused said Idle (left (held.Idle disk) is).leaves refl

  pub idle_so : (disk : D) (refusal : Refusal) → holds ≡ held.Idle disk → said ≡ answers.Refused refusal → Row (answers.Refused refusal) (held.Idle disk)
  idle_so disk refusal is refused = subst (λ (answer : answers.Answer). Row answer (held.Idle disk)) refused (subst (Row said) is row)

  pub suspended_so : (s : Suspension D) (queue : List Request) → holds ≡ held.Suspended s queue → ⊥
  suspended_so s queue is = never_suspended said _ (kept_of s) (left (held.Suspended s queue) is).leaves refl
