-- That `attach` is lawful.
use Rattle.std.proofs.Common.{Bool, Err, List, None, Ok, Option, Result, ap, false, inl, inr, refl, subst, true, ℕ, ◌∙◌, ◌≡◌, ◌⊎◌}
use Rattle.command_words.specs.declared.commands.Command.TheVariants as commands
use Rattle.eli_base.specs.declared.refusals.Refusal.TheVariants as refusals
use Rattle.command_rows.specs.Rows.{Answer, Attachment, GoesOn, Holding, Idle, IsAttached, IsSuspended, Reach, TryRow, attachment_in, done_or}
use Rattle.command_rows.specs.Vocabulary.{Command, KeyWords, Refusal, Span}
use Rattle.command_rows.specs.verbs.Attach.{AttachRow, AttachesUnless, OpensWith}
use Rattle.command_rows.proofs.Keyed.{GivesAttachment, attachment_keyed, try_gives}
use Rattle.command_rows.proofs.ProviderCauses.{attaching_why, trial_why}
use Rattle.command_rows.proofs.SuspendCauses.{trial_opens}
use Rattle.command_rows.proofs.VerbLaws.{AnIdle, Becomes, Counts, IsLawful, IsNew, Keeps, KeepsRequests, NoneOpen, Quiet, Sound, Unstored, Why, apart_out, attach_fits, attached_new, attaches_keep, attaching_counts, attaching_unstored, becomes_as, decision_counts, done_replying, done_still, false_is_true, keeps_next, may_lack_memory, no_bad_file, none_try, nothing_changed, quiet_attaching, quiet_did, quiet_then, quiet_trial, refused_by, reply_line, row_refused, same_quiet, same_reach, some_is_none, sound_reply, still_sound, then_counts, then_why, try_still, unstored_reply, unstored_then}

quiet_unless : (only_check : Bool) (a : Attachment) → Quiet (AttachesUnless only_check a)
quiet_unless true a old answer new h = same_quiet old new h.1
quiet_unless false a old answer new h = quiet_attaching a old answer new h

quiet_attach_row : (line : List ℕ) (only_check readonly : Bool) (slot : Option ℕ) (words : KeyWords) → Quiet (AttachRow line only_check readonly slot words)
quiet_attach_row line only_check readonly slot words =
    quiet_then (quiet_trial line slot readonly words)
    (λ a. quiet_unless only_check a)

unless_counts : (only_check : Bool) (a : Attachment) → Counts (AttachesUnless only_check a)
unless_counts true a old answer new h = decision_counts {A = Unit {0}} (Ok tt) old answer new tt h
unless_counts false a old answer new h = attaching_counts a old answer new h

keeps_attach_row : (line : List ℕ) (only_check readonly : Bool) (slot : Option ℕ) (words : KeyWords) → Keeps (AttachRow line only_check readonly slot words)
keeps_attach_row line only_check readonly slot words old answer new h had =
    keeps_next (λ a. AttachesUnless only_check a) h.given h.middle answer new
    (λ a is next middle. attaches_keep only_check a h.middle answer new (attachment_keyed a (subst GivesAttachment is (try_gives line slot readonly words old h.given h.middle h.first))) next middle)
    h.next ((still_sound (try_still line slot readonly words)).keeps old h.given h.middle h.first had)

attach_sound : (line : List ℕ) (only_check readonly : Bool) (slot : Option ℕ) (words : KeyWords) → Sound (AttachRow line only_check readonly slot words)
attach_sound line only_check readonly slot words = record {
  counts =
      then_counts (try_still line slot readonly words).counts
      (λ a. unless_counts only_check a);
  keeps = keeps_attach_row line only_check readonly slot words;
}

unless_why : (line : List ℕ) (command : Command) (start : Reach) (only_check : Bool) (a : Attachment) (old : Reach) (answer : Result (Unit {0}) Refusal) (new : Reach) → may_lack_memory command ≡ true → AttachesUnless only_check a old answer new
    → Why line command start answer new
unless_why line command start true a old answer new memory h = rw h.0 tt
unless_why line command start false a old answer new memory h = attaching_why line command start a old answer new memory h

attach_why : (line : List ℕ) (prov : Span) (only_check readonly : Bool) (slot : Option ℕ) (words : KeyWords) (old : Reach) (answer : Result (Unit {0}) Refusal) (new : Reach)
    → AttachRow line only_check readonly slot words old answer new → Why line (commands.Attach prov only_check readonly slot words) old answer new
attach_why line prov only_check readonly slot words old answer new h =
    let command : Command = commands.Attach prov only_check readonly slot words in
    then_why line command old answer new h
    (λ given middle first. trial_why line command slot readonly words old given middle refl (λ refusal cabinet bad. bad) (λ refusal ground. ground) first)
    (λ a middle first next. unless_why line command old only_check a middle answer new refl next)

is_idle : (holding : Holding) → refused_by AnIdle holding ≡ None → holding ≡ Idle
is_idle Idle gate = refl
is_idle (IsAttached a) gate = absurd (some_is_none refusals.StillAttached gate)
is_idle (IsSuspended kept) gate = absurd (some_is_none refusals.StillAttached gate)

stays_idle : (line : List ℕ) (command : Command) (old : Reach) (said : Answer) (new : Reach) → old.holding ≡ Idle → new.holding ≡ old.holding → Becomes line command old said new
stays_idle line command old said new was same = becomes_as line command old said new Idle (same ∙ was) (inl was)

opened_by : (line : List ℕ) (prov : Span) (only_check readonly : Bool) (slot : Option ℕ) (words : KeyWords) (a : Attachment) (old middle : Reach) (answer : Result (Unit {0}) Refusal) (said : Answer) (new : Reach) → old.holding ≡ Idle
    → middle.holding ≡ old.holding → OpensWith line slot readonly words old a → said ≡ done_or answer → AttachesUnless only_check a middle answer new → Becomes line (commands.Attach prov only_check readonly slot words) old said new
opened_by line prov true readonly slot words a old middle answer said new was same opens is h = stays_idle line _ old said new was (same_reach middle new h.1 ∙ same)
opened_by line prov false readonly slot words a old middle (Ok done) said new was same opens is h =
    becomes_as line _ old said new (IsAttached a) (same_reach _ new h) (inr (inl (record { prov = prov; readonly = readonly; slot = slot; words = words; said = refl; done = is; was = was; opens = opens })))
opened_by line prov false readonly slot words a old middle (Err refusals.NoMemory) said new was same opens is h = stays_idle line _ old said new was (same_reach middle new h ∙ same)
opened_by line prov false readonly slot words a old middle (Err refusal) said new was same opens is h = absurd h

attached_by : (line : List ℕ) (prov : Span) (only_check readonly : Bool) (slot : Option ℕ) (words : KeyWords) (given : Result Attachment Refusal) (old middle : Reach) (answer : Result (Unit {0}) Refusal) (said : Answer) (new : Reach) → old.holding ≡ Idle
    → TryRow line slot readonly words old given middle → said ≡ done_or answer → GoesOn (λ a. AttachesUnless only_check a) given middle answer new → Becomes line (commands.Attach prov only_check readonly slot words) old said new
attached_by line prov only_check readonly slot words (Ok a) old middle answer said new was trial is h =
    opened_by line prov only_check readonly slot words a old middle answer said new was ((try_still line slot readonly words).stays old (Ok a) middle trial) (trial_opens line slot readonly words old a middle trial) is h
attached_by line prov only_check readonly slot words (Err refusal) old middle answer said new was trial is h =
    stays_idle line _ old said new was (same_reach middle new h.1 ∙ (try_still line slot readonly words).stays old (Err refusal) middle trial)

unless_unstored : (only_check : Bool) (a : Attachment) → Unstored (AttachesUnless only_check a)
unless_unstored true a = (done_still tt).unstored
unless_unstored false a = attaching_unstored a

attach_row : (line : List ℕ) (only_check readonly : Bool) (slot : Option ℕ) (names : KeyWords) → Unstored (AttachRow line only_check readonly slot names)
attach_row line only_check readonly slot names = unstored_then (try_still line slot readonly names).unstored (λ a. unless_unstored only_check a)

attach_next : (only_check : Bool) (given : Result Attachment Refusal) (middle : Reach) (answer : Result (Unit {0}) Refusal) (new : Reach) → NoneOpen given → GoesOn (λ a. AttachesUnless only_check a) given middle answer new
    → (new.holding ≡ middle.holding) ⊎ IsNew new.holding
attach_next only_check (Ok a) middle answer new none h = attached_new only_check a middle answer new none h
attach_next only_check (Err refusal) middle answer new none h = inl (ap (λ (r : Reach). r.holding) h.1)

-- `attach`, if nothing was attached
attach_keeps : (line : List ℕ) (only_check readonly : Bool) (slot : Option ℕ) (words : KeyWords) (old : Reach) (answer : Result (Unit {0}) Refusal) (new : Reach) → attachment_in old.holding ≡ None → AttachRow line only_check readonly slot words old answer new → KeepsRequests old.holding new.holding
attach_keeps line only_check readonly slot words old answer new none h =
    let same : h.middle.holding ≡ old.holding = (try_still line slot readonly words).stays old h.given h.middle h.first in
    elim (attach_next only_check h.given h.middle answer new (none_try line slot readonly words old h.given h.middle h.first) h.next) [
      | inl is ↦ inl (is ∙ same)
      | inr anew ↦ inr (inr (none, anew))
    ]

pub attach_lawful : (prov : Span) (only_check : Bool) (readonly : Bool) (slot : Option ℕ) (words : KeyWords) → IsLawful (commands.Attach prov only_check readonly slot words)
attach_lawful prov only_check readonly slot words = record {
  why = λ line old refusal new h.
      let command : Command = commands.Attach prov only_check readonly slot words in
      row_refused line command done_or old h.answer new refusal done_replying h.replied (attach_why line prov only_check readonly slot words old h.answer new h.row);
  did = λ line old said new h. reply_line done_or _ false h.answer said old.disk new.disk done_replying h.replied (quiet_did false old.disk h.answer new.disk (quiet_attach_row line only_check readonly slot words old h.answer new h.row));
  sound = λ line old reply new h. sound_reply done_or _ old reply new done_replying (attach_sound line only_check readonly slot words) h;
  out = λ line old gate f.
      apart_out line (commands.Attach prov only_check readonly slot words) old refl refl gate
      (λ refusal cabinet x. no_bad_file line words f.parts old.cabinet refusal cabinet f.names x) (λ refusal x. attach_fits line slot readonly words old f refusal x);
  tags = λ line old f needs h. false_is_true needs;
  becomes = λ line old said new gate h. attached_by line prov only_check readonly slot words h.row.given old h.row.middle h.answer said new (is_idle old.holding gate) h.row.first h.replied h.row.next;
  keeps = λ line old reply new gate other h. attach_keeps line only_check readonly slot words old h.answer new (ap attachment_in (is_idle old.holding gate)) h.row;
  left = λ line old said new h. nothing_changed line old.cabinet.files old.holding said old.disk new.disk;
  stores = λ line old reply new h. unstored_reply _ _ old reply new (attach_row line only_check readonly slot words) h;
}
