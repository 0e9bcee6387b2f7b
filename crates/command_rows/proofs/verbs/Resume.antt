-- That `resume` is lawful.
use Rattle.std.proofs.Common.{Bool, Err, List, None, Ok, Result, [], ap, cond, false, inl, inr, refl, subst, sym, true, ℕ, ◌∙◌, ◌≡◌, ◌⊎◌}
use Rattle.std.specs.Str.{bytes_eq}
use Rattle.command_words.specs.declared.commands.Command.TheVariants as commands
use Rattle.eli_base.specs.declared.refusals.Refusal.TheVariants as refusals
use Rattle.command_rows.specs.Rows.{Answer, Attaches, Attachment, GoesOn, Holding, HoldsKeying, Idle, IsAttached, IsSuspended, Kept, LacksMetadata, Reach, SuspendedWith, TryRow, admitted, attachment_in, done_or, tried}
use Rattle.command_rows.specs.Vocabulary.{Command, IsKeying, KeyWords, Logs, Metadata, Refusal, Span, sha256, user_key}
use Rattle.command_rows.specs.verbs.Attach.{OpensWith, RefusesAttach}
use Rattle.command_rows.specs.verbs.Resume.{AttachesAgain, FindsSameKey, NeedsSameKey, OpensOtherMaster, RefusesResume, ResumeRow, same_key}
use Rattle.command_rows.proofs.Keyed.{GivesAttachment, attachment_keyed, try_gives}
use Rattle.command_rows.proofs.ProviderCauses.{attaching_why, trial_why}
use Rattle.command_rows.proofs.SameKey.{key_is_same}
use Rattle.command_rows.proofs.SuspendCauses.{trial_opens}
use Rattle.command_rows.proofs.VerbLaws.{Becomes, Counts, HasGround, IsLawful, IsNew, Keeps, KeepsRequests, LineDid, LineHasCause, NoneOpen, PlainAnswer, Quiet, Sound, SoundReply, Still, StoresNone, Unstored, Why, apart_out, attach_fits, attached_new, attaches_keep, attaching_counts, attaching_unstored, becomes_as, by_plain, decides_why, done_replying, false_is_true, has_metadata, has_same, keeps_next, no_bad_file, none_try, not_both, nothing_changed, parts_same, quiet_attaching, quiet_did, quiet_then, quiet_trial, reply_line, row_refused, same_quiet, same_reach, sound_reply, stays_quiet, still_decision, still_sound, suspended, then_counts, then_since, then_why, try_still, unstored_reply, unstored_then, with_suspended}

same_by : (same : Bool) → PlainAnswer {A = Unit {0}} (cond same (Ok tt) (Err refusals.DifferentKey))
same_by true = tt
same_by false = tt

same_plain : (kept : Kept) (a : Attachment) → PlainAnswer (same_key kept a)
same_plain kept a = same_by (bytes_eq (sha256 a.keying.master) kept.mark)

same_still : (kept : Kept) (a : Attachment) → Still (NeedsSameKey kept a)
same_still kept a = still_decision (λ r. same_key kept a) (λ r. by_plain _ (same_plain kept a))

again_counts : (kept : Kept) (a : Attachment) → Counts (AttachesAgain kept a)
again_counts kept a = then_counts (same_still kept a).counts (λ done. attaching_counts a)

again_keeps : (kept : Kept) (a : Attachment) (old : Reach) (answer : Result (Unit {0}) Refusal) (new : Reach) → IsKeying a.keying → AttachesAgain kept a old answer new → HoldsKeying old.holding → HoldsKeying new.holding
again_keeps kept a old answer new is h had =
    keeps_next (λ done. Attaches a) h.given h.middle answer new (λ done same next middle. attaches_keep false a h.middle answer new is next middle)
    h.next ((still_sound (same_still kept a)).keeps old h.given h.middle h.first had)

keeps_resume_row : (line : List ℕ) (words : KeyWords) (kept : Kept) → Keeps (ResumeRow line words kept)
keeps_resume_row line words kept old answer new h had =
    keeps_next (λ a. AttachesAgain kept a) h.given h.middle answer new
    (λ a is next middle. again_keeps kept a h.middle answer new (attachment_keyed a (subst GivesAttachment is (try_gives line None kept.readonly words old h.given h.middle h.first))) next middle)
    h.next ((still_sound (try_still line None kept.readonly words)).keeps old h.given h.middle h.first had)

resume_sound : (line : List ℕ) (words : KeyWords) (kept : Kept) → Sound (ResumeRow line words kept)
resume_sound line words kept = record {
  counts =
      then_counts (try_still line None kept.readonly words).counts
      (λ a. again_counts kept a);
  keeps = keeps_resume_row line words kept;
}

resume_ground : (line : List ℕ) (words : KeyWords) (kept : Kept) (prov : Span) (old : Reach) (refusal : Refusal) → old.holding ≡ IsSuspended kept → LacksMetadata old.disk refusal ⊎ RefusesAttach line None kept.readonly words old refusal
    → HasGround line (commands.Resume prov words) old refusal
resume_ground line words kept prov old refusal is (inl lacks) = inl lacks
resume_ground line words kept prov old refusal is (inr refused) = inr (suspended old.holding (λ k. RefusesResume line words k old refusal) kept is (inl refused))

-- another key than that of the suspended provider is no key of its
again_why : (line : List ℕ) (prov : Span) (words : KeyWords) (kept : Kept) (a : Attachment) (start old : Reach) (answer : Result (Unit {0}) Refusal) (new : Reach) → start.holding ≡ IsSuspended kept → OpensWith line None kept.readonly words start a
    → AttachesAgain kept a old answer new → Why line (commands.Resume prov words) start answer new
again_why line prov words kept a start old answer new is opens h =
    let command : Command = commands.Resume prov words in
    then_since line command start old answer new h
    (λ given middle first. decides_why line command start (same_key kept a) old given middle (same_plain kept a)
    (λ refusal other. inr (suspended start.holding (λ k. RefusesResume line words k start refusal) kept is (inr (record { a = a; opens = opens; refused = other })))) first)
    (λ done middle first next. attaching_why line command start a middle answer new refl next)

resume_why : (line : List ℕ) (prov : Span) (words : KeyWords) (kept : Kept) (old : Reach) (answer : Result (Unit {0}) Refusal) (new : Reach) → old.holding ≡ IsSuspended kept → ResumeRow line words kept old answer new
    → Why line (commands.Resume prov words) old answer new
resume_why line prov words kept old answer new is h =
    let command : Command = commands.Resume prov words in
    then_why line command old answer new h
    (λ given middle first. trial_why line command None kept.readonly words old given middle refl (λ refusal cabinet bad. bad) (λ refusal ground. resume_ground line words kept prov old refusal is ground) first)
    (λ a middle first next. again_why line prov words kept a old middle answer new is (trial_opens line None kept.readonly words old a middle first) next)

quiet_resume_row : (line : List ℕ) (words : KeyWords) (kept : Kept) → Quiet (ResumeRow line words kept)
quiet_resume_row line words kept =
    quiet_then (quiet_trial line None kept.readonly words)
    (λ a. quiet_then (λ old answer new h. same_quiet old new h.1)
    (λ _. quiet_attaching a))

taken_up_by : (line : List ℕ) (prov : Span) (words : KeyWords) (kept : Kept) (a : Attachment) (old middle : Reach) (answer : Result (Unit {0}) Refusal) (said : Answer) (new : Reach) → old.holding ≡ IsSuspended kept → Logs [] old.disk new.disk
    → middle.holding ≡ old.holding → OpensWith line None kept.readonly words old a → same_key kept a ≡ Ok tt → said ≡ done_or answer → Attaches a middle answer new → Becomes line (commands.Resume prov words) old said new
taken_up_by line prov words kept a old middle (Ok done) said new was logs same opens key is h =
    becomes_as line _ old said new (IsAttached a) (same_reach _ new h)
    (inr (inr (record { prov = prov; words = words; said = refl; done = is; kept = kept; was = was; opens = opens; same = key_is_same kept a key; logs = logs })))
taken_up_by line prov words kept a old middle (Err refusals.NoMemory) said new was logs same opens key is h = stays_quiet line _ old said new (same_reach middle new h ∙ same) logs
taken_up_by line prov words kept a old middle (Err refusal) said new was logs same opens key is h = absurd h

again_by : (line : List ℕ) (prov : Span) (words : KeyWords) (kept : Kept) (a : Attachment) (given : Result (Unit {0}) Refusal) (old middle : Reach) (answer : Result (Unit {0}) Refusal) (said : Answer) (new : Reach) → old.holding ≡ IsSuspended kept
    → Logs [] old.disk new.disk → middle.holding ≡ old.holding → OpensWith line None kept.readonly words old a → given ≡ same_key kept a → said ≡ done_or answer → GoesOn (λ _. Attaches a) given middle answer new
    → Becomes line (commands.Resume prov words) old said new
again_by line prov words kept a (Ok done) old middle answer said new was logs same opens key is h = taken_up_by line prov words kept a old middle answer said new was logs same opens (sym key) is h
again_by line prov words kept a (Err refusal) old middle answer said new was logs same opens key is h = stays_quiet line _ old said new (same_reach middle new h.1 ∙ same) logs

resumed_by : (line : List ℕ) (prov : Span) (words : KeyWords) (kept : Kept) (given : Result Attachment Refusal) (old middle : Reach) (answer : Result (Unit {0}) Refusal) (said : Answer) (new : Reach) → old.holding ≡ IsSuspended kept
    → Logs [] old.disk new.disk → TryRow line None kept.readonly words old given middle → said ≡ done_or answer → GoesOn (λ a. AttachesAgain kept a) given middle answer new → Becomes line (commands.Resume prov words) old said new
resumed_by line prov words kept (Ok a) old middle answer said new was logs trial is h =
    again_by line prov words kept a h.given old h.middle answer said new was logs (same_reach middle h.middle h.first.1 ∙ (try_still line None kept.readonly words).stays old (Ok a) middle trial)
    (trial_opens line None kept.readonly words old a middle trial) h.first.0 is h.next
resumed_by line prov words kept (Err refusal) old middle answer said new was logs trial is h =
    stays_quiet line _ old said new (same_reach middle new h.1 ∙ (try_still line None kept.readonly words).stays old (Err refusal) middle trial) logs

-- both of what is suspended
kept_fits : (Fit Holds : Kept → Type 0) (holding : Holding) → SuspendedWith holding Fit → ((kept : Kept) → Fit kept → Holds kept → ⊥) → SuspendedWith holding Holds → ⊥
kept_fits Fit Holds Idle f never h = h
kept_fits Fit Holds (IsAttached a) f never h = h
kept_fits Fit Holds (IsSuspended kept) f never h = never kept f h

-- the key that opens is the one that was found
another_fits : (line : List ℕ) (words : KeyWords) (old : Reach) (refusal : Refusal) (kept : Kept) (f : FindsSameKey line words old kept) → OpensOtherMaster line words kept old refusal → ⊥
another_fits line words old refusal kept f h =
    let m : h.opens.m ≡ f.key.m = has_same old.disk f.key.m h.opens.m f.key.shows h.opens.found in
    let admits : admitted f.key.m old.disk.size None ≡ Ok h.opens.settings = subst (λ (x : Metadata). admitted x old.disk.size None ≡ Ok h.opens.settings) m h.opens.admits in
    let settings : h.opens.settings ≡ f.key.settings = cc (admits, f.key.admits) in
    let parts : h.opens.parts ≡ f.key.parts = parts_same line words old.cabinet f.key.parts h.opens.parts f.key.names h.opens.named in
    let opens : tried f.key.m f.key.settings None kept.readonly (user_key f.key.parts f.key.m.salt f.key.m.iterations) ≡ Ok h.a = rw (← m, ← settings, ← parts) h.opens.opens in
    let a : h.a ≡ f.key.a = cc (opens, f.key.opens) in
    not_both (same_key kept f.key.a) tt refusal f.same (subst (λ (x : Attachment). same_key kept x ≡ Err refusal) a h.refused)

resume_by : (line : List ℕ) (words : KeyWords) (old : Reach) (refusal : Refusal) (kept : Kept) (f : FindsSameKey line words old kept) → RefusesResume line words kept old refusal → ⊥
resume_by line words old refusal kept f (inl h) = attach_fits line None kept.readonly words old f.key refusal (inr h)
resume_by line words old refusal kept f (inr h) = another_fits line words old refusal kept f h

resume_fits : (line : List ℕ) (words : KeyWords) (old : Reach) → SuspendedWith old.holding (FindsSameKey line words old) → (refusal : Refusal) → LacksMetadata old.disk refusal ⊎ SuspendedWith old.holding (λ kept. RefusesResume line words kept old refusal) → ⊥
resume_fits line words old f refusal (inl h) = with_suspended old.holding _ ⊥ (λ kept is finds. has_metadata old.disk finds.key.m refusal finds.key.shows h) f
resume_fits line words old f refusal (inr h) = kept_fits _ _ old.holding f (λ kept finds refused. resume_by line words old refusal kept finds refused) h

resume_row : (line : List ℕ) (names : KeyWords) (kept : Kept) → Unstored (ResumeRow line names kept)
resume_row line names kept =
    unstored_then (try_still line None kept.readonly names).unstored
    (λ a. unstored_then (same_still kept a).unstored (λ done. attaching_unstored a))

-- `resume`, if nothing was attached
again_new : (a : Attachment) (given : Result (Unit {0}) Refusal) (old middle : Reach) (answer : Result (Unit {0}) Refusal) (new : Reach) → a.queue ≡ [] → middle ≡ old → GoesOn (λ _. Attaches a) given middle answer new → (new.holding ≡ old.holding) ⊎ IsNew new.holding
again_new a (Ok done) old middle answer new none same h =
    elim (attached_new false a middle answer new none h) [
      | inl is ↦ inl (is ∙ same_reach old middle same)
      | inr anew ↦ inr anew
    ]
again_new a (Err refusal) old middle answer new none same h = inl (same_reach middle new h.1 ∙ same_reach old middle same)

resume_next : (kept : Kept) (given : Result Attachment Refusal) (middle : Reach) (answer : Result (Unit {0}) Refusal) (new : Reach) → NoneOpen given → GoesOn (λ a. AttachesAgain kept a) given middle answer new
    → (new.holding ≡ middle.holding) ⊎ IsNew new.holding
resume_next kept (Ok a) middle answer new none h = again_new a h.given middle h.middle answer new none h.first.1 h.next
resume_next kept (Err refusal) middle answer new none h = inl (same_reach middle new h.1)

resume_keeps : (line : List ℕ) (words : KeyWords) (kept : Kept) (old : Reach) (answer : Result (Unit {0}) Refusal) (new : Reach) → old.holding ≡ IsSuspended kept → ResumeRow line words kept old answer new → KeepsRequests old.holding new.holding
resume_keeps line words kept old answer new was h =
    let same : h.middle.holding ≡ old.holding = (try_still line None kept.readonly words).stays old h.given h.middle h.first in
    elim (resume_next kept h.given h.middle answer new (none_try line None kept.readonly words old h.given h.middle h.first) h.next) [
      | inl is ↦ inl (is ∙ same)
      | inr anew ↦ inr (inr (ap attachment_in was, anew))
    ]

pub resume_lawful : (prov : Span) (words : KeyWords) → IsLawful (commands.Resume prov words)
resume_lawful prov words = record {
  why = λ line old refusal new h.
      with_suspended old.holding _ (LineHasCause line (commands.Resume prov words) old refusal new)
      (λ kept is row. row_refused line (commands.Resume prov words) done_or old row.answer new refusal done_replying row.replied (resume_why line prov words kept old row.answer new is row.row)) h;
  did = λ line old said new h.
      with_suspended old.holding _ (LineDid (λ events. events ≡ []) false said old.disk new.disk)
      (λ kept is row. reply_line done_or _ false row.answer said old.disk new.disk done_replying row.replied (quiet_did false old.disk row.answer new.disk (quiet_resume_row line words kept old row.answer new row.row))) h;
  sound = λ line old reply new h. with_suspended old.holding _ (SoundReply old reply new) (λ kept is row. sound_reply done_or _ old reply new done_replying (resume_sound line words kept) row) h;
  out = λ line old gate f.
      apart_out line (commands.Resume prov words) old refl refl gate
      (λ refusal cabinet x. with_suspended old.holding _ ⊥ (λ kept is finds. no_bad_file line words finds.key.parts old.cabinet refusal cabinet finds.key.names x) f) (λ refusal x. resume_fits line words old f refusal x);
  tags = λ line old f needs h. false_is_true needs;
  becomes = λ line old said new gate h.
      with_suspended old.holding _ (Becomes line (commands.Resume prov words) old said new)
      (λ kept is row. resumed_by line prov words kept row.row.given old row.row.middle row.answer said new is (quiet_resume_row line words kept old row.answer new row.row) row.row.first row.replied row.row.next) h;
  keeps = λ line old reply new gate other h. with_suspended old.holding _ (KeepsRequests old.holding new.holding) (λ kept is row. resume_keeps line words kept old row.answer new is row.row) h;
  left = λ line old said new h. nothing_changed line old.cabinet.files old.holding said old.disk new.disk;
  stores = λ line old reply new h. with_suspended old.holding _ (StoresNone old.cabinet new.cabinet) (λ kept is row. unstored_reply _ _ old reply new (resume_row line words kept) row) h;
}
