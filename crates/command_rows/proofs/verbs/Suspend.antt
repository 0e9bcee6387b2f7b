-- That `suspend` is lawful.
use Rattle.std.proofs.Common.{Err, List, None, Ok, Result, [], ap, arith, false, inl, inr, length, refl, subst, sym, ℕ, ◌∙◌, ◌∷◌, ◌≡◌, ◌≤◌, ◌⊎◌}
use Rattle.block_traits.specs.declared.disk.Event.TheVariants.{Flush}
use Rattle.command_words.specs.declared.commands.Command.TheVariants as commands
use Rattle.eli_base.specs.declared.refusals.Refusal.TheVariants as refusals
use Rattle.command_rows.specs.Rows.{Answer, AsksForNone, AttachedWith, Attachment, DoesEvents, GoesOn, HoldsKeying, IsAttached, IsSuspended, QueueRefuses, Reach, attachment_in, done_or}
use Rattle.command_rows.specs.Vocabulary.{Command, DiskState, FailsIn, Logs, Refusal, Request, Span}
use Rattle.command_rows.specs.verbs.Suspend.{NeedsNoRequests, SuspendRow, Suspends, if_none_open, kept_by}
use Rattle.command_rows.proofs.VerbLaws.{Becomes, Counts, Did, IsLawful, KeepsRequests, RulesOut, Sound, SoundReply, Still, StoresNone, UncountedAnswer, Unstored, Why, attached_did, attached_why, becomes_as, did_then, does_did, does_uncounted, done_replying, events_why, false_is_true, needs, never_both, never_holds, nothing_changed, refused_by, same_files, same_quiet, same_reach, same_then_why, sound_reply, sound_then, still_decision, still_sound, uncounted_step, unstored_reply, unstored_then, with_attached}

suspending_counts : (a : Attachment) → Counts (Suspends a)
suspending_counts a old answer new h = uncounted_step old answer new (does_uncounted (Flush ∷ []) old.disk answer new.disk h.flushes) h.outside.cabinet h.outside.entropy

open_uncounted : (queue : List Request) → UncountedAnswer (if_none_open queue)
open_uncounted [] = tt
open_uncounted (r ∷ queue) = tt

none_open_still : (a : Attachment) → Still (NeedsNoRequests a)
none_open_still a = still_decision (λ r. if_none_open a.queue) (λ r. open_uncounted a.queue)

suspends_sound : (a : Attachment) → Sound (Suspends a)
suspends_sound a = record { counts = suspending_counts a; keeps = λ old answer new h had. subst HoldsKeying (sym h.holding) tt }

suspend_sound : (a : Attachment) → Sound (SuspendRow a)
suspend_sound a = sound_then (still_sound (none_open_still a)) (λ done. suspends_sound a)

open_why : (line : List ℕ) (prov : Span) (a : Attachment) (queue : List Request) (old middle : Reach) → old.holding ≡ IsAttached a → a.queue ≡ queue → Why line (commands.Suspend prov) old (if_none_open queue) middle
open_why line prov a [] old middle is are = tt
open_why line prov a (r ∷ queue) old middle is are = let some : 1 ≤ length (r ∷ queue) = omega arith in rw is (ap length (sym are), some)

suspend_why : (line : List ℕ) (prov : Span) (a : Attachment) (old : Reach) (answer : Result (Unit {0}) Refusal) (new : Reach) → old.holding ≡ IsAttached a → SuspendRow a old answer new → Why line (commands.Suspend prov) old answer new
suspend_why line prov a old answer new is h =
    let command : Command = commands.Suspend prov in
    same_then_why line command old answer new h (λ done middle first. first.1)
    (λ given middle first. subst (λ (r : Result (Unit {0}) Refusal). Why line command old r middle) (sym first.0) (open_why line prov a a.queue old middle is refl))
    (λ done first next. events_why line command (Flush ∷ []) old answer new next.flushes)

suspends_did : (a : Attachment) (old : Reach) (answer : Result (Unit {0}) Refusal) (new : Reach) → SuspendRow a old answer new → Did (λ events. events ≡ Flush ∷ []) false old.disk answer new.disk
suspends_did a old answer new h =
    did_then (λ events. events ≡ Flush ∷ []) false old answer new h (λ old given new h. same_quiet old new h.1)
    (λ done middle first next. does_did (Flush ∷ []) false middle.disk answer new.disk next.flushes)

flushed_or_failed : (old : DiskState) (answer : Result (Unit {0}) Refusal) (new : DiskState) → DoesEvents (Flush ∷ []) old answer new → Logs (Flush ∷ []) old new ⊎ FailsIn (Flush ∷ []) old new
flushed_or_failed old (Ok done) new h = inl h
flushed_or_failed old (Err refusals.DeviceFault) new h = inr h
flushed_or_failed old (Err refusal) new h = absurd h

flushed_by : (line : List ℕ) (prov : Span) (a : Attachment) (old : Reach) (answer : Result (Unit {0}) Refusal) (said : Answer) (new : Reach) → old.holding ≡ IsAttached a → Suspends a old answer new
    → Becomes line (commands.Suspend prov) old said new
flushed_by line prov a old answer said new was h =
    becomes_as line _ old said new (IsSuspended (kept_by a old.disk)) h.holding (inr (record { prov = prov; said = refl; a = a; was = was; keeps = refl; flushes = flushed_or_failed old.disk answer new.disk h.flushes }))

suspended_so : (line : List ℕ) (prov : Span) (a : Attachment) (given : Result (Unit {0}) Refusal) (old middle : Reach) (answer : Result (Unit {0}) Refusal) (said : Answer) (new : Reach) → old.holding ≡ IsAttached a
    → NeedsNoRequests a old given middle → GoesOn (λ _. Suspends a) given middle answer new → Becomes line (commands.Suspend prov) old said new
suspended_so line prov a (Ok done) old middle answer said new was first h = flushed_by line prov a old answer said new was (subst (λ (r : Reach). Suspends a r answer new) first.1 h)
suspended_so line prov a (Err refusal) old middle answer said new was first h =
    becomes_as line _ old said new (IsAttached a) (same_reach middle new h.1 ∙ same_reach old middle first.1 ∙ was) (inl (record { before = a; was = was; slot = refl; keying = refl; readonly = refl; queue = λ same. refl }))

suspended_by : (line : List ℕ) (prov : Span) (a : Attachment) (old : Reach) (answer : Result (Unit {0}) Refusal) (said : Answer) (new : Reach) → old.holding ≡ IsAttached a → SuspendRow a old answer new
    → Becomes line (commands.Suspend prov) old said new
suspended_by line prov a old answer said new was h = suspended_so line prov a h.given old h.middle answer said new was h.first h.next

none_open : (disk : DiskState) (refusal : Refusal) (a : Attachment) → a.queue ≡ [] → QueueRefuses AsksForNone disk refusal a → ⊥
none_open disk (refusals.RequestsOpen count) a none h = let none_there : count ≡ 0 = h.0 ∙ ap length none in omega (arith, none_there, h.1)
none_open disk refusal a none h = h

suspend_out : (line : List ℕ) (prov : Span) (old : Reach) → refused_by (needs (commands.Suspend prov)) old.holding ≡ None → AttachedWith old.holding (λ a. a.queue ≡ []) → RulesOut line (commands.Suspend prov) old
suspend_out line prov old gate f = record {
  gate = gate;
  readonly = λ writes h. false_is_true writes;
  range = λ first many there h. never_holds _ old.holding (λ a over. over.asked) h;
  bytes = λ given size h. never_holds _ old.holding (λ a bad. bad.asked) h;
  faults = λ offset h. never_holds _ old.holding (λ a fault. fault) h;
  requests = λ refusal h. never_both _ _ old.holding f (λ a none found. none_open old.disk refusal a none found) h;
  files = λ refusal cabinet h. h;
  ground = λ refusal h. h;
}

suspending_unstored : (a : Attachment) → Unstored (Suspends a)
suspending_unstored a old answer new h = same_files old.cabinet new.cabinet h.outside.cabinet

suspend_row : (a : Attachment) → Unstored (SuspendRow a)
suspend_row a = unstored_then (none_open_still a).unstored (λ done. suspending_unstored a)

-- `suspend`, if no request is open
suspend_keeps : (a : Attachment) (old : Reach) (given : Result (Unit {0}) Refusal) (middle : Reach) (answer : Result (Unit {0}) Refusal) (new : Reach) → NeedsNoRequests a old given middle → GoesOn (λ _. Suspends a) given middle answer new
    → KeepsRequests old.holding new.holding
suspend_keeps a old (Ok done) middle answer new first h = inr (inl (ap attachment_in h.holding))
suspend_keeps a old (Err refusal) middle answer new first h = inl (same_reach middle new h.1 ∙ same_reach old middle first.1)

pub suspend_lawful : (prov : Span) → IsLawful (commands.Suspend prov)
suspend_lawful prov = record {
  why = λ line old refusal new h. attached_why line (commands.Suspend prov) done_or (SuspendRow) old refusal new done_replying (λ a answer is row. suspend_why line prov a old answer new is row) h;
  did = λ line old said new h. attached_did done_or (SuspendRow) (λ x events. events ≡ Flush ∷ []) old said new done_replying (λ a answer row. suspends_did a old answer new row) h;
  sound = λ line old reply new h. with_attached old.holding _ (SoundReply old reply new) (λ a is row. sound_reply done_or _ old reply new done_replying (suspend_sound a) row) h;
  out = λ line old gate f. suspend_out line prov old gate f;
  tags = λ line old f needs h. false_is_true needs;
  becomes = λ line old said new gate h. with_attached old.holding _ (Becomes line (commands.Suspend prov) old said new) (λ a is row. suspended_by line prov a old row.answer said new is row.row) h;
  keeps = λ line old reply new gate other h. with_attached old.holding _ (KeepsRequests old.holding new.holding) (λ a is row. suspend_keeps a old row.row.given row.row.middle row.answer new row.row.first row.row.next) h;
  left = λ line old said new h. nothing_changed line old.cabinet.files old.holding said old.disk new.disk;
  stores = λ line old reply new h. with_attached old.holding _ (StoresNone old.cabinet new.cabinet) (λ a is row. unstored_reply _ _ old reply new (suspend_row a) row) h;
}
