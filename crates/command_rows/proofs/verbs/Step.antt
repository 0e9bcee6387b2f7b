-- That `step` is lawful.
use Rattle.std.proofs.Common.{Err, List, None, Ok, Result, Some, ap, arith, false, refl, subst, sym, ℕ, ◌∙◌, ◌≡◌, ◌≤◌}
use Rattle.bio_queue.specs.declared.faults.StepFault.TheVariants as step
use Rattle.command_words.specs.declared.commands.Command.TheVariants as commands
use Rattle.eli_base.specs.declared.refusals.Refusal.TheVariants as refusals
use Rattle.command_rows.specs.Rows.{AsksToStep, AttachedWith, Attachment, IsAttached, QueueRefuses, Reach, left_or, or_refusal}
use Rattle.command_rows.specs.Vocabulary.{Command, DiskState, IsAllDone, Refusal, Request, Span, StepAnswers, StepFault, left_of, request_with, step_events}
use Rattle.command_rows.specs.verbs.Step.{DoesNext, FitsStep, StepRow, StepsRequest, next_events, step_refusal}
use Rattle.command_rows.proofs.QueueingCauses.{has_none, needs_why}
use Rattle.command_rows.proofs.QueueingEvents.{quiet_needs}
use Rattle.command_rows.proofs.QueueingFits.{is_served, one_request}
use Rattle.command_rows.proofs.VerbLaws.{Becomes, Counts, Did, HoldsSame, IsLawful, RulesOut, SoundReply, StoresNone, UncountedAnswer, Unstored, Why, attached_did, attached_reply, attached_why, did_then, false_is_true, holds_next, holds_same, left_replying, needs, needs_counts, needs_same, never_both, never_holds, nothing_changed, nothing_done, part_did, queue_holds, refused_by, request_unstored, same_disk, same_files, same_then_why, then_counts, uncounted_step, unstored_reply, unstored_then, with_attached}

step_uncounted : (tag : ℕ) (left : Result ℕ StepFault) → UncountedAnswer (or_refusal (step_refusal tag) left)
step_uncounted tag (Ok left) = tt
step_uncounted tag (Err step.NoRequest) = tt
step_uncounted tag (Err step.AllDone) = tt
step_uncounted tag (Err step.DeviceFault) = tt

steps_count : (a : Attachment) (tag : ℕ) → Counts (StepsRequest a tag)
steps_count a tag old answer new h = uncounted_step old answer new (subst (λ (r : Result ℕ Refusal). UncountedAnswer r) (sym h.answered) (step_uncounted tag h.left)) h.outside.cabinet h.outside.entropy

step_counts : (tag : ℕ) (a : Attachment) → Counts (StepRow tag a)
step_counts tag a = then_counts (needs_counts a tag) (λ done. steps_count a tag)

step_holds : (tag : ℕ) (a : Attachment) (old : Reach) (answer : Result ℕ Refusal) (new : Reach) → old.holding ≡ IsAttached a → StepRow tag a old answer new → HoldsSame a new.holding
step_holds tag a old answer new is h =
    holds_next a (λ _. StepsRequest a tag) h.given h.middle answer new (ap (λ (r : Reach). r.holding) (needs_same a tag old h.given h.middle h.first) ∙ is) (λ done next. queue_holds a new next.queue next.holding) h.next

are_next : (tag : ℕ) (queue : List Request) (r : Request) → request_with tag queue ≡ Some r → step_events r ≡ next_events tag queue
are_next tag queue r is = rw is refl

left_did : (a : Attachment) (tag : ℕ) (queue : List Request) (old : DiskState) (left : Result ℕ StepFault) (new : DiskState) → StepAnswers tag a.queue queue old new left → Did (DoesNext (IsAttached a) tag) false old (or_refusal (step_refusal tag) left) new
left_did a tag queue old (Ok left) new h = record { events = step_events h.request; logs = h.logs; are = are_next tag a.queue h.request h.found }
left_did a tag queue old (Err step.NoRequest) new h = nothing_done (DoesNext (IsAttached a) tag) false (refusals.NoRequest tag) old new (same_disk old new h.2)
left_did a tag queue old (Err step.AllDone) new h = nothing_done (DoesNext (IsAttached a) tag) false (refusals.RequestDone tag) old new (same_disk old new h.2)
left_did a tag queue old (Err step.DeviceFault) new h = part_did (DoesNext (IsAttached a) tag) false (step_events h.request) old new h.fails (are_next tag a.queue h.request h.found)

steps_did : (a : Attachment) (tag : ℕ) (old : Reach) (answer : Result ℕ Refusal) (new : Reach) → StepsRequest a tag old answer new → Did (DoesNext (IsAttached a) tag) false old.disk answer new.disk
steps_did a tag old answer new h =
    subst (λ (r : Result ℕ Refusal). Did (DoesNext (IsAttached a) tag) false old.disk r new.disk) (sym h.answered) (left_did a tag h.queue old.disk h.left new.disk h.steps)

step_did : (tag : ℕ) (a : Attachment) (old : Reach) (answer : Result ℕ Refusal) (new : Reach) → StepRow tag a old answer new → Did (DoesNext (IsAttached a) tag) false old.disk answer new.disk
step_did tag a old answer new h =
    did_then (DoesNext (IsAttached a) tag) false old answer new h (quiet_needs a tag)
    (λ done middle first next. steps_did a tag middle answer new next)

left_why : (line : List ℕ) (prov : Span) (tag : ℕ) (a : Attachment) (queue : List Request) (old : Reach) (left : Result ℕ StepFault) (new : Reach) → old.holding ≡ IsAttached a
    → StepAnswers tag a.queue queue old.disk new.disk left → Why line (commands.Step prov tag) old (or_refusal (step_refusal tag) left) new
left_why line prov tag a queue old (Ok left) new is h = tt
left_why line prov tag a queue old (Err step.NoRequest) new is h = rw is (refl, has_none a tag old.disk h.0)
left_why line prov tag a queue old (Err step.AllDone) new is h = rw is (refl, h.0)
left_why line prov tag a queue old (Err step.DeviceFault) new is h = h.fails.rose

steps_why : (line : List ℕ) (prov : Span) (tag : ℕ) (a : Attachment) (old : Reach) (answer : Result ℕ Refusal) (new : Reach) → old.holding ≡ IsAttached a → StepsRequest a tag old answer new
    → Why line (commands.Step prov tag) old answer new
steps_why line prov tag a old answer new is h =
    subst (λ (r : Result ℕ Refusal). Why line (commands.Step prov tag) old r new) (sym h.answered) (left_why line prov tag a h.queue old h.left new is h.steps)

step_why : (line : List ℕ) (prov : Span) (tag : ℕ) (a : Attachment) (old : Reach) (answer : Result ℕ Refusal) (new : Reach) → old.holding ≡ IsAttached a → StepRow tag a old answer new
    → Why line (commands.Step prov tag) old answer new
step_why line prov tag a old answer new is h =
    let command : Command = commands.Step prov tag in
    same_then_why line command old answer new h (λ done middle first. first.1) (λ given middle. needs_why line command a tag old given middle is (λ none. (refl, none)))
    (λ done first next. steps_why line prov tag a old answer new is next)

none_left : (a : Attachment) (tag named : ℕ) (r : Request) → tag ≡ named → request_with named a.queue ≡ Some r → 1 ≤ left_of r → IsAllDone tag a.queue → ⊥
none_left a tag named r same found more h =
    let at : request_with named a.queue ≡ Some h.request = subst (λ (t : ℕ). request_with t a.queue ≡ Some h.request) same h.found in
    let is = one_request (request_with named a.queue) r h.request found at in
    let none : left_of r ≡ 0 = subst (λ (x : Request). left_of x ≡ 0) is h.none in
    omega arith

step_found : (tag : ℕ) (disk : DiskState) (refusal : Refusal) (a : Attachment) → FitsStep tag disk a → QueueRefuses (AsksToStep tag) disk refusal a → ⊥
step_found tag disk (refusals.NoRequest named) a f h = is_served a named tag disk f.request h.0 f.found f.is_of h.1
step_found tag disk (refusals.RequestDone named) a f h = none_left a named tag f.request h.0 f.found f.more h.1
step_found tag disk refusal a f h = absurd h

step_out : (line : List ℕ) (prov : Span) (tag : ℕ) (old : Reach) → refused_by (needs (commands.Step prov tag)) old.holding ≡ None → AttachedWith old.holding (FitsStep tag old.disk) → RulesOut line (commands.Step prov tag) old
step_out line prov tag old gate f = record {
  gate = gate;
  readonly = λ writes h. false_is_true writes;
  range = λ first many there h. never_holds _ old.holding (λ a over. over.asked) h;
  bytes = λ given size h. never_holds _ old.holding (λ a bad. bad.asked) h;
  faults = λ offset h. never_holds _ old.holding (λ a fault. fault) h;
  requests = λ refusal h. never_both _ _ old.holding f (λ a fits found. step_found tag old.disk refusal a fits found) h;
  files = λ refusal cabinet h. h;
  ground = λ refusal h. h;
}

stepping_unstored : (a : Attachment) (tag : ℕ) → Unstored (StepsRequest a tag)
stepping_unstored a tag old answer new h = same_files old.cabinet new.cabinet h.outside.cabinet

step_row : (tag : ℕ) (a : Attachment) → Unstored (StepRow tag a)
step_row tag a = unstored_then (request_unstored a tag) (λ done. stepping_unstored a tag)

pub step_lawful : (prov : Span) (tag : ℕ) → IsLawful (commands.Step prov tag)
step_lawful prov tag = record {
  why = λ line old refusal new h. attached_why line (commands.Step prov tag) left_or (StepRow tag) old refusal new left_replying (λ a answer is row. step_why line prov tag a old answer new is row) h;
  did = λ line old said new h. attached_did left_or (StepRow tag) (λ x. DoesNext x tag) old said new left_replying (λ a answer row. step_did tag a old answer new row) h;
  sound = λ line old reply new h. with_attached old.holding _ (SoundReply old reply new) (λ a is row. attached_reply left_or _ a old reply new left_replying (step_counts tag a) is row (step_holds tag a old row.answer new is row.row)) h;
  out = λ line old gate f. step_out line prov tag old gate f;
  tags = λ line old f needs h. false_is_true needs;
  becomes = λ line old said new gate h.
      with_attached old.holding _ (Becomes line (commands.Step prov tag) old said new)
      (λ a is row. holds_same line (commands.Step prov tag) refl a old said new is (step_holds tag a old row.answer new is row.row)) h;
  keeps = λ line old reply new gate other h. absurd (let none : ⊥ = cc other in none);
  left = λ line old said new h. nothing_changed line old.cabinet.files old.holding said old.disk new.disk;
  stores = λ line old reply new h. with_attached old.holding _ (StoresNone old.cabinet new.cabinet) (λ a is row. unstored_reply _ _ old reply new (step_row tag a) row) h;
}
