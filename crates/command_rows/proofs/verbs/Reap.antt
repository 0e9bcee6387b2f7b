-- That `reap` is lawful.
use Rattle.std.proofs.Common.{Err, List, None, Ok, Option, Result, Some, ap, arith, refl, subst, sym, ℕ, ◌∙◌, ◌≡◌, ◌≤◌}
use Rattle.bio_queue.specs.declared.faults.ReapFault.TheVariants as reap
use Rattle.command_words.specs.declared.commands.Command.TheVariants as commands
use Rattle.eli_base.specs.declared.refusals.Refusal.TheVariants as refusals
use Rattle.command_rows.specs.Rows.{AsksToReap, AttachedWith, Attachment, HasReadFault, IsAttached, QueueRefuses, Reach, reaped_or}
use Rattle.command_rows.specs.Vocabulary.{Command, DiskState, HasBadUnit, IsNotDone, ReapAnswers, ReapFault, Reaped, Refusal, Request, Span, left_of, request_with}
use Rattle.command_rows.specs.verbs.Reap.{FitsReap, ReapRow, ReapsRequest, reap_answer}
use Rattle.command_rows.proofs.QueueingCauses.{has_none, needs_why}
use Rattle.command_rows.proofs.QueueingEvents.{quiet_needs}
use Rattle.command_rows.proofs.QueueingFits.{is_served, one_request}
use Rattle.command_rows.proofs.VerbLaws.{Becomes, Counts, HoldsSame, IsLawful, Quiet, RulesOut, SoundReply, StoresNone, UncountedAnswer, Unstored, Why, attached_quiet, attached_reply, attached_why, false_is_true, holds_next, holds_same, needs, needs_counts, needs_same, never_both, never_holds, nothing_changed, queue_holds, quiet_then, reaped_replying, refused_by, request_unstored, same_files, same_quiet, same_then_why, then_counts, uncounted_step, unstored_reply, unstored_then, with_attached}

reap_uncounted : (tag : ℕ) (after : List ℕ) (given : Result Reaped ReapFault) → UncountedAnswer (reap_answer tag after given)
reap_uncounted tag after (Ok given) = tt
reap_uncounted tag after (Err reap.NoRequest) = tt
reap_uncounted tag after (Err (reap.NotDone left)) = tt
reap_uncounted tag after (Err (reap.Integrity offset)) = tt

reaps_count : (a : Attachment) (tag : ℕ) → Counts (ReapsRequest a tag)
reaps_count a tag old answer new h =
    uncounted_step old answer new (subst (λ (r : Result (Option (List ℕ)) Refusal). UncountedAnswer r) (sym h.answered) (reap_uncounted tag h.after h.given)) (ap (λ (r : Reach). r.cabinet) h.left) (ap (λ (r : Reach). r.entropy) h.left)

reap_counts : (tag : ℕ) (a : Attachment) → Counts (ReapRow tag a)
reap_counts tag a = then_counts (needs_counts a tag) (λ done. reaps_count a tag)

reap_holds : (tag : ℕ) (a : Attachment) (old : Reach) (answer : Result (Option (List ℕ)) Refusal) (new : Reach) → old.holding ≡ IsAttached a → ReapRow tag a old answer new → HoldsSame a new.holding
reap_holds tag a old answer new is h =
    holds_next a (λ _. ReapsRequest a tag) h.given h.middle answer new (ap (λ (r : Reach). r.holding) (needs_same a tag old h.given h.middle h.first) ∙ is)
    (λ done next. queue_holds a new next.queue (ap (λ (r : Reach). r.holding) next.left)) h.next

quiet_reap_row : (tag : ℕ) (a : Attachment) → Quiet (ReapRow tag a)
quiet_reap_row tag a =
    quiet_then (quiet_needs a tag) (λ done old answer new h. same_quiet _ new h.left)

given_why : (line : List ℕ) (prov : Span) (tag : ℕ) (a : Attachment) (queue : List Request) (before after : List ℕ) (old : Reach) (given : Result Reaped ReapFault) (new : Reach) → old.holding ≡ IsAttached a
    → ReapAnswers a.keying tag a.queue queue before after given → Why line (commands.Reap prov tag) old (reap_answer tag after given) new
given_why line prov tag a queue before after old (Ok given) new is h = tt
given_why line prov tag a queue before after old (Err reap.NoRequest) new is h = rw is (refl, has_none a tag old.disk h.0)
given_why line prov tag a queue before after old (Err (reap.NotDone left)) new is h = rw is (refl, h.0)
given_why line prov tag a queue before after old (Err (reap.Integrity offset)) new is h =
    rw is (record { request = h.0.request; found = h.0.found; none = h.0.none; bad = h.0.gives })

reaps_why : (line : List ℕ) (prov : Span) (tag : ℕ) (a : Attachment) (old : Reach) (answer : Result (Option (List ℕ)) Refusal) (new : Reach) → old.holding ≡ IsAttached a → ReapsRequest a tag old answer new
    → Why line (commands.Reap prov tag) old answer new
reaps_why line prov tag a old answer new is h =
    subst (λ (r : Result (Option (List ℕ)) Refusal). Why line (commands.Reap prov tag) old r new) (sym h.answered) (given_why line prov tag a h.queue h.before h.after old h.given new is h.reaps)

reap_why : (line : List ℕ) (prov : Span) (tag : ℕ) (a : Attachment) (old : Reach) (answer : Result (Option (List ℕ)) Refusal) (new : Reach) → old.holding ≡ IsAttached a → ReapRow tag a old answer new
    → Why line (commands.Reap prov tag) old answer new
reap_why line prov tag a old answer new is h =
    let command : Command = commands.Reap prov tag in
    same_then_why line command old answer new h (λ done middle first. first.1) (λ given middle. needs_why line command a tag old given middle is (λ none. (refl, none)))
    (λ done first next. reaps_why line prov tag a old answer new is next)

some_left : (a : Attachment) (tag named left : ℕ) (r : Request) → tag ≡ named → request_with named a.queue ≡ Some r → left_of r ≡ 0 → IsNotDone tag left a.queue → ⊥
some_left a tag named left r same found none h =
    let at : request_with named a.queue ≡ Some h.request = subst (λ (t : ℕ). request_with t a.queue ≡ Some h.request) same h.found in
    let is = one_request (request_with named a.queue) r h.request found at in
    let rest : left ≡ left_of r = subst (λ (x : Request). left ≡ left_of x) is h.rest in
    let some : 1 ≤ left = h.some in
    omega arith

reap_found : (tag : ℕ) (disk : DiskState) (refusal : Refusal) (a : Attachment) → FitsReap tag disk a → QueueRefuses (AsksToReap tag) disk refusal a → ⊥
reap_found tag disk (refusals.NoRequest named) a f h = is_served a named tag disk f.request h.0 f.found f.is_of h.1
reap_found tag disk (refusals.RequestNotDone named left) a f h = some_left a named tag left f.request h.0 f.found f.none h.1
reap_found tag disk refusal a f h = absurd h

reap_right : (tag : ℕ) (disk : DiskState) (offset : ℕ) (a : Attachment) → FitsReap tag disk a → HasReadFault tag offset a → ⊥
reap_right tag disk offset a f h =
    let is = one_request (request_with tag a.queue) f.request h.request f.found h.found in
    f.right offset (subst (λ (r : Request). HasBadUnit a.keying r.job r.device offset) is h.bad)

reap_out : (line : List ℕ) (prov : Span) (tag : ℕ) (old : Reach) → refused_by (needs (commands.Reap prov tag)) old.holding ≡ None → AttachedWith old.holding (FitsReap tag old.disk) → RulesOut line (commands.Reap prov tag) old
reap_out line prov tag old gate f = record {
  gate = gate;
  readonly = λ writes h. false_is_true writes;
  range = λ first many there h. never_holds _ old.holding (λ a over. over.asked) h;
  bytes = λ given size h. never_holds _ old.holding (λ a bad. bad.asked) h;
  faults = λ offset h. never_both _ _ old.holding f (λ a fits fault. reap_right tag old.disk offset a fits fault) h;
  requests = λ refusal h. never_both _ _ old.holding f (λ a fits found. reap_found tag old.disk refusal a fits found) h;
  files = λ refusal cabinet h. h;
  ground = λ refusal h. h;
}

reaping_unstored : (a : Attachment) (tag : ℕ) → Unstored (ReapsRequest a tag)
reaping_unstored a tag old answer new h = same_files old.cabinet new.cabinet (ap (λ (r : Reach). r.cabinet) h.left)

reap_row : (tag : ℕ) (a : Attachment) → Unstored (ReapRow tag a)
reap_row tag a = unstored_then (request_unstored a tag) (λ done. reaping_unstored a tag)

pub reap_lawful : (prov : Span) (tag : ℕ) → IsLawful (commands.Reap prov tag)
reap_lawful prov tag = record {
  why = λ line old refusal new h. attached_why line (commands.Reap prov tag) reaped_or (ReapRow tag) old refusal new reaped_replying (λ a answer is row. reap_why line prov tag a old answer new is row) h;
  did = λ line old said new h. attached_quiet reaped_or (ReapRow tag) old said new reaped_replying (quiet_reap_row tag) h;
  sound = λ line old reply new h. with_attached old.holding _ (SoundReply old reply new) (λ a is row. attached_reply reaped_or _ a old reply new reaped_replying (reap_counts tag a) is row (reap_holds tag a old row.answer new is row.row)) h;
  out = λ line old gate f. reap_out line prov tag old gate f;
  tags = λ line old f needs h. false_is_true needs;
  becomes = λ line old said new gate h.
      with_attached old.holding _ (Becomes line (commands.Reap prov tag) old said new)
      (λ a is row. holds_same line (commands.Reap prov tag) refl a old said new is (reap_holds tag a old row.answer new is row.row)) h;
  keeps = λ line old reply new gate other h. absurd (let none : ⊥ = cc other in none);
  left = λ line old said new h. nothing_changed line old.cabinet.files old.holding said old.disk new.disk;
  stores = λ line old reply new h. with_attached old.holding _ (StoresNone old.cabinet new.cabinet) (λ a is row. unstored_reply _ _ old reply new (reap_row tag a) row) h;
}
