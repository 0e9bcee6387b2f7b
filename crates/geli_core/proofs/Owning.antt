-- The requests that are open on a drawer are of its provider, whatever lines are served.
use Rattle.std.proofs.Common.{◌≡◌, ◌∙◌, inl, inr, ℕ, ◌*◌, List, [], ◌∷◌, ap, refl, sym, subst, Option, None, Some, Result, Ok, Err, slice_get, ◌↔◌, IfSome, IsSomeAnd}
use Rattle.bio_queue.specs.declared.faults.ReapFault.TheVariants as reap
use Rattle.bio_queue.specs.declared.faults.StepFault.TheVariants as step
use Rattle.bio_queue.proofs.Owned.{reap_keeps, served, step_keeps, submit_keeps}
use Rattle.command_rows.specs.Rows.{Answer, AttachedWith, Attachment, DrawerState, GoesOn, HasRequest, HoldKeyings, Holding, HoldsKeying, IsAttached, NeedsRequest, Reach, World, attachment_in, or_refusal, with_queue}
use Rattle.command_rows.specs.Vocabulary.{AreAllOf, Command, DiskState, IsKeying, IsOf, JobWords, ReapAnswers, ReapFault, Reaped, Refusal, Request, Span, StepAnswers, StepFault, media, media_sectors, request_with}
use Rattle.command_words.specs.declared.commands.Command.TheVariants as commands
use Rattle.eli_base.specs.declared.refusals.Refusal.TheVariants as refusals
use Rattle.reply_text.specs.Answer as answers
use Rattle.command_rows.proofs.Gate.{by_gate, with_attached}
use Rattle.command_rows.proofs.Lines.{line_did}
use Rattle.command_rows.proofs.Turns.{by_each_turn}
use Rattle.geli_core.specs.Requests.{HaveNoRequests, HoldOwn, HoldsOwn, LacksTag}
use Rattle.geli_core.specs.Run.{ServesReading}
use Rattle.geli_core.specs.Trace.{Run, ServedLine}
use Rattle.geli_core.specs.Survivors.{HasNoRequests}
use Rattle.geli_core.specs.Vocabulary.{ChangesAt, GoesThrough, ReapRow, ReapsRequest, Replies, Sep, Serves, StepRow, StepsRequest, SubmitRow, TakesOutDrawer, Turn, Usage, left_or, line_reading, needs, reach, reap_answer, reaped_or, refused_by, step_refusal}
use Rattle.geli_core.proofs.Drawn.{here_or}
use Rattle.command_rows.proofs.Keeping.{KeepsRequests}
use Rattle.geli_core.proofs.Holdings.{serves_keeps}
use Rattle.geli_core.proofs.Keyings.{among_removed, line_keeps, put_back}
use Rattle.geli_core.proofs.Playing.{keyed_by}
use Rattle.geli_core.proofs.Requested.{reap_asks, step_asks, submit_asks}

-- ---- a line that names the drawer

same_size : (holding : Holding) (d new : DiskState) → new.size ≡ d.size → HoldsOwn holding d → HoldsOwn holding new
same_size holding d new same own = by (attachment_in holding) own
  where
    by : (found : Option Attachment) → IfSome found (λ a. AreAllOf a.keying (media a.keying d) a.queue) → IfSome found (λ a. AreAllOf a.keying (media a.keying new) a.queue)
    by None h = tt
    by (Some a) h = subst (λ (n : ℕ). AreAllOf a.keying (media_sectors a.keying.auth a.keying.sectorsize (512 * n)) a.queue) (sym same) h

others_own : (old new : Holding) (d d' : DiskState) → KeepsRequests old new → d'.size ≡ d.size → HoldsOwn old d → HoldsOwn new d'
others_own old new d d' (inl same) size own = subst (λ (h : Holding). HoldsOwn h d') (sym same) (same_size old d d' size own)
others_own old new d d' (inr (inl none)) size own = subst (λ (o : Option Attachment). IfSome o (λ a. AreAllOf a.keying (media a.keying d') a.queue)) (sym none) tt
others_own old new d d' (inr (inr (none, anew))) size own =
    subst (λ (h : Holding). HoldsOwn h d') (sym anew.is) (subst (AreAllOf anew.attachment.keying (media anew.attachment.keying d')) (sym anew.none) tt)

own_of : (a : Attachment) (holding : Holding) (d : DiskState) → holding ≡ IsAttached a → HoldsOwn holding d → AreAllOf a.keying (media a.keying d) a.queue
own_of a holding d is own = subst (λ (h : Holding). HoldsOwn h d) is own

owned : (b : Attachment) (holding : Holding) (d : DiskState) → holding ≡ IsAttached b → AreAllOf b.keying (media b.keying d) b.queue → HoldsOwn holding d
owned b holding d is own = subst (λ (h : Holding). HoldsOwn h d) (sym is) own

unchanged_own : (old new : Reach) → new ≡ old → HoldsOwn old.holding old.disk → HoldsOwn new.holding new.disk
unchanged_own old new same own = subst (λ (r : Reach). HoldsOwn r.holding r.disk) (sym same) own

submit_own : (line : List ℕ) (asked : JobWords) (a : Attachment) (old : Reach) (answer : Result ℕ Refusal) (new : Reach) → old.holding ≡ IsAttached a → IsKeying a.keying → SubmitRow line asked a old answer new → HoldsOwn old.holding old.disk → HoldsOwn new.holding new.disk
submit_own line asked a old answer new is keyed row own =
    elim (submit_asks line asked a old answer new keyed row) [
      | inl refusal ↦ unchanged_own old new refusal.unchanged own
      | inr asks ↦
          let s = asks.submits in
          let all = submit_keeps a.keying a.readonly old.disk asks.job asks.from a.queue s.queue s.tag asks.is_asked s.submits (own_of a old.holding old.disk is own) in
          unchanged_own (record { disk = old.disk; holding = IsAttached (with_queue s.queue a); cabinet = old.cabinet; entropy = old.entropy }) new s.left all
    ]

step_own : (tag : ℕ) (a : Attachment) (old : Reach) (answer : Result ℕ Refusal) (new : Reach) → old.holding ≡ IsAttached a → StepRow tag a old answer new → HoldsOwn old.holding old.disk → HoldsOwn new.holding new.disk
step_own tag a old answer new is row own =
    elim (step_asks tag a old answer new row) [
      | inl none ↦ unchanged_own old new none.unchanged own
      | inr s ↦ owned (with_queue s.queue a) new.holding new.disk s.holding (step_keeps a.keying tag a.queue s.queue old.disk new.disk s.left s.steps (own_of a old.holding old.disk is own))
    ]

reap_own : (tag : ℕ) (a : Attachment) (old : Reach) (answer : Result (Option (List ℕ)) Refusal) (new : Reach) → old.holding ≡ IsAttached a → ReapRow tag a old answer new → HoldsOwn old.holding old.disk → HoldsOwn new.holding new.disk
reap_own tag a old answer new is row own =
    elim (reap_asks tag a old answer new row) [
      | inl none ↦ unchanged_own old new none.unchanged own
      | inr r ↦
          unchanged_own (record { disk = old.disk; holding = IsAttached (with_queue r.queue a); cabinet = old.cabinet; entropy = old.entropy }) new r.left
          (reap_keeps a.keying (media a.keying old.disk) tag a.queue r.queue r.before r.after r.given r.reaps (own_of a old.holding old.disk is own))
    ]

serves_own : (line : List ℕ) (command : Command) (old : Reach) (said : Answer) (new : Reach) → Serves line command old said new → HoldsKeying old.holding → HoldsOwn old.holding old.disk → HoldsOwn new.holding new.disk
serves_own line (commands.Submit prov job) old said new h keyed own =
    by_gate line (commands.Submit prov job) old said new _
    (λ row. with_attached old.holding _ _ (λ a is through. submit_own line job a old through.answer new is (keyed_by old.holding a is keyed) through.row own) row) (λ refusal is refused. unchanged_own old new refused.unchanged own) h
serves_own line (commands.Step prov tag) old said new h keyed own =
    by_gate line (commands.Step prov tag) old said new _
    (λ row. with_attached old.holding _ _ (λ a is through. step_own tag a old through.answer new is through.row own) row) (λ refusal is refused. unchanged_own old new refused.unchanged own) h
serves_own line (commands.Reap prov tag) old said new h keyed own =
    by_gate line (commands.Reap prov tag) old said new _
    (λ row. with_attached old.holding _ _ (λ a is through. reap_own tag a old through.answer new is through.row own) row) (λ refusal is refused. unchanged_own old new refused.unchanged own) h
serves_own line command old said new h keyed own =
    others_own old.holding new.holding old.disk new.disk (serves_keeps line command old said new refl h) (line_did line command old said new h).logs.size own

-- ---- lines

changed_own : (line : List ℕ) (command : Command) (old : World) (said : Answer) (new : World) (place : ℕ) → ChangesAt (Serves line command) old said new place → HoldKeyings old.drawers → HoldOwn old.drawers → HoldOwn new.drawers
changed_own line command old said new place h keyed all drawer there =
    let one = serves_own line command (reach h.before old) said (reach h.after new) h.step (keyed h.before (place, h.found)) (all h.before (place, h.found)) in
    put_back (λ d. HoldsOwn d.holding d.disk) old.drawers place there.0 h.before h.after drawer all one h.found (ap (λ (ds : List DrawerState). slice_get ds there.0) (sym h.others) ∙ there.1) (here_or place there.0)

all_own : (old new : World) → new ≡ old → HoldOwn old.drawers → HoldOwn new.drawers
all_own old new is all = rw is all

left_own : (old : World) (said : Answer) (new : World) (place : ℕ) → TakesOutDrawer old said new place → HoldOwn old.drawers → HoldOwn new.drawers
left_own old said new place h all = λ drawer there. all drawer (among_removed old.drawers place drawer (there.0, ap (λ (w : World). slice_get w.drawers there.0) (sym h.left) ∙ there.1))

turn_own : (line : List ℕ) (command : Command) (old : World) (said : Answer) (new : World) → Turn line command old said new → HoldKeyings old.drawers → HoldOwn old.drawers → HoldOwn new.drawers
turn_own line command old said new h keyed =
    by_each_turn line command old said new (HoldOwn old.drawers → HoldOwn new.drawers) (λ lists. all_own old new lists.unchanged) (λ unknown. all_own old new unknown.unchanged)
    (λ place left. left_own old said new place left) (λ place changed. changed_own line command old said new place changed keyed) h

read_own : (read : Result (Option Command) Usage) (line : List ℕ) (old : World) (answer : Option Answer) (new : World) → ServesReading read line old answer new → HoldKeyings old.drawers → HoldOwn old.drawers → HoldOwn new.drawers
read_own (Err usage) line old answer new h keyed all = all_own old new h.1 all
read_own (Ok None) line old answer new h keyed all = all_own old new h.1 all
read_own (Ok (Some command)) line old None new h keyed all = absurd h
read_own (Ok (Some command)) line old (Some said) new h keyed all = turn_own line command old said new h keyed all

run_own : (sep : Sep) (lines : List ServedLine) (old new : World) → Run sep old lines new → HoldKeyings old.drawers → HoldOwn old.drawers → HoldOwn new.drawers
run_own sep [] old new run keyed all = all_own old new run.1 all
run_own sep (l ∷ lines) old new run keyed all =
    run_own sep lines l.next new (run.0.1, run.1) (line_keeps sep l.line old l.answer l.next run.0.0 keyed) (read_own (line_reading sep l.line) l.line old l.answer l.next run.0.0 keyed all)

none_own : (holding : Holding) (d : DiskState) → HasNoRequests holding → HoldsOwn holding d
none_own holding d none = by (attachment_in holding) none
  where
    by : (found : Option Attachment) → IfSome found (λ a. a.queue ≡ []) → IfSome found (λ a. AreAllOf a.keying (media a.keying d) a.queue)
    by None h = tt
    by (Some a) h = subst (AreAllOf a.keying (media a.keying d)) (sym h) tt

pub runs_own : (sep : Sep) (lines : List ServedLine) (old new : World) → Run sep old lines new → HoldKeyings old.drawers → HaveNoRequests old.drawers → HoldOwn new.drawers
runs_own sep lines old new run keyed none = run_own sep lines old new run keyed (λ drawer there. none_own drawer.holding drawer.disk (none drawer there))

-- ---- a tag that no request has

lacks_of : (tag : ℕ) (a : Attachment) (holding : Holding) → holding ≡ IsAttached a → LacksTag tag holding → request_with tag a.queue ≡ None
lacks_of tag a holding is h = subst (λ (x : Holding). LacksTag tag x) is h

lacks_at : (tag : ℕ) (a : Attachment) (holding : Holding) → holding ≡ IsAttached a → request_with tag a.queue ≡ None → LacksTag tag holding
lacks_at tag a holding is h = subst (λ (x : Holding). LacksTag tag x) (sym is) h

unserved : (a : Attachment) (tag : ℕ) (d : DiskState) → request_with tag a.queue ≡ None → HasRequest a tag d → ⊥
unserved a tag d none h = subst (λ (o : Option Request). IsSomeAnd o (IsOf a.keying (media a.keying d))) none h

missing : (a : Attachment) (tag : ℕ) (d : DiskState) → AreAllOf a.keying (media a.keying d) a.queue → (HasRequest a tag d → ⊥) → request_with tag a.queue ≡ None
missing a tag d own not = elim (served a.keying (media a.keying d) tag a.queue own) [ inl none ↦ none | inr there ↦ absurd (not there) ]

-- the row is refused by its first step
needs_both : {B : Type 0} (a : Attachment) (tag : ℕ) (Next : Reach → Result B Refusal → Reach → Type 0) (old : Reach) (given : Result (Unit {0}) Refusal) (middle : Reach) (answer : Result B Refusal) (new : Reach)
    → ((start : Reach) → Next start answer new → answer ≡ Err (refusals.NoRequest tag) → request_with tag a.queue ≡ None) → AreAllOf a.keying (media a.keying old.disk) a.queue → NeedsRequest a tag old given middle → GoesOn (λ done. Next) given middle answer new
    → (answer ≡ Err (refusals.NoRequest tag) → request_with tag a.queue ≡ None) × (request_with tag a.queue ≡ None → answer ≡ Err (refusals.NoRequest tag))
needs_both a tag Next old (Ok done) middle answer new refuses own needs h = (refuses middle h, λ none. absurd (unserved a tag old.disk none needs.0))
needs_both a tag Next old (Err (refusals.NoRequest named)) middle answer new refuses own needs h =
    (λ said. missing a tag old.disk own needs.1, λ none. h.0 ∙ ap (λ (n : ℕ). Err (refusals.NoRequest n)) needs.0)
needs_both a tag Next old (Err refusal) middle answer new refuses own needs h = absurd needs

-- a step or a reap of a request isn't refused with `NoRequest` if there is such a request
refuses_step : (a : Attachment) (tag : ℕ) (queue : List Request) (d new : DiskState) (answer : Result ℕ Refusal) (left : Result ℕ StepFault) → answer ≡ or_refusal (step_refusal tag) left → StepAnswers tag a.queue queue d new left → answer ≡ Err (refusals.NoRequest tag)
    → request_with tag a.queue ≡ None
refuses_step a tag queue d new answer (Ok left) is h said = absurd (let both = sym is ∙ said in let differ : ⊥ = cc both in differ)
refuses_step a tag queue d new answer (Err step.NoRequest) is h said = h.0
refuses_step a tag queue d new answer (Err step.AllDone) is h said = absurd (let both = sym is ∙ said in let differ : ⊥ = cc both in differ)
refuses_step a tag queue d new answer (Err step.DeviceFault) is h said = absurd (let both = sym is ∙ said in let differ : ⊥ = cc both in differ)

refuses_reap : (a : Attachment) (tag : ℕ) (queue : List Request) (before after : List ℕ) (answer : Result (Option (List ℕ)) Refusal) (given : Result Reaped ReapFault) → answer ≡ reap_answer tag after given → ReapAnswers a.keying tag a.queue queue before after given
    → answer ≡ Err (refusals.NoRequest tag) → request_with tag a.queue ≡ None
refuses_reap a tag queue before after answer (Ok given) is h said = absurd (let both = sym is ∙ said in let differ : ⊥ = cc both in differ)
refuses_reap a tag queue before after answer (Err reap.NoRequest) is h said = h.0
refuses_reap a tag queue before after answer (Err (reap.NotDone left)) is h said = absurd (let both = sym is ∙ said in let differ : ⊥ = cc both in differ)
refuses_reap a tag queue before after answer (Err (reap.Integrity offset)) is h said = absurd (let both = sym is ∙ said in let differ : ⊥ = cc both in differ)

-- what the reply says of a refusal
left_refused : (answer : Result ℕ Refusal) (refusal : Refusal) → answers.Refused refusal ≡ left_or answer → answer ≡ Err refusal
left_refused (Ok left) refusal h = absurd (let differ : ⊥ = cc h in differ)
left_refused (Err r) refusal h = (let same : refusal ≡ r = cc h in ap (λ (x : Refusal). Err x) (sym same))

reaped_refused : (answer : Result (Option (List ℕ)) Refusal) (refusal : Refusal) → answers.Refused refusal ≡ reaped_or answer → answer ≡ Err refusal
reaped_refused (Ok (Some bytes)) refusal h = absurd (let differ : ⊥ = cc h in differ)
reaped_refused (Ok None) refusal h = absurd (let differ : ⊥ = cc h in differ)
reaped_refused (Err r) refusal h = (let same : refusal ≡ r = cc h in ap (λ (x : Refusal). Err x) (sym same))

-- an attached drawer isn't refused at the gate
through_gate : (line : List ℕ) (command : Command) (a : Attachment) (old : Reach) (said : Answer) (new : Reach) (Claim : Type 0) → refused_by (needs command) (IsAttached a) ≡ None → old.holding ≡ IsAttached a → (GoesThrough line command old said new → Claim)
    → Serves line command old said new → Claim
through_gate line command a old said new Claim passes is row h =
    by_gate line command old said new Claim row
    (λ refusal refused said_so. absurd (let here : refused_by (needs command) (IsAttached a) ≡ Some refusal = subst (λ (x : Holding). refused_by (needs command) x ≡ Some refusal) is refused in let differ : ⊥ = cc (passes, here) in differ)) h

-- if a reply says `NoRequest`, no request has the tag, and the other way round
abbrev Both : Answer → ℕ → Attachment → Type 0
Both said tag a = (said ≡ answers.Refused (refusals.NoRequest tag) → request_with tag a.queue ≡ None) × (request_with tag a.queue ≡ None → said ≡ answers.Refused (refusals.NoRequest tag))

exactly : (said : Answer) (tag : ℕ) (a : Attachment) (holding : Holding) → holding ≡ IsAttached a → Both said tag a → (said ≡ answers.Refused (refusals.NoRequest tag)) ↔ LacksTag tag holding
exactly said tag a holding is h = (λ refused. lacks_at tag a holding is (h.0 refused), λ lacks. h.1 (lacks_of tag a holding is lacks))

pub at_attached : (holding : Holding) (a : Attachment) (Holds : Attachment → Type 0) → holding ≡ IsAttached a → AttachedWith holding Holds → Holds a
at_attached holding a Holds is h = subst (λ (x : Holding). AttachedWith x Holds) is h

pub step_misses : (line : List ℕ) (prov : Span) (tag : ℕ) (a : Attachment) (old new : Reach) (said : Answer) → old.holding ≡ IsAttached a → HoldsOwn old.holding old.disk → Serves line (commands.Step prov tag) old said new
    → (said ≡ answers.Refused (refusals.NoRequest tag)) ↔ LacksTag tag old.holding
step_misses line prov tag a old new said is own h =
    exactly said tag a old.holding is
    (through_gate line (commands.Step prov tag) a old said new (Both said tag a) refl is
    (λ row.
    let r = at_attached old.holding a (λ x. Replies left_or (StepRow tag x) old said new) is row in
    let both = needs_both a tag (StepsRequest a tag) old r.row.given r.row.middle r.answer new (λ start s refused. refuses_step a tag s.queue start.disk new.disk r.answer s.left s.answered s.steps refused) (own_of a old.holding old.disk is own) r.row.first r.row.next in
    (λ refused. both.0 (left_refused r.answer (refusals.NoRequest tag) (sym refused ∙ r.replied)), λ none. r.replied ∙ ap left_or (both.1 none)))
    h)

pub reap_misses : (line : List ℕ) (prov : Span) (tag : ℕ) (a : Attachment) (old new : Reach) (said : Answer) → old.holding ≡ IsAttached a → HoldsOwn old.holding old.disk → Serves line (commands.Reap prov tag) old said new
    → (said ≡ answers.Refused (refusals.NoRequest tag)) ↔ LacksTag tag old.holding
reap_misses line prov tag a old new said is own h =
    exactly said tag a old.holding is
    (through_gate line (commands.Reap prov tag) a old said new (Both said tag a) refl is
    (λ row.
    let r = at_attached old.holding a (λ x. Replies reaped_or (ReapRow tag x) old said new) is row in
    let both = needs_both a tag (ReapsRequest a tag) old r.row.given r.row.middle r.answer new (λ start s refused. refuses_reap a tag s.queue s.before s.after r.answer s.given s.answered s.reaps refused) (own_of a old.holding old.disk is own) r.row.first r.row.next in
    (λ refused. both.0 (reaped_refused r.answer (refusals.NoRequest tag) (sym refused ∙ r.replied)), λ none. r.replied ∙ ap reaped_or (both.1 none)))
    h)
