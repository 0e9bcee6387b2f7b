-- The rows of `submit`, `step` and `reap` count no failure of the cabinet or the entropy, and the provider stays
-- attached with its keying.
use Rattle.eli_base.specs.declared.refusals.Refusal.TheVariants as refusals
use Rattle.command_rows.specs.Rows.{Attachment, GoesOn, Holding, HoldsKeying, IsAttached, NeedsRequest, Reach, with_queue}
use Rattle.command_rows.specs.Vocabulary.{IsKeying, Keying, Refusal, Request}
use Rattle.command_rows.proofs.Causing.{Step}
use Rattle.std.proofs.Common.{Err, List, Ok, Result, ap, refl, subst, sym, ℕ, ◌∙◌, ◌≡◌}
use Rattle.command_rows.proofs.Counting.{Counts, uncounted_step}

-- ---- counts

pub needs_counts : (a : Attachment) (tag : ℕ) → Counts (NeedsRequest a tag)
needs_counts a tag old (Ok done) new h = uncounted_step {A = Unit {0}} old (Ok done) new tt (ap (λ (r : Reach). r.cabinet) h.1) (ap (λ (r : Reach). r.entropy) h.1)
needs_counts a tag old (Err (refusals.NoRequest named)) new h = uncounted_step {A = Unit {0}} old (Err (refusals.NoRequest named)) new tt (ap (λ (r : Reach). r.cabinet) h.2) (ap (λ (r : Reach). r.entropy) h.2)
needs_counts a tag old (Err refusal) new h = absurd h

-- ---- what is attached

-- a provider with the slot, the keying and the read-only state of this one is attached
pub record HoldsSame (a : Attachment) (new : Holding) : Type 0 where
  pub now : Attachment
  pub is : new ≡ IsAttached now
  pub slot : now.slot ≡ a.slot
  pub keying : now.keying ≡ a.keying
  pub readonly : now.readonly ≡ a.readonly

pub same_keyed : (a : Attachment) (old new : Holding) → old ≡ IsAttached a → HoldsSame a new → HoldsKeying old → HoldsKeying new
same_keyed a old new is h had =
    let keyed : IsKeying a.keying = subst HoldsKeying is had in
    subst HoldsKeying (sym h.is) (subst (λ (k : Keying). IsKeying k) (sym h.keying) keyed)

pub queue_holds : (a : Attachment) (new : Reach) (queue : List Request) → new.holding ≡ IsAttached (with_queue queue a) → HoldsSame a new.holding
queue_holds a new queue is = record { now = with_queue queue a; is = is; slot = refl; keying = refl; readonly = refl }

-- after a step that changes nothing
pub holds_next : {A B : Type 0} (a : Attachment) (Next : A → Step B) (given : Result A Refusal) (middle : Reach) (answer : Result B Refusal) (new : Reach) → middle.holding ≡ IsAttached a
    → ((value : A) → Next value middle answer new → HoldsSame a new.holding) → GoesOn Next given middle answer new → HoldsSame a new.holding
holds_next a Next (Ok value) middle answer new is next h = next value h
holds_next a Next (Err refusal) middle answer new is next h = record { now = a; is = ap (λ (r : Reach). r.holding) h.1 ∙ is; slot = refl; keying = refl; readonly = refl }

pub needs_same : (a : Attachment) (tag : ℕ) (old : Reach) (given : Result (Unit {0}) Refusal) (middle : Reach) → NeedsRequest a tag old given middle → middle ≡ old
needs_same a tag old (Ok done) middle h = h.1
needs_same a tag old (Err (refusals.NoRequest named)) middle h = h.2
needs_same a tag old (Err refusal) middle h = absurd h
