-- What the gate before a row, and what is attached, come to.
use Rattle.std.proofs.Common.{◌≡◌, ◌⊎◌, inl, inr, ℕ, List, refl, sym, subst, Option, None, Some, MatchOption}
use Rattle.eli_base.specs.declared.refusals.Refusal.TheVariants as refusals
use Rattle.command_rows.specs.Gate.{ASuspended, AnAttached, AnIdle, AnyOne, Needs, NoIdle, NoSuspended, needs, refused_by}
use Rattle.command_rows.specs.Rows.{Answer, AttachedWith, Attachment, Holding, Idle, IsAttached, IsSuspended, Kept, Reach, SuspendedWith, attachment_in}
use Rattle.command_rows.specs.Turn.{GoesThrough, IsRefused, Serves}
use Rattle.command_rows.specs.Vocabulary.{Command, Refusal}

-- ---- what is attached

-- nothing is attached, or something is: the only place where lemmas distinguish what a drawer does with its disk
pub by_attachment : (holding : Holding) (Without : Type 0) (With : Attachment → Type 0) (Claim : Type 0) → (attachment_in holding ≡ None → Without → Claim) → ((a : Attachment) → holding ≡ IsAttached a → With a → Claim)
    → MatchOption (attachment_in holding) Without With → Claim
by_attachment Idle Without With Claim without with h = without refl h
by_attachment (IsAttached a) Without With Claim without with h = with a refl h
by_attachment (IsSuspended kept) Without With Claim without with h = without refl h

pub with_attached : (holding : Holding) (Holds : Attachment → Type 0) (Claim : Type 0) → ((a : Attachment) → holding ≡ IsAttached a → Holds a → Claim) → AttachedWith holding Holds → Claim
with_attached holding Holds Claim with h = by_attachment holding ⊥ Holds Claim (λ is none. absurd none) with h

-- the way back: what holds if nothing is attached, or of what is, holds of the holding
pub unattached : (holding : Holding) (Without : Type 0) (With : Attachment → Type 0) → attachment_in holding ≡ None → Without → MatchOption (attachment_in holding) Without With
unattached holding Without With is h = subst (λ (o : Option Attachment). MatchOption o Without With) (sym is) h

pub attached : (holding : Holding) (Without : Type 0) (With : Attachment → Type 0) (a : Attachment) → holding ≡ IsAttached a → With a → MatchOption (attachment_in holding) Without With
attached holding Without With a is h = subst (λ (x : Holding). MatchOption (attachment_in x) Without With) (sym is) h

-- ---- what is suspended

pub with_suspended : (holding : Holding) (Holds : Kept → Type 0) (Claim : Type 0) → ((kept : Kept) → holding ≡ IsSuspended kept → Holds kept → Claim) → SuspendedWith holding Holds → Claim
with_suspended Idle Holds Claim with h = absurd h
with_suspended (IsAttached a) Holds Claim with h = absurd h
with_suspended (IsSuspended kept) Holds Claim with h = with kept refl h

pub suspended : (holding : Holding) (Holds : Kept → Type 0) (kept : Kept) → holding ≡ IsSuspended kept → Holds kept → SuspendedWith holding Holds
suspended holding Holds kept is h = subst (λ (x : Holding). SuspendedWith x Holds) (sym is) h

-- ---- the gate

by_refusal : (refused : Option Refusal) (Row : Type 0) (Refuses : Refusal → Type 0) (Claim : Type 0) → (Row → Claim) → ((refusal : Refusal) → refused ≡ Some refusal → Refuses refusal → Claim) → MatchOption refused Row Refuses → Claim
by_refusal None Row Refuses Claim row refuses h = row h
by_refusal (Some refusal) Row Refuses Claim row refuses h = refuses refusal refl h

-- a line is refused there, or goes through its row
pub by_gate : (line : List ℕ) (command : Command) (old : Reach) (reply : Answer) (new : Reach) (Claim : Type 0) → (GoesThrough line command old reply new → Claim)
    → ((refusal : Refusal) → refused_by (needs command) old.holding ≡ Some refusal → IsRefused old reply new refusal → Claim) → Serves line command old reply new → Claim
by_gate line command old reply new Claim row refuses h =
    by_refusal (refused_by (needs command) old.holding) (GoesThrough line command old reply new) (IsRefused old reply new) Claim row refuses h

passed_refusal : (refused : Option Refusal) (Row : Type 0) (Refuses : Refusal → Type 0) (Claim : Type 0) → (refused ≡ None → Row → Claim) → ((refusal : Refusal) → refused ≡ Some refusal → Refuses refusal → Claim) → MatchOption refused Row Refuses → Claim
passed_refusal None Row Refuses Claim row refuses h = row refl h
passed_refusal (Some refusal) Row Refuses Claim row refuses h = refuses refusal refl h

-- a line is refused at the gate, or goes through its row, and then the gate refused nothing
pub by_passed_gate : (line : List ℕ) (command : Command) (old : Reach) (reply : Answer) (new : Reach) (Claim : Type 0) → (refused_by (needs command) old.holding ≡ None → GoesThrough line command old reply new → Claim)
    → ((refusal : Refusal) → refused_by (needs command) old.holding ≡ Some refusal → IsRefused old reply new refusal → Claim) → Serves line command old reply new → Claim
by_passed_gate line command old reply new Claim row refuses h =
    passed_refusal (refused_by (needs command) old.holding) (GoesThrough line command old reply new) (IsRefused old reply new) Claim row refuses h

-- the refusals of the gate
gate_refusals : (wanted : Needs) (holding : Holding) (refusal : Refusal) → refused_by wanted holding ≡ Some refusal
    → (refusal ≡ refusals.NotAttached) ⊎ (refusal ≡ refusals.StillAttached) ⊎ (refusal ≡ refusals.Suspended) ⊎ (refusal ≡ refusals.NotSuspended)
gate_refusals AnIdle Idle refusal h = absurd (let none : ⊥ = cc h in none)
gate_refusals AnIdle (IsAttached a) refusal h = inr (inl (cc h))
gate_refusals AnIdle (IsSuspended kept) refusal h = inr (inl (cc h))
gate_refusals AnAttached Idle refusal h = inl (cc h)
gate_refusals AnAttached (IsAttached a) refusal h = absurd (let none : ⊥ = cc h in none)
gate_refusals AnAttached (IsSuspended kept) refusal h = inr (inr (inl (cc h)))
gate_refusals ASuspended Idle refusal h = inl (cc h)
gate_refusals ASuspended (IsAttached a) refusal h = inr (inr (inr (cc h)))
gate_refusals ASuspended (IsSuspended kept) refusal h = absurd (let none : ⊥ = cc h in none)
gate_refusals NoIdle Idle refusal h = inl (cc h)
gate_refusals NoIdle (IsAttached a) refusal h = absurd (let none : ⊥ = cc h in none)
gate_refusals NoIdle (IsSuspended kept) refusal h = absurd (let none : ⊥ = cc h in none)
gate_refusals NoSuspended Idle refusal h = absurd (let none : ⊥ = cc h in none)
gate_refusals NoSuspended (IsAttached a) refusal h = absurd (let none : ⊥ = cc h in none)
gate_refusals NoSuspended (IsSuspended kept) refusal h = inr (inr (inl (cc h)))
gate_refusals AnyOne holding refusal h = absurd (let none : ⊥ = cc h in none)

pub by_gate_refusal : (wanted : Needs) (holding : Holding) (refusal : Refusal) (Claim : Refusal → Type 0) → refused_by wanted holding ≡ Some refusal → (refused_by wanted holding ≡ Some refusals.NotAttached → Claim refusals.NotAttached)
    → (refused_by wanted holding ≡ Some refusals.StillAttached → Claim refusals.StillAttached) → (refused_by wanted holding ≡ Some refusals.Suspended → Claim refusals.Suspended)
    → (refused_by wanted holding ≡ Some refusals.NotSuspended → Claim refusals.NotSuspended) → Claim refusal
by_gate_refusal wanted holding refusal Claim is not still suspended awake =
    elim (gate_refusals wanted holding refusal is) [
      | inl same ↦ subst Claim (sym same) (not (subst (λ (r : Refusal). refused_by wanted holding ≡ Some r) same is))
      | inr (inl same) ↦ subst Claim (sym same) (still (subst (λ (r : Refusal). refused_by wanted holding ≡ Some r) same is))
      | inr (inr (inl same)) ↦ subst Claim (sym same) (suspended (subst (λ (r : Refusal). refused_by wanted holding ≡ Some r) same is))
      | inr (inr (inr same)) ↦ subst Claim (sym same) (awake (subst (λ (r : Refusal). refused_by wanted holding ≡ Some r) same is))
    ]
