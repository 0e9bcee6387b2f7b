-- A suspended provider that is attached again, or refused, as the row of `resume`.
use Rattle.std.proofs.Common.{◌≡◌, ◌∙◌, ℕ, List, [], ap, refl, sym, subst, None, Some, Result, Ok, Err}
use Rattle.command_rows.specs.Rows.{Attaches, Attachment, GoesOn, IsAttached, IsSuspended, Kept, Reach, TryRow, attachment_by, reach_of}
use Rattle.command_rows.specs.Vocabulary.{Attached, CabinetState, DiskState, EntropyState, KeyWords, Refusal, settings_of}
use Rattle.eli_base.specs.declared.refusals.Refusal.TheVariants as refusals
use Rattle.suspend.specs.Resuming.{IsResumed, OpensTo, ResumeAnswers, ResumeFails}
use Rattle.suspend.specs.Suspension.{Suspension}
use Rattle.suspend.specs.declared.faults.ResumeFault.{ResumeFault}
use Rattle.suspend.specs.declared.faults.ResumeFault.TheVariants as resume
use Rattle.command_rows.specs.verbs.Resume.{AttachesAgain, ResumeRow, same_key}
use Rattle.command_rows.proofs.SameKey.{other_is_refused, same_is_key}
use Rattle.shelf.specs.Resuming.{resume_refusal}
use Rattle.shelf.specs.Shelved.{attachment_of, kept_of}
use Rattle.shelf.specs.Trying.{IsTrial, tried_in}
use Rattle.shelf.specs.declared.trying.Trial.{Trial}
use Rattle.shelf.proofs.Openings.{means, opens_as, room, small_as, target, tried_as, wrong_as}

-- ---- the steps after the trial

goes_as : (kept : Kept) (given answer : Result Attachment Refusal) (old : Reach) (said : Result (Unit {0}) Refusal) (new : Reach) → given ≡ answer → GoesOn (AttachesAgain kept) answer old said new → GoesOn (AttachesAgain kept) given old said new
goes_as kept given answer old said new is h = subst (λ (g : Result Attachment Refusal). GoesOn (AttachesAgain kept) g old said new) (sym is) h

-- the key is the one that it had
attaches_again : (kept : Kept) (a : Attachment) (old : Reach) (said : Result (Unit {0}) Refusal) (new : Reach) → same_key kept a ≡ Ok tt → Attaches a old said new → AttachesAgain kept a old said new
attaches_again kept a old said new same h = record { given = Ok tt; middle = old; first = (sym same, refl); next = h }

-- the key is another
refuses_another : (kept : Kept) (a : Attachment) (old : Reach) → same_key kept a ≡ Err refusals.DifferentKey → AttachesAgain kept a old (Err refusals.DifferentKey) old
refuses_another kept a old other = record { given = Err refusals.DifferentKey; middle = old; first = (sym other, refl); next = (refl, refl) }

-- what the master key that opened would be attached with
abbrev opened_with : {D : Type 0} → Trial → Suspension D → ℕ → List ℕ → Attachment
opened_with t s slot master = attachment_by (settings_of t.params) s.readonly (record { bytes = master }, slot)

tried_opens : {D : Type 0} (t : Trial) (s : Suspension D) (disk : DiskState) (slot : ℕ) (master : List ℕ) → IsTrial disk.size None t → OpensTo (target t disk) (means t None s.readonly) slot master
    → tried_in None s.readonly t ≡ Ok (opened_with t s slot master)
tried_opens t s disk slot master is opens = tried_as t None s.readonly (Some (record { bytes = master }, slot)) (room t None disk is opens.room) opens.opened

-- ---- the provider is attached again

pub taken_up : {D : Type 0} (state : D → DiskState) (t : Trial) (s : Suspension D) (p : Attached D) (cabinet : CabinetState) (entropy : EntropyState) → IsTrial (state s.disk).size None t
    → IsResumed (target t (state s.disk)) (means t None s.readonly) s p
    → GoesOn (AttachesAgain (kept_of s)) (tried_in None s.readonly t) (reach_of (state s.disk) (IsSuspended (kept_of s)) cabinet entropy) (Ok tt) (reach_of (state p.disk) (IsAttached (attachment_of [] p)) cabinet entropy)
taken_up {D = D} state t s p cabinet entropy is resumed =
    goes_as (kept_of s) _ (Ok (attachment_of [] p)) _ (Ok tt) _ (opens_as t None s.readonly (state s.disk) s.disk p is resumed.attached)
    (attaches_again (kept_of s) (attachment_of [] p) _ (Ok tt) _ (same_is_key (kept_of s) (attachment_of [] p) resumed.same) (ap (λ (d : D). reach_of (state d) (IsAttached (attachment_of [] p)) cabinet entropy) resumed.attached.disk))

-- ---- the provider isn't attached again

fails_as : {D : Type 0} (t : Trial) (s : Suspension D) (disk : DiskState) (fault : ResumeFault) (old : Reach) → IsTrial disk.size None t → ResumeFails (target t disk) (means t None s.readonly) s.mark fault
    → GoesOn (AttachesAgain (kept_of s)) (tried_in None s.readonly t) old (Err (resume_refusal fault)) old
fails_as t s disk (resume.TooSmall size) old is h = goes_as (kept_of s) _ (Err (refusals.TooSmall size)) old _ old (small_as t None s.readonly disk size is h) (refl, refl)
fails_as t s disk resume.WrongKey old is h = goes_as (kept_of s) _ (Err refusals.WrongKey) old _ old (wrong_as t None s.readonly disk is h) (refl, refl)
fails_as t s disk (resume.DifferentKey kept found) old is h =
    let a : Attachment = opened_with t s h.slot h.master in
    goes_as (kept_of s) _ (Ok a) old _ old (tried_opens t s disk h.slot h.master is h.opens)
    (refuses_another (kept_of s) a old (other_is_refused (kept_of s) a (λ same. h.differ (h.found_is ∙ same ∙ sym h.kept_is))))
fails_as t s disk resume.NoMemory old is h =
    let a : Attachment = opened_with t s h.slot h.master in
    goes_as (kept_of s) _ (Ok a) old _ old (tried_opens t s disk h.slot h.master is h.opens)
    (attaches_again (kept_of s) a old (Err refusals.NoMemory) old (same_is_key (kept_of s) a h.same) refl)

-- the provider is suspended as before
pub not_taken_up : {D : Type 0} (state : D → DiskState) (t : Trial) (s s' : Suspension D) (fault : ResumeFault) (cabinet : CabinetState) (entropy : EntropyState) → IsTrial (state s.disk).size None t
    → ResumeAnswers (target t (state s.disk)) (means t None s.readonly) s (Err (s', fault))
    → GoesOn (AttachesAgain (kept_of s)) (tried_in None s.readonly t) (reach_of (state s.disk) (IsSuspended (kept_of s)) cabinet entropy) (Err (resume_refusal fault))
    (reach_of (state s'.disk) (IsSuspended (kept_of s')) cabinet entropy)
not_taken_up {D = D} state t s s' fault cabinet entropy is h =
    let old : Reach = reach_of (state s.disk) (IsSuspended (kept_of s)) cabinet entropy in
    let back : reach_of (state s'.disk) (IsSuspended (kept_of s')) cabinet entropy ≡ old = ap (λ (x : Suspension D). reach_of (state x.disk) (IsSuspended (kept_of x)) cabinet entropy) h.0 in
    subst (λ (r : Reach). GoesOn (AttachesAgain (kept_of s)) (tried_in None s.readonly t) old (Err (resume_refusal fault)) r) (sym back) (fails_as t s (state s.disk) fault old is h.1)

-- ---- the row

-- the trial left what is kept as it was
pub trial_refused : (line : List ℕ) (words : KeyWords) (kept kept' : Kept) (old : Reach) (disk : DiskState) (cabinet : CabinetState) (entropy : EntropyState) (refusal : Refusal) → kept' ≡ kept
    → ResumeRow line words kept old (Err refusal) (reach_of disk (IsSuspended kept) cabinet entropy) → ResumeRow line words kept old (Err refusal) (reach_of disk (IsSuspended kept') cabinet entropy)
trial_refused line words kept kept' old disk cabinet entropy refusal same h = subst (λ (k : Kept). ResumeRow line words kept old (Err refusal) (reach_of disk (IsSuspended k) cabinet entropy)) (sym same) h

pub trial_went_on : (line : List ℕ) (words : KeyWords) (kept kept' : Kept) (t : Trial) (old : Reach) (disk : DiskState) (cabinet : CabinetState) (entropy : EntropyState) (said : Result (Unit {0}) Refusal) (new : Reach) → kept' ≡ kept
    → TryRow line None kept.readonly words old (tried_in None kept.readonly t) (reach_of disk (IsSuspended kept) cabinet entropy)
    → GoesOn (AttachesAgain kept') (tried_in None kept'.readonly t) (reach_of disk (IsSuspended kept') cabinet entropy) said new → ResumeRow line words kept old said new
trial_went_on line words kept kept' t old disk cabinet entropy said new same trial next = record {
  given = tried_in None kept.readonly t;
  middle = reach_of disk (IsSuspended kept) cabinet entropy;
  first = trial;
  next = subst (λ (k : Kept). GoesOn (AttachesAgain k) (tried_in None k.readonly t) (reach_of disk (IsSuspended k) cabinet entropy) said new) same next;
}
