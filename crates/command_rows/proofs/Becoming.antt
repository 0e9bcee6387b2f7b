-- What steps and rows leave of what a drawer does with its disk.
use Rattle.eli_base.specs.declared.refusals.Refusal.TheVariants as refusals
use Rattle.command_rows.specs.Gate.{ASuspended, AnAttached, AnIdle, AnyOne, Needs, NoIdle, NoSuspended, needs, refused_by}
use Rattle.command_rows.specs.Rows.{Answer, AttachedWith, Attaches, Attachment, GoesOn, Holding, Idle, IsAttached, IsSuspended, Kept, Reach, Replies, Then, TryRow}
use Rattle.command_rows.specs.Vocabulary.{Command, KeyWords, Logs, Refusal, sha256}
use Rattle.command_rows.proofs.Causing.{Step}
use Rattle.command_rows.proofs.SameKey.{key_is_same}
use Rattle.command_rows.proofs.SuspendCauses.{trial_opens, went_on}
use Rattle.std.proofs.Common.{Bool, Err, List, None, Ok, Result, Some, [], ap, false, inl, refl, subst, sym, true, ℕ, ◌∙◌, ◌≡◌}
use Rattle.command_rows.specs.Becoming.{Becomes, BecomesBy, changes_requests}
use Rattle.command_rows.specs.verbs.Attach.{OpensWith}
use Rattle.command_rows.specs.verbs.Resume.{AttachesAgain, ResumeRow}
use Rattle.command_rows.proofs.QueueingSound.{HoldsSame}
use Rattle.command_rows.proofs.Gate.{with_attached}

-- ---- steps and rows that leave what the drawer does as it is

abbrev pub Stays : {A : Type 0} → Step A → Type 0
Stays {A} R = (old : Reach) (answer : Result A Refusal) (new : Reach) → R old answer new → new.holding ≡ old.holding

pub stays_next : {A B : Type 0} (Next : A → Step B) (given : Result A Refusal) (middle : Reach) (answer : Result B Refusal) (new : Reach) → ((a : A) → Stays (Next a)) → GoesOn Next given middle answer new → new.holding ≡ middle.holding
stays_next Next (Ok a) middle answer new stays h = stays a middle answer new h
stays_next Next (Err refusal) middle answer new stays h = ap (λ (r : Reach). r.holding) h.1

pub stays_then : {A B : Type 0} {First : Step A} {Next : A → Step B} → Stays First → ((a : A) → Stays (Next a)) → Stays (Then First Next)
stays_then {A} {B} {First} {Next} first next old answer new h = stays_next Next h.given h.middle answer new next h.next ∙ first old h.given h.middle h.first

pub same_reach : (old new : Reach) → new ≡ old → new.holding ≡ old.holding
same_reach old new is = ap (λ (r : Reach). r.holding) is

-- ---- what a drawer stays

pub becomes_as : (line : List ℕ) (command : Command) (old : Reach) (said : Answer) (new : Reach) (holding : Holding) → new.holding ≡ holding → BecomesBy holding line command old said new → Becomes line command old said new
becomes_as line command old said new holding is h = subst (λ (x : Holding). BecomesBy x line command old said new) (sym is) h

stays_as : (line : List ℕ) (command : Command) (old : Reach) (said : Answer) (new : Reach) (holding : Holding) → old.holding ≡ holding → ((kept : Kept) → holding ≡ IsSuspended kept → Logs [] old.disk new.disk) → BecomesBy holding line command old said new
stays_as line command old said new Idle is logs = inl is
stays_as line command old said new (IsAttached a) is logs = inl (record { before = a; was = is; slot = refl; keying = refl; readonly = refl; queue = λ same. refl })
stays_as line command old said new (IsSuspended kept) is logs = inl (record { was = is; logs = logs kept refl })

-- a quiet line that leaves it as it is
pub stays_quiet : (line : List ℕ) (command : Command) (old : Reach) (said : Answer) (new : Reach) → new.holding ≡ old.holding → Logs [] old.disk new.disk → Becomes line command old said new
stays_quiet line command old said new same logs = becomes_as line command old said new old.holding same (stays_as line command old said new old.holding refl (λ kept is. logs))

-- whether the gate lets a suspended drawer pass
abbrev passes : Needs → Bool
passes AnIdle = false
passes AnAttached = false
passes ASuspended = true
passes NoIdle = true
passes NoSuspended = false
passes AnyOne = true

false_is_true : true ≡ false → ⊥
false_is_true h = let none : ⊥ = cc h in none

pub some_is_none : (refusal : Refusal) → Some refusal ≡ None → ⊥
some_is_none refusal h = let none : ⊥ = cc h in none

unsuspended : (wanted : Needs) (kept : Kept) → passes wanted ≡ false → refused_by wanted (IsSuspended kept) ≡ None → ⊥
unsuspended AnIdle kept shut gate = some_is_none refusals.StillAttached gate
unsuspended AnAttached kept shut gate = some_is_none refusals.Suspended gate
unsuspended ASuspended kept shut gate = false_is_true shut
unsuspended NoIdle kept shut gate = false_is_true shut
unsuspended NoSuspended kept shut gate = some_is_none refusals.Suspended gate
unsuspended AnyOne kept shut gate = false_is_true shut

-- a line that leaves it as it is, of a verb that no suspended drawer is served
pub stays_so : (line : List ℕ) (command : Command) (old : Reach) (said : Answer) (new : Reach) → refused_by (needs command) old.holding ≡ None → passes (needs command) ≡ false → new.holding ≡ old.holding → Becomes line command old said new
stays_so line command old said new gate shut same =
    becomes_as line command old said new old.holding same
    (stays_as line command old said new old.holding refl (λ kept is. absurd (unsuspended (needs command) kept shut (subst (λ (x : Holding). refused_by (needs command) x ≡ None) is gate))))

-- a line that leaves the drawer as it is, of a verb that is served on an attached drawer
pub attached_becomes : {A : Type 0} (line : List ℕ) (command : Command) (answer_to : Result A Refusal → Answer) (Row : Attachment → Step A) (old : Reach) (said : Answer) (new : Reach) → refused_by (needs command) old.holding ≡ None → passes (needs command) ≡ false
    → ((a : Attachment) → Stays (Row a)) → AttachedWith old.holding (λ a. Replies answer_to (Row a) old said new) → Becomes line command old said new
attached_becomes line command answer_to Row old said new gate shut stays h =
    with_attached old.holding _ (Becomes line command old said new) (λ a is row. stays_so line command old said new gate shut (stays a old row.answer new row.row)) h

-- ---- the drawer becomes attached again

-- what is attached if `resume` was done
pub record Resumes (line : List ℕ) (words : KeyWords) (kept : Kept) (old new : Reach) : Type 0 where
  pub a : Attachment
  pub attached : new.holding ≡ IsAttached a
  pub opens : OpensWith line None kept.readonly words old a
  pub digest : sha256 a.keying.master ≡ kept.mark

pub resume_done : (line : List ℕ) (words : KeyWords) (kept : Kept) (old new : Reach) → ResumeRow line words kept old (Ok tt) new → Resumes line words kept old new
resume_done line words kept old new h =
    let tried = went_on (λ a. AttachesAgain kept a) h.given h.middle tt new h.next in
    let again = tried.next in
    let same = went_on (λ _. Attaches tried.value) again.given again.middle tt new again.next in
    let trial : TryRow line None kept.readonly words old (Ok tried.value) h.middle = subst (λ (r : Result Attachment Refusal). TryRow line None kept.readonly words old r h.middle) tried.is h.first in
    record {
      a = tried.value;
      attached = same_reach _ new same.next;
      opens = trial_opens line None kept.readonly words old tried.value h.middle trial;
      digest = key_is_same kept tried.value (sym again.first.0 ∙ same.is);
    }

-- ---- requests in flight

pub holds_same : (line : List ℕ) (command : Command) → changes_requests command ≡ true → (a : Attachment) (old : Reach) (said : Answer) (new : Reach) → old.holding ≡ IsAttached a → HoldsSame a new.holding → Becomes line command old said new
holds_same line command changes a old said new was h = becomes_as line command old said new (IsAttached h.now) h.is (inl (record { before = a; was = was; slot = h.slot; keying = h.keying; readonly = h.readonly; queue = λ same. absurd (false_is_true (sym changes ∙ same)) }))
