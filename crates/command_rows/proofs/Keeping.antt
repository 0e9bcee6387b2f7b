-- What a row leaves attached: the same as before, or nothing, or, if nothing was attached before, what has no open
-- request.
use Rattle.std.proofs.Common.{Bool, Err, List, None, Ok, Option, Result, Some, [], ap, cond, false, inl, inr, refl, subst, sym, true, ℕ, ◌≡◌, ◌⊎◌}
use Rattle.eli_base.specs.declared.refusals.Refusal.TheVariants as refusals
use Rattle.command_rows.specs.Rows.{Answer, AttachedWith, Attachment, GoesOn, Holding, IsAttached, Reach, Replies, TryRow, attachment_in, or_wrong_key, tried}
use Rattle.command_rows.specs.Vocabulary.{KeyFault, KeyWords, MasterKey, Metadata, Refusal, Settings, UserKey}
use Rattle.command_rows.specs.verbs.Attach.{AttachesUnless}
use Rattle.command_rows.proofs.Becoming.{Stays}
use Rattle.command_rows.proofs.Causing.{Step}
use Rattle.command_rows.proofs.Gate.{with_attached}

-- ---- what is attached anew has no open request

abbrev pub NoneOpen : Result Attachment Refusal → Type 0
NoneOpen (Ok a) = a.queue ≡ []
NoneOpen (Err refusal) = Unit {0}

none_wrong : (s : Settings) (readonly : Bool) (found : Option (MasterKey × ℕ)) → NoneOpen (or_wrong_key s readonly found)
none_wrong s readonly None = tt
none_wrong s readonly (Some found) = refl

none_small : (small : Bool) (refusal : Refusal) (found : Result Attachment Refusal) → NoneOpen found → NoneOpen (cond small (Err refusal) found)
none_small true refusal found h = tt
none_small false refusal found h = h

none_tried : (m : Metadata) (s : Settings) (slot : Option ℕ) (readonly : Bool) (key : Result UserKey KeyFault) → NoneOpen (tried m s slot readonly key)
none_tried m s slot readonly (Err fault) = tt
none_tried m s slot readonly (Ok key) = none_small _ _ (or_wrong_key s readonly _) (none_wrong s readonly _)

none_next : {A : Type 0} (Next : A → Step Attachment) (given : Result A Refusal) (middle : Reach) (answer : Result Attachment Refusal) (new : Reach) → ((a : A) (start : Reach) → Next a start answer new → NoneOpen answer) → GoesOn Next given middle answer new → NoneOpen answer
none_next Next (Ok a) middle answer new next h = next a middle h
none_next Next (Err refusal) middle answer new next h = subst NoneOpen (sym h.0) tt

pub none_try : (line : List ℕ) (slot : Option ℕ) (readonly : Bool) (words : KeyWords) (old : Reach) (answer : Result Attachment Refusal) (new : Reach) → TryRow line slot readonly words old answer new → NoneOpen answer
none_try line slot readonly words old answer new h =
    none_next _ h.given h.middle answer new
    (λ m one a.
    none_next _ a.given a.middle answer new
    (λ s two b.
    none_next _ b.given b.middle answer new
    (λ parts three last. subst NoneOpen (sym last.0) (none_tried m s slot readonly _))
    b.next)
    a.next)
    h.next

-- a provider was attached, with no open request
pub record IsNew (new : Holding) : Type 0 where
  pub attachment : Attachment
  pub is : new ≡ IsAttached attachment
  pub none : attachment.queue ≡ []

pub attached_new : (only_check : Bool) (a : Attachment) (old : Reach) (answer : Result (Unit {0}) Refusal) (new : Reach) → a.queue ≡ [] → AttachesUnless only_check a old answer new → (new.holding ≡ old.holding) ⊎ IsNew new.holding
attached_new true a old answer new none h = inl (ap (λ (r : Reach). r.holding) h.1)
attached_new false a old (Ok done) new none h = inr (record { attachment = a; is = ap (λ (r : Reach). r.holding) h; none = none })
attached_new false a old (Err refusals.NoMemory) new none h = inl (ap (λ (r : Reach). r.holding) h)
attached_new false a old (Err refusal) new none h = absurd h

-- ---- a row

-- what the drawer does with its disk is as it was; or nothing is attached any more; or something is that wasn't before,
-- with no open request
abbrev pub KeepsRequests : Holding → Holding → Type 0
KeepsRequests old new = (new ≡ old) ⊎ (attachment_in new ≡ None) ⊎ ((attachment_in old ≡ None) × IsNew new)

-- by its row
pub row_keeps : {A : Type 0} (answer_to : Result A Refusal → Answer) (Row : Step A) (old : Reach) (reply : Answer) (new : Reach) → Stays Row → Replies answer_to Row old reply new → KeepsRequests old.holding new.holding
row_keeps answer_to Row old reply new stays h = inl (stays old h.answer new h.row)

pub attached_keeps : {A : Type 0} (answer_to : Result A Refusal → Answer) (Row : Attachment → Step A) (old : Reach) (reply : Answer) (new : Reach) → ((a : Attachment) → Stays (Row a)) → AttachedWith old.holding (λ a. Replies answer_to (Row a) old reply new)
    → KeepsRequests old.holding new.holding
attached_keeps answer_to Row old reply new stays h = with_attached old.holding _ (KeepsRequests old.holding new.holding) (λ a is row. inl (stays a old row.answer new row.row)) h
