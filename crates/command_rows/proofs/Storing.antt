-- Steps that store nothing.
use Rattle.eli_base.specs.declared.refusals.Refusal.TheVariants as refusals
use Rattle.command_rows.specs.Rows.{Answer, Attaches, Attachment, Decides, GoesOn, NeedsRequest, Reach, Replies, StoreAnswers, StoresBytes, Then}
use Rattle.command_rows.specs.Vocabulary.{CabinetState, Counted, Files, Refusal, Span, bytes_at, stored}
use Rattle.command_rows.proofs.Causing.{Step}
use Rattle.std.proofs.Common.{Err, List, None, Ok, Option, Result, Some, ap, inl, inr, subst, ℕ, ◌∙◌, ◌≡◌, ◌⊎◌}
use Rattle.command_rows.specs.Storing.{StoresAt, StoresNone, StoresOne}

-- ---- nothing is stored

pub same_files : (old new : CabinetState) → new ≡ old → StoresNone old new
same_files old new is = record { files = ap (λ (c : CabinetState). c.files) is; stores = ap (λ (c : CabinetState). c.stores) is }

pub none_then : (old middle new : CabinetState) → StoresNone old middle → StoresNone middle new → StoresNone old new
none_then old middle new a b = record { files = b.files ∙ a.files; stores = b.stores ∙ a.stores }

pub none_at : (line : List ℕ) (file : Option Span) (old new : CabinetState) → StoresNone old new → StoresAt line file old new
none_at line None old new h = h
none_at line (Some span) old new h = inl h

-- a step stores nothing
abbrev pub Unstored : {A : Type 0} → Step A → Type 0
Unstored {A} R = (old : Reach) (answer : Result A Refusal) (new : Reach) → R old answer new → StoresNone old.cabinet new.cabinet

-- a step stores the file that is named at a place, or nothing
abbrev pub Stored : {A : Type 0} → List ℕ → Option Span → Step A → Type 0
Stored {A} line file R = (old : Reach) (answer : Result A Refusal) (new : Reach) → R old answer new → StoresAt line file old.cabinet new.cabinet

-- ---- one step after another

pub next_unstored : {A B : Type 0} (Next : A → Step B) (given : Result A Refusal) (middle : Reach) (answer : Result B Refusal) (new : Reach) → ((a : A) → Unstored (Next a)) → GoesOn Next given middle answer new
    → StoresNone middle.cabinet new.cabinet
next_unstored Next (Ok a) middle answer new next h = next a middle answer new h
next_unstored Next (Err refusal) middle answer new next h = same_files middle.cabinet new.cabinet (ap (λ (r : Reach). r.cabinet) h.1)

pub unstored_then : {A B : Type 0} {First : Step A} {Next : A → Step B} → Unstored First → ((a : A) → Unstored (Next a)) → Unstored (Then First Next)
unstored_then {A} {B} {First} {Next} first next old answer new h =
    none_then old.cabinet h.middle.cabinet new.cabinet (first old h.given h.middle h.first) (next_unstored Next h.given h.middle answer new next h.next)

one_behind : (name : List ℕ) (old middle new : CabinetState) → StoresNone old middle → StoresOne name middle new → StoresOne name old new
one_behind name old middle new a b = record {
  files = subst (λ (files : Option Files). (new.files ≡ files) ⊎ ((bytes : List ℕ) × (new.files ≡ stored name bytes files))) a.files b.files;
  stores = subst (λ (n : ℕ). Counted 1 n new.stores) a.stores b.stores;
}

behind : (line : List ℕ) (file : Option Span) (old middle new : CabinetState) → StoresNone old middle → StoresAt line file middle new → StoresAt line file old new
behind line None old middle new a b = none_then old middle new a b
behind line (Some span) old middle new a (inl b) = inl (none_then old middle new a b)
behind line (Some span) old middle new a (inr b) = inr (one_behind (bytes_at line span) old middle new a b)

next_stored : {A B : Type 0} (line : List ℕ) (file : Option Span) (Next : A → Step B) (given : Result A Refusal) (middle : Reach) (answer : Result B Refusal) (new : Reach) → ((a : A) → Stored line file (Next a))
    → GoesOn Next given middle answer new → StoresAt line file middle.cabinet new.cabinet
next_stored line file Next (Ok a) middle answer new next h = next a middle answer new h
next_stored line file Next (Err refusal) middle answer new next h = none_at line file middle.cabinet new.cabinet (same_files middle.cabinet new.cabinet (ap (λ (r : Reach). r.cabinet) h.1))

-- the first step stores nothing
pub stored_then : {A B : Type 0} {First : Step A} {Next : A → Step B} (line : List ℕ) (file : Option Span) → Unstored First → ((a : A) → Stored line file (Next a)) → Stored line file (Then First Next)
stored_then {A} {B} {First} {Next} line file first next old answer new h =
    behind line file old.cabinet h.middle.cabinet new.cabinet (first old h.given h.middle h.first) (next_stored line file Next h.given h.middle answer new next h.next)

-- ---- the steps

pub decision_unstored : {A : Type 0} (decided : Reach → Result A Refusal) → Unstored (λ old answer new. Decides (decided old) old answer new)
decision_unstored decided old answer new h = same_files old.cabinet new.cabinet (ap (λ (r : Reach). r.cabinet) h.1)

pub attaching_unstored : (a : Attachment) → Unstored (Attaches a)
attaching_unstored a old (Ok done) new h = same_files old.cabinet new.cabinet (ap (λ (r : Reach). r.cabinet) h)
attaching_unstored a old (Err refusals.NoMemory) new h = same_files old.cabinet new.cabinet (ap (λ (r : Reach). r.cabinet) h)
attaching_unstored a old (Err refusal) new h = absurd h

pub request_unstored : (a : Attachment) (tag : ℕ) → Unstored (NeedsRequest a tag)
request_unstored a tag old (Ok done) new h = same_files old.cabinet new.cabinet (ap (λ (r : Reach). r.cabinet) h.1)
request_unstored a tag old (Err (refusals.NoRequest named)) new h = same_files old.cabinet new.cabinet (ap (λ (r : Reach). r.cabinet) h.2)
request_unstored a tag old (Err refusal) new h = absurd h

-- ---- the steps that store

store_files : (line : List ℕ) (span : Span) (bytes : List ℕ) (old : CabinetState) (answer : Result (Unit {0}) Refusal) (new : CabinetState) → StoreAnswers line span bytes old answer new
    → (new.files ≡ old.files) ⊎ ((bytes : List ℕ) × (new.files ≡ stored (bytes_at line span) bytes old.files))
store_files line span bytes old (Ok done) new h = inr (bytes, h.files)
store_files line span bytes old (Err (refusals.CabinetFault word)) new h = inl h.2.files
store_files line span bytes old (Err refusals.NoMemory) new h = inl h.files
store_files line span bytes old (Err refusal) new h = absurd h

pub bytes_stored : (line : List ℕ) (span : Span) (bytes : List ℕ) → Stored line (Some span) (StoresBytes line span bytes)
bytes_stored line span bytes old answer new h = inr (record { files = store_files line span bytes old.cabinet answer new.cabinet h.stores; stores = h.stored })

-- ---- a line

pub unstored_reply : {A : Type 0} (answer_to : Result A Refusal → Answer) (Row : Step A) (old : Reach) (reply : Answer) (new : Reach) → Unstored Row → Replies answer_to Row old reply new → StoresNone old.cabinet new.cabinet
unstored_reply answer_to Row old reply new unstored h = unstored old h.answer new h.row
