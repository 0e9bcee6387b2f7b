-- Each step keeps the counts of the cabinet and the entropy from falling, and reports their failures only if they rose.
use Rattle.block_traits.proofs.Causes.{Rose-earlier}
use Rattle.eli_base.specs.declared.refusals.Refusal.TheVariants as refusals
use Rattle.eli_metadata.specs.declared.place.ReadMetaFault.TheVariants.{TooSmall, DeviceFault, Meta}
use Rattle.command_rows.specs.Counts.{CountsRefusal}
use Rattle.command_rows.specs.Rows.{Attaches, Attachment, Decides, DeviceSectorAnswer, Does, DoesEvents, GoesOn, LoadsComponents, LoadsFile, Reach, Reads, SectorsAnswer, StoreAnswers, StoresBytes, Then, if_writable, or_refusal}
use Rattle.command_rows.specs.Vocabulary.{CabinetState, Components, DiskState, EntropyState, Event, KeyWords, MayRefuse, Metadata, ReadMetaFault, Refusal, Span, StopsAtFile, file_limit, read_refusal_of, refusal_of}
use Rattle.command_rows.proofs.Causing.{Step}
use Rattle.command_rows.specs.Grounds.{IsGround}
use Rattle.std.proofs.Common.{Bool, Err, List, Ok, Option, Result, Some, ap, arith, cond, false, inl, inr, subst, sym, true, ℕ, ◌/◌, ◌≡◌, ◌≤◌, IfErr}
use Rattle.command_rows.proofs.Plain.{PlainAnswer, PlainOption, meta_plain, plain_some}

-- ---- refusals that are no failure of the cabinet or the entropy

abbrev pub Uncounted : Refusal → Type 0
Uncounted (refusals.CabinetFault word) = ⊥
Uncounted refusals.EntropyFault = ⊥
Uncounted (refusals.FileAbsent word) = ⊥
Uncounted (refusals.FileTooLong word limit) = ⊥
Uncounted refusal = Unit {0}

abbrev pub UncountedAnswer : {A : Type 0} → Result A Refusal → Type 0
UncountedAnswer (Ok value) = Unit {0}
UncountedAnswer (Err refusal) = Uncounted refusal

pub plain_uncounted : (refusal : Refusal) → IsGround refusal → Uncounted refusal
plain_uncounted (refusals.CabinetFault word) h = absurd h
plain_uncounted refusals.EntropyFault h = absurd h
plain_uncounted (refusals.FileAbsent word) h = absurd h
plain_uncounted (refusals.FileTooLong word limit) h = absurd h
plain_uncounted refusal h = tt

pub by_plain : {A : Type 0} (answer : Result A Refusal) → PlainAnswer answer → UncountedAnswer answer
by_plain (Ok value) h = tt
by_plain (Err refusal) h = plain_uncounted refusal h

pub some_uncounted : (found : Option Refusal) (refusal : Refusal) → PlainOption found → found ≡ Some refusal → Uncounted refusal
some_uncounted found refusal plain is = plain_uncounted refusal (plain_some found refusal plain is)

uncounted_counts : (cabinet : CabinetState) (entropy : EntropyState) (refusal : Refusal) (cabinet' : CabinetState) (entropy' : EntropyState) → Uncounted refusal → CountsRefusal cabinet entropy refusal cabinet' entropy'
uncounted_counts cabinet entropy (refusals.CabinetFault word) cabinet' entropy' h = absurd h
uncounted_counts cabinet entropy refusals.EntropyFault cabinet' entropy' h = absurd h
uncounted_counts cabinet entropy (refusals.FileAbsent word) cabinet' entropy' h = absurd h
uncounted_counts cabinet entropy (refusals.FileTooLong word limit) cabinet' entropy' h = absurd h
uncounted_counts cabinet entropy refusal cabinet' entropy' h = tt

-- ---- steps

-- no count fell
pub record Later (old new : Reach) : Type 0 where
  pub faults : old.cabinet.faults ≤ new.cabinet.faults
  pub misses : old.cabinet.misses ≤ new.cabinet.misses
  pub entropy : old.entropy.faults ≤ new.entropy.faults

abbrev pub CountsResult : {A : Type 0} → Reach → Result A Refusal → Reach → Type 0
CountsResult old (Ok value) new = Unit {0}
CountsResult old (Err refusal) new = CountsRefusal old.cabinet old.entropy refusal new.cabinet new.entropy

abbrev pub Counts : {A : Type 0} → Step A → Type 0
Counts {A} R = (old : Reach) (answer : Result A Refusal) (new : Reach) → R old answer new → CountsResult old answer new × Later old new

later_then : (old middle new : Reach) → Later old middle → Later middle new → Later old new
later_then old middle new a b = record {
  faults = omega (arith, a.faults, b.faults);
  misses = omega (arith, a.misses, b.misses);
  entropy = omega (arith, a.entropy, b.entropy);
}

-- the cabinet stays
pub beside : (old new : Reach) → new.cabinet ≡ old.cabinet → old.entropy.faults ≤ new.entropy.faults → Later old new
beside old new cabinet entropy =
    let faults : new.cabinet.faults ≡ old.cabinet.faults = ap (λ (c : CabinetState). c.faults) cabinet in
    let misses : new.cabinet.misses ≡ old.cabinet.misses = ap (λ (c : CabinetState). c.misses) cabinet in
    record { faults = omega (arith, faults); misses = omega (arith, misses); entropy = entropy }

-- the entropy stays
undrawn : (old new : Reach) → old.cabinet.faults ≤ new.cabinet.faults → old.cabinet.misses ≤ new.cabinet.misses → new.entropy ≡ old.entropy → Later old new
undrawn old new faults misses entropy =
    let drawn : new.entropy.faults ≡ old.entropy.faults = ap (λ (e : EntropyState). e.faults) entropy in
    record { faults = faults; misses = misses; entropy = omega (arith, drawn) }

uncounted_result : {A : Type 0} (old : Reach) (answer : Result A Refusal) (new : Reach) → UncountedAnswer answer → CountsResult old answer new
uncounted_result old (Ok value) new h = tt
uncounted_result old (Err refusal) new h = uncounted_counts old.cabinet old.entropy refusal new.cabinet new.entropy h

-- both stay
pub uncounted_step : {A : Type 0} (old : Reach) (answer : Result A Refusal) (new : Reach) → UncountedAnswer answer → new.cabinet ≡ old.cabinet → new.entropy ≡ old.entropy → CountsResult old answer new × Later old new
uncounted_step old answer new plain cabinet entropy =
    let drawn : new.entropy.faults ≡ old.entropy.faults = ap (λ (e : EntropyState). e.faults) entropy in
    (uncounted_result old answer new plain, beside old new cabinet (omega (arith, drawn)))

pub decision_counts : {A : Type 0} (decided : Result A Refusal) (old : Reach) (answer : Result A Refusal) (new : Reach) → UncountedAnswer decided → Decides decided old answer new → CountsResult old answer new × Later old new
decision_counts {A} decided old answer new plain h =
    uncounted_step old answer new (subst (λ (r : Result A Refusal). UncountedAnswer r) (sym h.0) plain) (ap (λ (r : Reach). r.cabinet) h.1) (ap (λ (r : Reach). r.entropy) h.1)

counts_later : (old middle : Reach) (refusal : Refusal) (new : Reach) → Later old middle → CountsRefusal middle.cabinet middle.entropy refusal new.cabinet new.entropy → CountsRefusal old.cabinet old.entropy refusal new.cabinet new.entropy
counts_later old middle (refusals.CabinetFault word) new later h = Rose-earlier old.cabinet.faults middle.cabinet.faults new.cabinet.faults later.faults h
counts_later old middle refusals.EntropyFault new later h = Rose-earlier old.entropy.faults middle.entropy.faults new.entropy.faults later.entropy h
counts_later old middle (refusals.FileAbsent word) new later h = Rose-earlier old.cabinet.misses middle.cabinet.misses new.cabinet.misses later.misses h
counts_later old middle (refusals.FileTooLong word limit) new later (inl h) = inl h
counts_later old middle (refusals.FileTooLong word limit) new later (inr h) = inr (Rose-earlier old.cabinet.misses middle.cabinet.misses new.cabinet.misses later.misses h)
counts_later old middle refusal new later h = tt

counts_since : {A : Type 0} (old middle : Reach) (answer : Result A Refusal) (new : Reach) → Later old middle → CountsResult middle answer new → CountsResult old answer new
counts_since old middle (Ok value) new later h = tt
counts_since old middle (Err refusal) new later h = counts_later old middle refusal new later h

counts_next : {A B : Type 0} (Next : A → Step B) (old : Reach) (given : Result A Refusal) (middle : Reach) (answer : Result B Refusal) (new : Reach) → CountsResult old given middle × Later old middle → ((a : A) → Counts (Next a))
    → GoesOn Next given middle answer new → CountsResult old answer new × Later old new
counts_next Next old (Ok a) middle answer new first next h =
    let n = next a middle answer new h in
    (counts_since old middle answer new first.1 n.0, later_then old middle new first.1 n.1)
counts_next Next old (Err refusal) middle answer new first next h = rw (h.0, h.1) first

pub then_counts : {A B : Type 0} {First : Step A} {Next : A → Step B} → Counts First → ((a : A) → Counts (Next a)) → Counts (Then First Next)
then_counts {A} {B} {First} {Next} first next old answer new h = counts_next Next old h.given h.middle answer new (first old h.given h.middle h.first) next h.next

-- ---- what the drawer does with its disk

pub attaching_counts : (a : Attachment) → Counts (Attaches a)
attaching_counts a old (Ok done) new h = uncounted_step {A = Unit {0}} old (Ok done) new tt (ap (λ (r : Reach). r.cabinet) h) (ap (λ (r : Reach). r.entropy) h)
attaching_counts a old (Err refusals.NoMemory) new h = uncounted_step {A = Unit {0}} old (Err refusals.NoMemory) new tt (ap (λ (r : Reach). r.cabinet) h) (ap (λ (r : Reach). r.entropy) h)
attaching_counts a old (Err refusal) new h = absurd h

-- ---- the disk

pub does_uncounted : (events : List Event) (old : DiskState) (answer : Result (Unit {0}) Refusal) (new : DiskState) → DoesEvents events old answer new → UncountedAnswer answer
does_uncounted events old (Ok done) new h = tt
does_uncounted events old (Err refusals.DeviceFault) new h = tt
does_uncounted events old (Err refusal) new h = absurd h

pub does_counts : (events : List Event) → Counts (Does events)
does_counts events old answer new h = uncounted_step old answer new (does_uncounted events old.disk answer new.disk h.does) h.outside.cabinet h.outside.entropy

pub device_sector_uncounted : (place : ℕ) (old : DiskState) (answer : Result (List ℕ) Refusal) (new : DiskState) → DeviceSectorAnswer place old answer new → UncountedAnswer answer
device_sector_uncounted place old (Ok bytes) new h = tt
device_sector_uncounted place old (Err refusals.DeviceFault) new h = tt
device_sector_uncounted place old (Err refusal) new h = absurd h

pub sectors_uncounted : (a : Attachment) (sector count : ℕ) (old : DiskState) (answer : Result (List ℕ) Refusal) (new : DiskState) → SectorsAnswer a.keying sector count old answer new → UncountedAnswer answer
sectors_uncounted a sector count old (Ok bytes) new h = tt
sectors_uncounted a sector count old (Err (refusals.Integrity offset)) new h = tt
sectors_uncounted a sector count old (Err refusals.DeviceFault) new h = tt
sectors_uncounted a sector count old (Err refusal) new h = absurd h

pub whole_uncounted : (size bytes : ℕ) (whole : Bool) → UncountedAnswer {A = ℕ} (cond whole (Ok (bytes / size)) (Err (refusals.BadLength bytes size)))
whole_uncounted size bytes true = tt
whole_uncounted size bytes false = tt

pub writable_uncounted : (readonly : Bool) → UncountedAnswer (if_writable readonly)
writable_uncounted true = tt
writable_uncounted false = tt

pub range_uncounted : (sector count there : ℕ) (fits : Bool) → UncountedAnswer {A = Unit {0}} (cond fits (Ok tt) (Err (refusals.OutOfRange sector count there)))
range_uncounted sector count there true = tt
range_uncounted sector count there false = tt

-- ---- the metadata

read_uncounted : (read : Result Metadata ReadMetaFault) → UncountedAnswer (or_refusal read_refusal_of read)
read_uncounted (Ok m) = tt
read_uncounted (Err (TooSmall size)) = tt
read_uncounted (Err DeviceFault) = tt
read_uncounted (Err (Meta fault)) = plain_uncounted (refusal_of fault) (meta_plain fault)

pub reads_uncounted : (old : DiskState) (answer : Result Metadata Refusal) (new : DiskState) → Reads old answer new → UncountedAnswer answer
reads_uncounted old answer new h = subst (λ (r : Result Metadata Refusal). UncountedAnswer r) (sym h.answered) (read_uncounted h.read)

-- ---- the files

loaded_counts : {A : Type 0} (limit : ℕ) (old new : Reach) (answer : Result A Refusal) → IfErr answer (MayRefuse limit old.cabinet new.cabinet) → CountsResult old answer new
loaded_counts limit old new (Ok value) h = tt
loaded_counts limit old new (Err (refusals.CabinetFault word)) h = h
loaded_counts limit old new (Err (refusals.FileAbsent word)) h = h
loaded_counts limit old new (Err (refusals.FileTooLong word passed)) h = inr h.1
loaded_counts limit old new (Err refusals.NoMemory) h = tt
loaded_counts limit old new (Err refusal) h = absurd h

stopped_counts : (line : List ℕ) (words : KeyWords) (old new : Reach) (answer : Result Components Refusal) → IfErr answer (λ refusal. StopsAtFile line words old.cabinet refusal new.cabinet) → CountsResult old answer new
stopped_counts line words old new (Ok parts) h = tt
stopped_counts line words old new (Err refusal) (inl h) = loaded_counts {A = Components} file_limit old new (Err refusal) h.cause
stopped_counts line words old new (Err (refusals.FileTooLong word limit)) (inr h) = elim h.cause [ inl long ↦ inr long.1 | inr own ↦ inl own ]
stopped_counts line words old new (Err refusal) (inr h) = loaded_counts {A = Components} file_limit old new (Err refusal) h.cause

pub components_counts : (line : List ℕ) (words : KeyWords) → Counts (LoadsComponents line words)
components_counts line words old answer new h = (stopped_counts line words old new answer h.stops, undrawn old new h.keeps.faults h.keeps.misses h.entropy)

pub file_counts : (limit : ℕ) (line : List ℕ) (file : Span) → Counts (LoadsFile limit line file)
file_counts limit line file old answer new h = (loaded_counts limit old new answer h.cause, undrawn old new h.keeps.faults h.keeps.misses h.entropy)

stored_counts : (line : List ℕ) (file : Span) (bytes : List ℕ) (old new : Reach) (answer : Result (Unit {0}) Refusal) → StoreAnswers line file bytes old.cabinet answer new.cabinet → new.entropy ≡ old.entropy → CountsResult old answer new × Later old new
stored_counts line file bytes old new (Ok done) h same = (tt, undrawn old new h.faults h.misses same)
stored_counts line file bytes old new (Err (refusals.CabinetFault word)) h same = (h.1, undrawn old new h.2.faults h.2.misses same)
stored_counts line file bytes old new (Err refusals.NoMemory) h same = (tt, undrawn old new h.faults h.misses same)
stored_counts line file bytes old new (Err refusal) h same = absurd h

pub storing_counts : (line : List ℕ) (file : Span) (bytes : List ℕ) → Counts (StoresBytes line file bytes)
storing_counts line file bytes old answer new h = stored_counts line file bytes old new answer h.stores h.entropy
