-- Steps that do one thing, one after another.
use Rattle.std.proofs.Common.{◌≡◌, ◌≢◌, ◌∙◌, ℕ, ◌≤◌, refl, ap, sym, subst, arith, Bool, true, Result, Ok, Err}
use Rattle.command_rows.specs.Rows.{GoesOn, Reach, Then}
use Rattle.command_rows.specs.Vocabulary.{CabinetState, DiskState, EntropyState, Refusal, Rose}
use Rattle.eli_base.specs.declared.refusals.Refusal.TheVariants as refusals
use Rattle.command_rows.specs.Fits.{FailsNowhere}
use Rattle.turn_determinism.specs.Same.{IsSameCount, LoadsUnlessMissed}
use Rattle.turn_determinism.proofs.Alike.{Alike, still_alike, uncounted_same}

abbrev pub Step : Type 0 → Type 1
Step A = Reach → Result A Refusal → Reach → Type 0

-- ---- counts of faults

-- no count of faults fell
pub record Later (old new : Reach) : Type 0 where
  pub disk : old.disk.faults ≤ new.disk.faults
  pub cabinet : old.cabinet.faults ≤ new.cabinet.faults
  pub entropy : old.entropy.faults ≤ new.entropy.faults

later_self : (r : Reach) → Later r r
later_self r = record { disk = omega arith; cabinet = omega arith; entropy = omega arith }

pub still_later : (old new : Reach) → new ≡ old → Later old new
still_later old new is = rw is (later_self old)

later_then : (old middle new : Reach) → Later old middle → Later middle new → Later old new
later_then old middle new a b = record {
  disk = omega (arith, a.disk, b.disk);
  cabinet = omega (arith, a.cabinet, b.cabinet);
  entropy = omega (arith, a.entropy, b.entropy);
}

pub same_cabinet_later : (c b : CabinetState) → b ≡ c → c.faults ≤ b.faults
same_cabinet_later c b is = rw is (omega arith)

pub same_entropy_later : (e f : EntropyState) → f ≡ e → e.faults ≤ f.faults
same_entropy_later e f is = rw is (omega arith)

pub same_disk_later : (d e : DiskState) → e ≡ d → d.faults ≤ e.faults
same_disk_later d e is = rw is (omega arith)

-- a count that didn't rise didn't rise in the first part either, nor after it
quiet_front : (before between now : ℕ) → between ≤ now → ¬ Rose before now → ¬ Rose before between
quiet_front before between now later quiet rose = quiet (omega (arith, later, rose))

quiet_behind : (before between now : ℕ) → before ≤ between → ¬ Rose before now → ¬ Rose between now
quiet_behind before between now later quiet rose = quiet (omega (arith, later, rose))

front_quiet : (old middle new : Reach) → Later middle new → FailsNowhere old new → FailsNowhere old middle
front_quiet old middle new later quiet = record {
  disk = quiet_front old.disk.faults middle.disk.faults new.disk.faults later.disk quiet.disk;
  cabinet = quiet_front old.cabinet.faults middle.cabinet.faults new.cabinet.faults later.cabinet quiet.cabinet;
  entropy = quiet_front old.entropy.faults middle.entropy.faults new.entropy.faults later.entropy quiet.entropy;
}

behind_quiet : (old middle new : Reach) → Later old middle → FailsNowhere old new → FailsNowhere middle new
behind_quiet old middle new later quiet = record {
  disk = quiet_behind old.disk.faults middle.disk.faults new.disk.faults later.disk quiet.disk;
  cabinet = quiet_behind old.cabinet.faults middle.cabinet.faults new.cabinet.faults later.cabinet quiet.cabinet;
  entropy = quiet_behind old.entropy.faults middle.entropy.faults new.entropy.faults later.entropy quiet.entropy;
}

-- ---- steps

abbrev pub HasMemory : {A : Type 0} → Result A Refusal → Type 0
HasMemory answer = answer ≢ Err refusals.NoMemory

-- what is reached before two turns is alike, and both fail nowhere; as many files were loaded, if that counts
pub record Both (old old' new new' : Reach) : Type 0 where
  pub counts : Bool
  pub same : Alike old old'
  pub loads : counts ≡ true → IsSameCount old.cabinet.loads old'.cabinet.loads
  pub quiet : FailsNowhere old new
  pub quiet' : FailsNowhere old' new'

-- as many files were loaded, unless one is refused
abbrev pub ResultLoads : {A : Type 0} → Result A Refusal → CabinetState → CabinetState → Type 0
ResultLoads (Ok value) c c' = IsSameCount c.loads c'.loads
ResultLoads (Err refusal) c c' = LoadsUnlessMissed refusal c c'

-- both steps have the same result, and what they reach is alike; as many files were loaded, unless one is refused
pub record Settled (counts : Bool) {A : Type 0} (answer answer' : Result A Refusal) (new new' : Reach) : Type 0 where
  pub agrees : answer' ≡ answer
  pub same : Alike new new'
  pub loads : counts ≡ true → ResultLoads answer new.cabinet new'.cabinet

abbrev pub Goes : {A : Type 0} → Step A → Type 0
Goes {A} S = (old : Reach) (answer : Result A Refusal) (new : Reach) → S old answer new → Later old new

abbrev pub Settles : {A : Type 0} → Step A → Type 0
Settles {A} S =
    (old old' : Reach) (answer answer' : Result A Refusal) (new new' : Reach) → (both : Both old old' new new') → HasMemory answer → HasMemory answer' → S old answer new → S old' answer' new' → Settled both.counts answer answer' new new'

-- no count of faults falls, and two turns that fail nowhere and have memory do the same
pub record Sure {A : Type 0} (S : Step A) : Type 0 where
  pub goes : Goes S
  pub settles : Settles S

-- as many files were loaded, if that is known of any result
pub unless_missed : (refusal : Refusal) (c c' : CabinetState) → IsSameCount c.loads c'.loads → LoadsUnlessMissed refusal c c'
unless_missed (refusals.FileAbsent word) c c' same = tt
unless_missed (refusals.FileTooLong word limit) c c' same = tt
unless_missed refusal c c' same = same

loads_where : {A : Type 0} (answer : Result A Refusal) (c c' : CabinetState) → IsSameCount c.loads c'.loads → ResultLoads answer c c'
loads_where (Ok value) c c' same = same
loads_where (Err refusal) c c' same = unless_missed refusal c c' same

pub settled : (counts : Bool) {A : Type 0} (answer answer' : Result A Refusal) (new new' : Reach) → answer' ≡ answer → Alike new new' → (counts ≡ true → IsSameCount new.cabinet.loads new'.cabinet.loads) → Settled counts answer answer' new new'
settled counts answer answer' new new' agrees same loads = record { agrees = agrees; same = same; loads = λ on. loads_where answer new.cabinet new'.cabinet (loads on) }

-- nothing changes, and the result is the same
pub settled_still : {A : Type 0} (old old' : Reach) (answer answer' : Result A Refusal) (new new' : Reach) → (both : Both old old' new new') → answer' ≡ answer → new ≡ old → new' ≡ old' → Settled both.counts answer answer' new new'
settled_still old old' answer answer' new new' both agrees is is' =
    settled both.counts answer answer' new new' agrees (still_alike old old' new new' both.same is is')
    (λ on. uncounted_same (both.loads on) (ap (λ (r : Reach). r.cabinet.loads) is) (ap (λ (r : Reach). r.cabinet.loads) is'))

-- ---- one step after another

next_goes : {A B : Type 0} (Next : A → Step B) (given : Result A Refusal) (middle : Reach) (answer : Result B Refusal) (new : Reach) → ((a : A) → Sure (Next a)) → GoesOn Next given middle answer new → Later middle new
next_goes Next (Ok a) middle answer new next h = (next a).goes middle answer new h
next_goes Next (Err refusal) middle answer new next h = still_later middle new h.1

front_memory : {A B : Type 0} (Next : A → Step B) (given : Result A Refusal) (middle : Reach) (answer : Result B Refusal) (new : Reach) → HasMemory answer → GoesOn Next given middle answer new → HasMemory given
front_memory Next (Ok a) middle answer new memory h is = let no : ⊥ = cc is in no
front_memory {A} {B} Next (Err refusal) middle answer new memory h is =
    let none : refusal ≡ refusals.NoMemory = cc is in
    let P : Refusal → Type 0 = λ r. answer ≡ Err r in
    memory (subst P none h.0)

next_settles : (counts : Bool) {A B : Type 0} (Next : A → Step B) (given : Result A Refusal) (middle middle' : Reach) (answer answer' : Result B Refusal) (new new' : Reach) → ((a : A) → Sure (Next a)) → Settled counts given given middle middle'
    → FailsNowhere middle new → FailsNowhere middle' new' → HasMemory answer → HasMemory answer' → GoesOn Next given middle answer new → GoesOn Next given middle' answer' new' → Settled counts answer answer' new new'
next_settles counts Next (Ok a) middle middle' answer answer' new new' next first quiet quiet' memory memory' h h' =
    (next a).settles middle middle' answer answer' new new' (record { counts = counts; same = first.same; loads = first.loads; quiet = quiet; quiet' = quiet' }) memory memory' h h'
next_settles counts Next (Err refusal) middle middle' answer answer' new new' next first quiet quiet' memory memory' h h' = record {
  agrees = h'.0 ∙ sym h.0;
  same = still_alike middle middle' new new' first.same h.1 h'.1;
  loads = rw (h.0, h.1, h'.1) first.loads;
}

then_goes : {A B : Type 0} (First : Step A) (Next : A → Step B) → Sure First → ((a : A) → Sure (Next a)) → Goes (Then First Next)
then_goes First Next first next old answer new h =
    later_then old h.middle new (first.goes old h.given h.middle h.first) (next_goes Next h.given h.middle answer new next h.next)

then_settles : {A B : Type 0} (First : Step A) (Next : A → Step B) → Sure First → ((a : A) → Sure (Next a)) → Settles (Then First Next)
then_settles {A} First Next first next old old' answer answer' new new' both memory memory' h h' =
    let later = first.goes old h.given h.middle h.first in
    let later' = first.goes old' h'.given h'.middle h'.first in
    let front = front_quiet old h.middle new (next_goes Next h.given h.middle answer new next h.next) both.quiet in
    let front' = front_quiet old' h'.middle new' (next_goes Next h'.given h'.middle answer' new' next h'.next) both.quiet' in
    let s = first.settles old old' h.given h'.given h.middle h'.middle (record { counts = both.counts; same = both.same; loads = both.loads; quiet = front; quiet' = front' })
    (front_memory Next h.given h.middle answer new memory h.next) (front_memory Next h'.given h'.middle answer' new' memory' h'.next) h.first h'.first in
    next_settles both.counts Next h.given h.middle h'.middle answer answer' new new' next (record { agrees = refl; same = s.same; loads = s.loads })
    (behind_quiet old h.middle new later both.quiet) (behind_quiet old' h'.middle new' later' both.quiet') memory memory' h.next
    (subst (λ (r : Result A Refusal). GoesOn Next r h'.middle answer' new') s.agrees h'.next)

pub then_sure : {A B : Type 0} {First : Step A} {Next : A → Step B} → Sure First → ((a : A) → Sure (Next a)) → Sure (Then First Next)
then_sure {A} {B} {First} {Next} first next = record { goes = then_goes First Next first next; settles = then_settles First Next first next }
