-- Why each row is refused.
use Rattle.std.proofs.lemmas.Bool.Decides.{nat_tests}
use Rattle.eli_base.specs.declared.refusals.Refusal.TheVariants as refusals
use Rattle.command_rows.specs.Causes.{AsksBytes, AsksSectors, LineHasCause, writes_data}
use Rattle.command_rows.specs.Gate.{needs, refused_by}
use Rattle.command_rows.specs.Rows.{Attachment, DoesEvents, GoesOn, IsAttached, NeedsSectors, NeedsWhole, NeedsWritable, Reach, ReadsDeviceSector, Then, WritesSectors, if_writable, whole_sectors}
use Rattle.command_rows.specs.Vocabulary.{Command, Event, Refusal, media}
use Rattle.command_rows.proofs.Gate.{by_gate_refusal}
use Rattle.std.proofs.Common.{Bool, Err, List, Ok, Result, Some, arith, cond, false, refl, subst, sym, true, ℕ, ◌+◌, ◌/◌, ◌≡◌, nat_le}

abbrev pub Step : Type 0 → Type 1
Step A = Reach → Result A Refusal → Reach → Type 0

-- a refusal has its cause
abbrev pub Why : {A : Type 0} → List ℕ → Command → Reach → Result A Refusal → Reach → Type 0
Why line command old (Ok value) new = Unit {0}
Why line command old (Err refusal) new = LineHasCause line command old refusal new

next_why : {A B : Type 0} (line : List ℕ) (command : Command) (start : Reach) (Next : A → Step B) (given : Result A Refusal) (middle : Reach) (answer : Result B Refusal) (new : Reach) → Why line command start given middle
    → ((a : A) → given ≡ Ok a → Next a middle answer new → Why line command start answer new) → GoesOn Next given middle answer new → Why line command start answer new
next_why line command start Next (Ok a) middle answer new why next h = next a refl h
next_why line command start Next (Err refusal) middle answer new why next h = rw h.0 (subst (λ (r : Reach). LineHasCause line command start refusal r) (sym h.1) why)

-- two steps of a line that found `start`
pub then_since : {A B : Type 0} {First : Step A} {Next : A → Step B} (line : List ℕ) (command : Command) (start old : Reach) (answer : Result B Refusal) (new : Reach) → Then First Next old answer new
    → ((given : Result A Refusal) (middle : Reach) → First old given middle → Why line command start given middle)
    → ((a : A) (middle : Reach) → First old (Ok a) middle → Next a middle answer new → Why line command start answer new) → Why line command start answer new
then_since {A} {B} {First} {Next} line command start old answer new h why next =
    next_why line command start Next h.given h.middle answer new (why h.given h.middle h.first) (λ a is. next a h.middle (subst (λ (r : Result A Refusal). First old r h.middle) is h.first)) h.next

-- two steps of a line that begins with the first of them
pub then_why : {A B : Type 0} {First : Step A} {Next : A → Step B} (line : List ℕ) (command : Command) (old : Reach) (answer : Result B Refusal) (new : Reach) → Then First Next old answer new
    → ((given : Result A Refusal) (middle : Reach) → First old given middle → Why line command old given middle)
    → ((a : A) (middle : Reach) → First old (Ok a) middle → Next a middle answer new → Why line command old answer new) → Why line command old answer new
then_why line command old answer new h why next = then_since line command old old answer new h why next

-- two steps of a line, the first of which changes nothing
pub same_then_why : {A B : Type 0} {First : Step A} {Next : A → Step B} (line : List ℕ) (command : Command) (old : Reach) (answer : Result B Refusal) (new : Reach) → Then First Next old answer new
    → ((a : A) (middle : Reach) → First old (Ok a) middle → middle ≡ old) → ((given : Result A Refusal) (middle : Reach) → First old given middle → Why line command old given middle)
    → ((a : A) → First old (Ok a) old → Next a old answer new → Why line command old answer new) → Why line command old answer new
same_then_why {A} {B} {First} {Next} line command old answer new h same why next =
    then_why line command old answer new h why
    (λ a middle first follows. next a (subst (λ (r : Reach). First old (Ok a) r) (same a middle first) first) (subst (λ (r : Reach). Next a r answer new) (same a middle first) follows))

-- ---- the gate

pub gate_why : (line : List ℕ) (command : Command) (old : Reach) (refusal : Refusal) (new : Reach) → refused_by (needs command) old.holding ≡ Some refusal → LineHasCause line command old refusal new
gate_why line command old refusal new is = by_gate_refusal (needs command) old.holding refusal (λ r. LineHasCause line command old r new) is (λ not. not) (λ still. still) (λ suspended. suspended) (λ awake. awake)

-- ---- attached drawers

pub events_why : (line : List ℕ) (command : Command) (events : List Event) (old : Reach) (answer : Result (Unit {0}) Refusal) (new : Reach) → DoesEvents events old.disk answer new.disk → Why line command old answer new
events_why line command events old (Ok done) new h = tt
events_why line command events old (Err refusals.DeviceFault) new h = h.rose
events_why line command events old (Err refusal) new h = absurd h

pub device_sector_why : (line : List ℕ) (command : Command) (place : ℕ) (old : Reach) (answer : Result (List ℕ) Refusal) (new : Reach) → ReadsDeviceSector place old answer new → Why line command old answer new
device_sector_why line command place old (Ok bytes) new h = tt
device_sector_why line command place old (Err refusals.DeviceFault) new h = h.reads.0.rose
device_sector_why line command place old (Err refusal) new h = absurd h.reads

-- the length
whole_by : (line : List ℕ) (command : Command) (a : Attachment) (bytes : ℕ) (whole : Bool) (old : Reach) (given : Result ℕ Refusal) (middle : Reach) → old.holding ≡ IsAttached a
    → whole_sectors a.keying.sectorsize bytes ≡ cond whole (Ok (bytes / a.keying.sectorsize)) (Err (refusals.BadLength bytes a.keying.sectorsize)) → AsksBytes line command bytes a → given ≡ whole_sectors a.keying.sectorsize bytes → Why line command old given middle
whole_by line command a bytes true old given middle is by asked h = rw (h, by) tt
whole_by line command a bytes false old given middle is by asked h = rw (h, by) (rw is (record { asked = asked; bad = by }))

pub whole_why : (line : List ℕ) (command : Command) (a : Attachment) (bytes : ℕ) (old : Reach) (given : Result ℕ Refusal) (middle : Reach) → old.holding ≡ IsAttached a → AsksBytes line command bytes a → NeedsWhole a bytes old given middle → Why line command old given middle
whole_why line command a bytes old given middle is asked h = whole_by line command a bytes _ old given middle is refl asked h.0

-- the range
range_by : (line : List ℕ) (command : Command) (a : Attachment) (sector count : ℕ) (old : Reach) (given : Result (Unit {0}) Refusal) (middle : Reach) (fits : Bool) → nat_le (sector + count) (media a.keying old.disk) ≡ fits → old.holding ≡ IsAttached a
    → AsksSectors line command sector count a → given ≡ cond fits (Ok tt) (Err (refusals.OutOfRange sector count (media a.keying old.disk))) → Why line command old given middle
range_by line command a sector count old given middle true test is asked h = rw h tt
range_by line command a sector count old given middle false test is asked h =
    rw (h, is) (record { asked = asked; has = refl; passes = grind (arith, nat_tests) })

pub range_why : (line : List ℕ) (command : Command) (a : Attachment) (sector count : ℕ) (old : Reach) (given : Result (Unit {0}) Refusal) (middle : Reach) → old.holding ≡ IsAttached a → AsksSectors line command sector count a → NeedsSectors a sector count old given middle
    → Why line command old given middle
range_why line command a sector count old given middle is asked h = range_by line command a sector count old given middle (nat_le (sector + count) (media a.keying old.disk)) refl is asked h.0

-- read-only
writable_by : (line : List ℕ) (command : Command) (a : Attachment) (readonly : Bool) (old : Reach) (given : Result (Unit {0}) Refusal) (middle : Reach) → old.holding ≡ IsAttached a → writes_data command ≡ true → a.readonly ≡ readonly → given ≡ if_writable readonly → Why line command old given middle
writable_by line command a false old given middle is writes state h = rw h tt
writable_by line command a true old given middle is writes state h = rw (h, is) (writes, state)

writable_why : (line : List ℕ) (command : Command) (a : Attachment) (old : Reach) (given : Result (Unit {0}) Refusal) (middle : Reach) → old.holding ≡ IsAttached a → writes_data command ≡ true → NeedsWritable a old given middle → Why line command old given middle
writable_why line command a old given middle is writes h = writable_by line command a a.readonly old given middle is writes refl h.0

-- ---- reading and writing

range_write_why : (line : List ℕ) (command : Command) (sector count : ℕ) (bytes : List ℕ) (a : Attachment) (old : Reach) (answer : Result (Unit {0}) Refusal) (new : Reach) → old.holding ≡ IsAttached a → AsksSectors line command sector count a
    → Then (NeedsSectors a sector count) (λ _. WritesSectors a sector count bytes) old answer new → Why line command old answer new
range_write_why line command sector count bytes a old answer new is asked h =
    same_then_why line command old answer new h (λ done middle first. first.1) (λ given middle. range_why line command a sector count old given middle is asked)
    (λ done first next. events_why line command _ old answer new next.does)

pub writable_write_why : (line : List ℕ) (command : Command) (sector count : ℕ) (bytes : List ℕ) (a : Attachment) (old : Reach) (answer : Result (Unit {0}) Refusal) (new : Reach) → old.holding ≡ IsAttached a → writes_data command ≡ true
    → AsksSectors line command sector count a → Then (NeedsWritable a) (λ _. Then (NeedsSectors a sector count) (λ _. WritesSectors a sector count bytes)) old answer new → Why line command old answer new
writable_write_why line command sector count bytes a old answer new is writes asked h =
    same_then_why line command old answer new h (λ done middle first. first.1) (λ given middle. writable_why line command a old given middle is writes)
    (λ done first next. range_write_why line command sector count bytes a old answer new is asked next)
