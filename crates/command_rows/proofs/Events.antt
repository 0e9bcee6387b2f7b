-- The events of each row.
use Rattle.block_traits.proofs.Logs.{Logs-nothing, Logs-then}
use Rattle.eli_base.specs.declared.refusals.Refusal.TheVariants as refusals
use Rattle.eli_metadata.specs.declared.place.ReadMetaFault.TheVariants.{TooSmall, DeviceFault, Meta}
use Rattle.command_rows.specs.Histories.{BreaksOff}
use Rattle.std.proofs.Common.{Bool, Err, List, Ok, Option, Result, [], ap, arith, false, inl, inr, refl, subst, sym, take, true, ℕ, ◌≡◌}
use Rattle.command_rows.specs.Rows.{Attaches, Attachment, DoesEvents, GoesOn, LoadsComponents, NeedsSectors, NeedsWritable, Reach, ReadsDeviceSector, ReadsLastSector, ReadsSectors, Then, TryRow, WritesSectors}
use Rattle.command_rows.specs.Vocabulary.{DiskState, Event, FailsIn, KeyWords, Logs, Metadata, ReadMetaFault, ReadsMetadata, Refusal, data_writes}
pub use Rattle.command_rows.proofs.Causing.{Step}

-- ---- steps without events

abbrev pub Quiet : {A : Type 0} → Step A → Type 0
Quiet {A} R = (old : Reach) (answer : Result A Refusal) (new : Reach) → R old answer new → Logs [] old.disk new.disk

pub same_disk : (old new : DiskState) → new ≡ old → Logs [] old new
same_disk old new is = rw is (Logs-nothing old)

pub same_quiet : (old new : Reach) → new ≡ old → Logs [] old.disk new.disk
same_quiet old new is = same_disk old.disk new.disk (ap (λ (r : Reach). r.disk) is)

pub quiet_failure : (old new : DiskState) → FailsIn [] old new → Logs [] old new
quiet_failure old new f = let none : f.count ≡ 0 = omega (arith, f.within) in subst (λ (n : ℕ). Logs (take n []) old new) none f.logs

quiet_metadata : (old new : DiskState) (read : Result Metadata ReadMetaFault) → ReadsMetadata old read new → Logs [] old new
quiet_metadata old new (Ok m) h = h.logs
quiet_metadata old new (Err (TooSmall size)) h = same_disk old new h.2
quiet_metadata old new (Err DeviceFault) h = quiet_failure old new h.fails
quiet_metadata old new (Err (Meta fault)) h = h.logs

pub quiet_reading : Quiet ReadsLastSector
quiet_reading old answer new h = quiet_metadata old.disk new.disk h.reads.read h.reads.reads

pub quiet_device_sector : (place : ℕ) → Quiet (ReadsDeviceSector place)
quiet_device_sector place old (Ok bytes) new h = h.reads.2
quiet_device_sector place old (Err refusals.DeviceFault) new h = quiet_failure old.disk new.disk h.reads.0
quiet_device_sector place old (Err refusal) new h = absurd h.reads

pub quiet_loading : (line : List ℕ) (words : KeyWords) → Quiet (LoadsComponents line words)
quiet_loading line words old answer new h = same_disk old.disk new.disk h.disk

quiet_next : {A B : Type 0} (Next : A → Step B) (given : Result A Refusal) (middle : Reach) (answer : Result B Refusal) (new : Reach) → ((a : A) → Quiet (Next a)) → GoesOn Next given middle answer new
    → Logs [] middle.disk new.disk
quiet_next Next (Ok a) middle answer new quiet h = quiet a middle answer new h
quiet_next Next (Err refusal) middle answer new quiet h = same_disk middle.disk new.disk (ap (λ (r : Reach). r.disk) h.1)

pub quiet_then : {A B : Type 0} {First : Step A} {Next : A → Step B} → Quiet First → ((a : A) → Quiet (Next a)) → Quiet (Then First Next)
quiet_then {A} {B} {First} {Next} first next old answer new h = Logs-then [] [] (first old h.given h.middle h.first) (quiet_next Next h.given h.middle answer new next h.next)

-- ---- what a row did

abbrev pub ResultEvents : {A : Type 0} → (List Event → Type 0) → Bool → Result A Refusal → List Event → Type 0
ResultEvents Row stores (Ok value) events = Row events
ResultEvents Row stores (Err refusal) events = BreaksOff Row stores refusal events

pub record Did {A : Type 0} (Row : List Event → Type 0) (stores : Bool) (old : DiskState) (answer : Result A Refusal) (new : DiskState) : Type 0 where
  pub events : List Event
  pub logs : Logs events old new
  pub are : ResultEvents Row stores answer events

none_breaks : (Row : List Event → Type 0) (stores : Bool) (refusal : Refusal) → BreaksOff Row stores refusal []
none_breaks Row stores refusals.DeviceFault = inl refl
none_breaks Row true (refusals.CabinetFault word) = inl refl
none_breaks Row true refusals.NoMemory = inl refl
none_breaks Row stores refusal = refl

pub nothing_done : {A : Type 0} (Row : List Event → Type 0) (stores : Bool) (refusal : Refusal) (old new : DiskState) → Logs [] old new → Did {A = A} Row stores old (Err refusal) new
nothing_done Row stores refusal old new logs = record { events = []; logs = logs; are = none_breaks Row stores refusal }

-- the disk failed, and logged the first events of a row
pub part_did : {A : Type 0} (Row : List Event → Type 0) (stores : Bool) (events : List Event) (old new : DiskState) → FailsIn events old new → Row events → Did {A = A} Row stores old (Err refusals.DeviceFault) new
part_did Row stores events old new fails is_row = record { events = take fails.count events; logs = fails.logs; are = inr (record { row = events; is_row = is_row; count = fails.count; part = refl }) }

-- a row that does nothing
quiet_are : {A : Type 0} (stores : Bool) (answer : Result A Refusal) → ResultEvents (λ events. events ≡ []) stores answer []
quiet_are stores (Ok value) = refl
quiet_are stores (Err refusal) = none_breaks (λ events. events ≡ []) stores refusal

pub quiet_did : {A : Type 0} (stores : Bool) (old : DiskState) (answer : Result A Refusal) (new : DiskState) → Logs [] old new → Did (λ events. events ≡ []) stores old answer new
quiet_did stores old answer new logs = record { events = []; logs = logs; are = quiet_are stores answer }

-- events after a step without events
did_next : {A B : Type 0} (Row : List Event → Type 0) (stores : Bool) (First : Step A) (Next : A → Step B) (old : Reach) (given : Result A Refusal) (middle : Reach) (answer : Result B Refusal) (new : Reach) → Logs [] old.disk middle.disk → First old given middle
    → ((a : A) → First old (Ok a) middle → Next a middle answer new → Did Row stores middle.disk answer new.disk) → GoesOn Next given middle answer new → Did Row stores old.disk answer new.disk
did_next Row stores First Next old (Ok a) middle answer new quiet first next h =
    let d = next a first h in
    record { events = d.events; logs = Logs-then [] d.events quiet d.logs; are = d.are }
did_next Row stores First Next old (Err refusal) middle answer new quiet first next h =
    rw h.0 (nothing_done Row stores refusal old.disk new.disk (subst (λ (r : Reach). Logs [] old.disk r.disk) (sym h.1) quiet))

pub did_then : {A B : Type 0} {First : Step A} {Next : A → Step B} (Row : List Event → Type 0) (stores : Bool) (old : Reach) (answer : Result B Refusal) (new : Reach) → Then First Next old answer new → Quiet First
    → ((a : A) (middle : Reach) → First old (Ok a) middle → Next a middle answer new → Did Row stores middle.disk answer new.disk) → Did Row stores old.disk answer new.disk
did_then {A} {B} {First} {Next} Row stores old answer new h quiet next =
    did_next Row stores First Next old h.given h.middle answer new (quiet old h.given h.middle h.first) h.first (λ a. next a h.middle) h.next

-- ---- the rows

pub does_did : (events : List Event) (stores : Bool) (old : DiskState) (answer : Result (Unit {0}) Refusal) (new : DiskState) → DoesEvents events old answer new → Did (λ found. found ≡ events) stores old answer new
does_did events stores old (Ok done) new h = record { events = events; logs = h; are = refl }
does_did events stores old (Err refusals.DeviceFault) new h = part_did (λ found. found ≡ events) stores events old new h refl
does_did events stores old (Err refusal) new h = absurd h

pub quiet_sectors : (a : Attachment) (sector count : ℕ) → Quiet (ReadsSectors a sector count)
quiet_sectors a sector count old (Ok bytes) new h = h.reads.1
quiet_sectors a sector count old (Err (refusals.Integrity offset)) new h = h.reads.logs
quiet_sectors a sector count old (Err refusals.DeviceFault) new h = quiet_failure old.disk new.disk h.reads.fails
quiet_sectors a sector count old (Err refusal) new h = absurd h.reads

last_did : (a : Attachment) (sector count : ℕ) (bytes : List ℕ) (old : Reach) (answer : Result (Unit {0}) Refusal) (new : Reach) → WritesSectors a sector count bytes old answer new
    → Did (λ found. found ≡ data_writes a.keying sector count bytes) false old.disk answer new.disk
last_did a sector count bytes old answer new h = does_did (data_writes a.keying sector count bytes) false old.disk answer new.disk h.does

inside_did : (a : Attachment) (sector count : ℕ) (bytes : List ℕ) (old : Reach) (answer : Result (Unit {0}) Refusal) (new : Reach) → Then (NeedsSectors a sector count) (λ _. WritesSectors a sector count bytes) old answer new
    → Did (λ found. found ≡ data_writes a.keying sector count bytes) false old.disk answer new.disk
inside_did a sector count bytes old answer new h =
    did_then (λ found. found ≡ data_writes a.keying sector count bytes) false old answer new h (λ old answer new h. same_quiet old new h.1)
    (λ done middle first next. last_did a sector count bytes middle answer new next)

pub writable_did : (a : Attachment) (sector count : ℕ) (bytes : List ℕ) (old : Reach) (answer : Result (Unit {0}) Refusal) (new : Reach)
    → Then (NeedsWritable a) (λ _. Then (NeedsSectors a sector count) (λ _. WritesSectors a sector count bytes)) old answer new
    → Did (λ found. found ≡ data_writes a.keying sector count bytes) false old.disk answer new.disk
writable_did a sector count bytes old answer new h =
    did_then (λ found. found ≡ data_writes a.keying sector count bytes) false old answer new h (λ old answer new h. same_quiet old new h.1)
    (λ done middle first next. inside_did a sector count bytes middle answer new next)

pub quiet_attaching : (a : Attachment) → Quiet (Attaches a)
quiet_attaching a old (Ok done) new h = same_quiet _ new h
quiet_attaching a old (Err refusals.NoMemory) new h = same_quiet _ new h
quiet_attaching a old (Err refusal) new h = absurd h

pub quiet_trial : (line : List ℕ) (slot : Option ℕ) (readonly : Bool) (words : KeyWords) → Quiet (TryRow line slot readonly words)
quiet_trial line slot readonly words =
    quiet_then quiet_reading
    (λ m. quiet_then (λ old answer new h. same_quiet old new h.1)
    (λ settings. quiet_then (quiet_loading line words)
    (λ parts old answer new h. same_quiet old new h.1)))
