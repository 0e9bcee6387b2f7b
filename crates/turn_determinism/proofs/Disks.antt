-- Steps that read the disk and write it, and those that flush it and change what the drawer does with it.
use Rattle.std.proofs.Common.{◌≡◌, ◌∙◌, ◌⊎◌, inl, inr, ℕ, ◌+◌, ◌-◌, ◌*◌, ◌≤◌, List, [], ◌∷◌, refl, ap, sym, subst, arith, Option, Some, Result, Ok, Err}
use Rattle.block_traits.specs.declared.disk.Event.TheVariants.{Flush}
use Rattle.command_rows.specs.Rows.{Attachment, Detaches, DeviceSectorAnswer, Does, DoesEvents, IsSuspended, Reach, Reads, ReadsDeviceSector, ReadsDisk, ReadsLastSector, ReadsSectors, SectorsAnswer, WritesSectors, or_refusal}
use Rattle.command_rows.specs.Vocabulary.{Content, Counted, DiskState, Event, Keying, Logs, MetaFault, Metadata, ReadMetaFault, ReadsAs, ReadsFrom, ReadsMetadata, Refusal, Rose, data_reading, data_writes, last_sector, metadata_in, present, read_refusal_of, units}
use Rattle.eli_base.specs.declared.refusals.Refusal.TheVariants as refusals
use Rattle.eli_metadata.specs.declared.place.ReadMetaFault.TheVariants.{TooSmall, DeviceFault, Meta}
use Rattle.command_rows.specs.verbs.Suspend.{Suspends, kept_by}
use Rattle.turn_determinism.specs.Same.{IsSameCount}
use Rattle.turn_determinism.proofs.Alike.{Alike, AlikeDisk, counted_same, given_by, logs_alike, still_cabinet, still_disk, still_entropy, uncounted_same}
use Rattle.turn_determinism.proofs.Steps.{Both, Later, Settled, Sure, same_cabinet_later, same_disk_later, same_entropy_later, settled}

-- ---- steps that keep the cabinet and the entropy

pub beside_later : (old new : Reach) → old.disk.faults ≤ new.disk.faults → new.cabinet ≡ old.cabinet → new.entropy ≡ old.entropy → Later old new
beside_later old new disk cabinet entropy =
    record { disk = disk; cabinet = same_cabinet_later old.cabinet new.cabinet cabinet; entropy = same_entropy_later old.entropy new.entropy entropy }

pub same_loads : (old old' new new' : Reach) → IsSameCount old.cabinet.loads old'.cabinet.loads → new.cabinet ≡ old.cabinet → new'.cabinet ≡ old'.cabinet → IsSameCount new.cabinet.loads new'.cabinet.loads
same_loads old old' new new' loads is is' = rw (is, is') loads

-- all but the disk, and what the drawer does with it, stays
pub beside_settled : {A : Type 0} (old old' : Reach) (answer answer' : Result A Refusal) (new new' : Reach) → (both : Both old old' new new') → answer' ≡ answer → AlikeDisk new.disk new'.disk → new'.holding ≡ new.holding
    → new.cabinet ≡ old.cabinet → new'.cabinet ≡ old'.cabinet → new.entropy ≡ old.entropy → new'.entropy ≡ old'.entropy → Settled both.counts answer answer' new new'
beside_settled old old' answer answer' new new' both agrees disk holding cabinet cabinet' entropy entropy' =
    settled both.counts answer answer' new new' agrees
    (record {
      disk = disk;
      holding = holding;
      cabinet = still_cabinet old.cabinet old'.cabinet new.cabinet new'.cabinet both.same.cabinet cabinet cabinet';
      entropy = still_entropy old.entropy old'.entropy new.entropy new'.entropy both.same.entropy entropy entropy';
    })
    (λ on. same_loads old old' new new' (both.loads on) cabinet cabinet')

pub same_holding : (old old' new new' : Reach) → Alike old old' → new.holding ≡ old.holding → new'.holding ≡ old'.holding → new'.holding ≡ new.holding
same_holding old old' new new' same is is' = is' ∙ same.holding ∙ sym is

-- ---- events

events_later : (events : List Event) (old : DiskState) (answer : Result (Unit {0}) Refusal) (new : DiskState) → DoesEvents events old answer new → old.faults ≤ new.faults
events_later events old (Ok done) new h = h.faults
events_later events old (Err refusals.DeviceFault) new h = h.logs.faults
events_later events old (Err refusal) new h = absurd h

-- all events are logged, if the disk doesn't fail
events_done : (events : List Event) (old : DiskState) (answer : Result (Unit {0}) Refusal) (new : DiskState) → ¬ Rose old.faults new.faults → DoesEvents events old answer new → (answer ≡ Ok tt) × Logs events old new
events_done events old (Ok done) new quiet h = (refl, h)
events_done events old (Err refusals.DeviceFault) new quiet h = absurd (quiet h.rose)
events_done events old (Err refusal) new quiet h = absurd h

-- disks that do the same events, and of which nothing is read, return the same and stay alike
events_alike : (events : List Event) (d d' : DiskState) (answer answer' : Result (Unit {0}) Refusal) (e e' : DiskState) → AlikeDisk d d' → ¬ Rose d.faults e.faults → ¬ Rose d'.faults e'.faults
    → DoesEvents events d answer e → DoesEvents events d' answer' e' → e.reads ≡ d.reads → e'.reads ≡ d'.reads → (answer' ≡ answer) × AlikeDisk e e'
events_alike events d d' answer answer' e e' same quiet quiet' h h' unasked unasked' =
    let is = events_done events d answer e quiet h in
    let is' = events_done events d' answer' e' quiet' h' in
    (is'.0 ∙ sym is.0, logs_alike events d d' e e' same is.1 is'.1 (uncounted_same same.reads unasked unasked'))

pub does_sure : (events : List Event) → Sure (Does events)
does_sure events = record {
  goes = λ old answer new h. beside_later old new (events_later events old.disk answer new.disk h.does) h.outside.cabinet h.outside.entropy;
  settles = λ old old' answer answer' new new' both memory memory' h h'.
      let is = events_alike events old.disk old'.disk answer answer' new.disk new'.disk both.same.disk both.quiet.disk both.quiet'.disk h.does h'.does h.unasked h'.unasked in
      beside_settled old old' answer answer' new new' both is.0 is.1 (same_holding old old' new new' both.same h.holding h'.holding) h.outside.cabinet h'.outside.cabinet h.outside.entropy h'.outside.entropy;
}

pub writes_sure : (a : Attachment) (sector count : ℕ) (bytes : List ℕ) → Sure (WritesSectors a sector count bytes)
writes_sure a sector count bytes = does_sure (data_writes a.keying sector count bytes)

-- ---- a flush, after which the drawer does something else

pub detaches_sure : Sure Detaches
detaches_sure = record {
  goes = λ old answer new h. beside_later old new (events_later (Flush ∷ []) old.disk answer new.disk h.flushes) h.outside.cabinet h.outside.entropy;
  settles = λ old old' answer answer' new new' both memory memory' h h'.
      let is = events_alike (Flush ∷ []) old.disk old'.disk answer answer' new.disk new'.disk both.same.disk both.quiet.disk both.quiet'.disk h.flushes h'.flushes h.unasked h'.unasked in
      beside_settled old old' answer answer' new new' both is.0 is.1 (h'.holding ∙ sym h.holding) h.outside.cabinet h'.outside.cabinet h.outside.entropy h'.outside.entropy;
}

kept_same : (a : Attachment) (d d' : DiskState) → d'.size ≡ d.size → kept_by a d' ≡ kept_by a d
kept_same a d d' size = rw size refl

pub suspends_sure : (a : Attachment) → Sure (Suspends a)
suspends_sure a = record {
  goes = λ old answer new h. beside_later old new (events_later (Flush ∷ []) old.disk answer new.disk h.flushes) h.outside.cabinet h.outside.entropy;
  settles = λ old old' answer answer' new new' both memory memory' h h'.
      let is = events_alike (Flush ∷ []) old.disk old'.disk answer answer' new.disk new'.disk both.same.disk both.quiet.disk both.quiet'.disk h.flushes h'.flushes h.unasked h'.unasked in
      beside_settled old old' answer answer' new new' both is.0 is.1 (h'.holding ∙ ap IsSuspended (kept_same a old.disk old'.disk both.same.disk.size) ∙ sym h.holding) h.outside.cabinet h'.outside.cabinet h.outside.entropy h'.outside.entropy;
}

-- ---- the disk is read

-- the result is the same of disks that are alike, if none fails, and so is what is read of them
abbrev pub ReadsAlike : {A : Type 0} → (DiskState → Result A Refusal → DiskState → Type 0) → Type 0
ReadsAlike {A} Answers =
    (d d' : DiskState) (answer answer' : Result A Refusal) (e e' : DiskState) → AlikeDisk d d' → ¬ Rose d.faults e.faults → ¬ Rose d'.faults e'.faults → Answers d answer e → Answers d' answer' e' → (answer' ≡ answer) × AlikeDisk e e'

pub reads_sure : {A : Type 0} {Answers : DiskState → Result A Refusal → DiskState → Type 0} → ((d : DiskState) (answer : Result A Refusal) (e : DiskState) → Answers d answer e → d.faults ≤ e.faults) → ReadsAlike Answers → Sure (ReadsDisk Answers)
reads_sure {A} {Answers} later alike = record {
  goes = λ old answer new h. beside_later old new (later old.disk answer new.disk h.reads) h.outside.cabinet h.outside.entropy;
  settles = λ old old' answer answer' new new' both memory memory' h h'.
      let is = alike old.disk old'.disk answer answer' new.disk new'.disk both.same.disk both.quiet.disk both.quiet'.disk h.reads h'.reads in
      beside_settled old old' answer answer' new new' both is.0 is.1 (same_holding old old' new new' both.same h.holding h'.holding) h.outside.cabinet h'.outside.cabinet h.outside.entropy h'.outside.entropy;
}

-- ---- a device sector is read

-- the result is made of the bytes of the device sector of this number, which is read once
record AnswersSector {X : Type 0} (place : ℕ) (found : List ℕ → X) (c : Content) (d : DiskState) (answer : X) (e : DiskState) : Type 0 where
  is : answer ≡ found (present c place)
  logs : Logs [] d e
  asked : Counted 1 d.reads e.reads

sector_alike : {X : Type 0} (place place' : ℕ) (found : List ℕ → X) (d d' : DiskState) (answer answer' : X) (e e' : DiskState) → (same : AlikeDisk d d') → place' ≡ place
    → AnswersSector place found same.content d answer e → AnswersSector place' found same.content d' answer' e' → (answer' ≡ answer) × AlikeDisk e e'
sector_alike place place' found d d' answer answer' e e' same there h h' =
    (h'.is ∙ ap (λ (n : ℕ). found (present same.content n)) there ∙ sym h.is, logs_alike [] d d' e e' same h.logs h'.logs (counted_same 1 same.reads h.asked h'.asked))

bytes_later : (place : ℕ) (d : DiskState) (answer : Result (List ℕ) Refusal) (e : DiskState) → DeviceSectorAnswer place d answer e → d.faults ≤ e.faults
bytes_later place d (Ok bytes) e h = h.2.faults
bytes_later place d (Err refusals.DeviceFault) e h = h.0.logs.faults
bytes_later place d (Err refusal) e h = absurd h

bytes_are : (place : ℕ) (d : DiskState) (c : Content) (answer : Result (List ℕ) Refusal) (e : DiskState) → d.content ≡ Some c → ¬ Rose d.faults e.faults → DeviceSectorAnswer place d answer e → AnswersSector place (λ bytes. Ok bytes) c d answer e
bytes_are place d c (Ok bytes) e told quiet h = record { is = ap (λ (b : List ℕ). Ok b) (given_by d c place bytes told h.1); logs = h.2; asked = h.3 }
bytes_are place d c (Err refusals.DeviceFault) e told quiet h = absurd (quiet h.0.rose)
bytes_are place d c (Err refusal) e told quiet h = absurd h

pub reads_device_sector_sure : (place : ℕ) → Sure (ReadsDeviceSector place)
reads_device_sector_sure place =
    reads_sure (bytes_later place)
    (λ d d' answer answer' e e' same quiet quiet' h h'. sector_alike place place _ d d' answer answer' e e' same refl (bytes_are place d same.content answer e same.told quiet h) (bytes_are place d' same.content answer' e' same.told' quiet' h'))

-- the image is too small, which its size in bytes says, and nothing is read
record AnswersSmall {X : Type 0} (small : ℕ → X) (d : DiskState) (answer : X) (e : DiskState) : Type 0 where
  few : d.size + 1 ≤ 2
  is : answer ≡ small (512 * d.size)
  unchanged : e ≡ d

-- the last sector is read
record AnswersLast {X : Type 0} (found : List ℕ → X) (c : Content) (d : DiskState) (answer : X) (e : DiskState) : Type 0 where
  enough : 2 ≤ d.size
  sector : AnswersSector (last_sector d) found c d answer e

last_alike : {X : Type 0} (small : ℕ → X) (found : List ℕ → X) (d d' : DiskState) (answer answer' : X) (e e' : DiskState) → (same : AlikeDisk d d') → AnswersSmall small d answer e ⊎ AnswersLast found same.content d answer e
    → AnswersSmall small d' answer' e' ⊎ AnswersLast found same.content d' answer' e' → (answer' ≡ answer) × AlikeDisk e e'
last_alike small found d d' answer answer' e e' same (inl h) (inl h') =
    (h'.is ∙ ap (λ (n : ℕ). small (512 * n)) same.size ∙ sym h.is, still_disk d d' e e' same h.unchanged h'.unchanged)
last_alike small found d d' answer answer' e e' same (inl h) (inr h') = absurd (omega (arith, h.few, h'.enough, same.size))
last_alike small found d d' answer answer' e e' same (inr h) (inl h') = absurd (omega (arith, h.enough, h'.few, same.size))
last_alike small found d d' answer answer' e e' same (inr h) (inr h') =
    sector_alike (last_sector d) (last_sector d') found d d' answer answer' e e' same (ap (λ (n : ℕ). n - 1) same.size) h.sector h'.sector

-- ---- the metadata are read

as_read : Result Metadata MetaFault → Result Metadata ReadMetaFault
as_read (Ok m) = Ok m
as_read (Err fault) = Err (Meta fault)

metadata_later : (d : DiskState) (read : Result Metadata ReadMetaFault) (e : DiskState) → ReadsMetadata d read e → d.faults ≤ e.faults
metadata_later d (Ok m) e h = h.logs.faults
metadata_later d (Err (TooSmall size)) e h = same_disk_later d e h.2
metadata_later d (Err DeviceFault) e h = h.fails.logs.faults
metadata_later d (Err (Meta fault)) e h = h.logs.faults

metadata_is : (d : DiskState) (c : Content) (read : Result Metadata ReadMetaFault) (e : DiskState) → d.content ≡ Some c → ¬ Rose d.faults e.faults → ReadsMetadata d read e
    → AnswersSmall (λ size. Err (TooSmall size)) d read e ⊎ AnswersLast (λ bytes. as_read (metadata_in bytes)) c d read e
unfolding as_read
metadata_is d c (Ok m) e told quiet h = inr (record {
  enough = h.enough;
  sector = record { is = ap as_read (h.answered ∙ ap metadata_in (given_by d c (last_sector d) h.bytes told h.told)); logs = h.logs; asked = h.asked };
})
metadata_is d c (Err (TooSmall size)) e told quiet h = inl (record { few = omega (arith, h.0); is = ap (λ (n : ℕ). Err (TooSmall n)) h.1; unchanged = h.2 })
metadata_is d c (Err DeviceFault) e told quiet h = absurd (quiet h.fails.rose)
metadata_is d c (Err (Meta fault)) e told quiet h = inr (record {
  enough = h.enough;
  sector = record { is = ap as_read (h.answered ∙ ap metadata_in (given_by d c (last_sector d) h.bytes told h.told)); logs = h.logs; asked = h.asked };
})

metadata_alike : (d d' : DiskState) (read read' : Result Metadata ReadMetaFault) (e e' : DiskState) → AlikeDisk d d' → ¬ Rose d.faults e.faults → ¬ Rose d'.faults e'.faults → ReadsMetadata d read e → ReadsMetadata d' read' e'
    → (read' ≡ read) × AlikeDisk e e'
metadata_alike d d' read read' e e' same quiet quiet' h h' =
    last_alike _ _ d d' read read' e e' same (metadata_is d same.content read e same.told quiet h) (metadata_is d' same.content read' e' same.told' quiet' h')

reads_later : (d : DiskState) (answer : Result Metadata Refusal) (e : DiskState) → Reads d answer e → d.faults ≤ e.faults
reads_later d answer e h = metadata_later d h.read e h.reads

reads_alike : ReadsAlike Reads
reads_alike d d' answer answer' e e' same quiet quiet' h h' =
    let is = metadata_alike d d' h.read h'.read e e' same quiet quiet' h.reads h'.reads in
    (h'.answered ∙ ap (or_refusal read_refusal_of) is.0 ∙ sym h.answered, is.1)

pub reads_last_sure : Sure ReadsLastSector
reads_last_sure = reads_sure reads_later reads_alike

-- ---- sectors are read

run_later : (k : Keying) (sector count : ℕ) (d : DiskState) (answer : Result (List ℕ) Refusal) (e : DiskState) → SectorsAnswer k sector count d answer e → d.faults ≤ e.faults
run_later k sector count d (Ok bytes) e h = h.1.faults
run_later k sector count d (Err (refusals.Integrity offset)) e h = h.logs.faults
run_later k sector count d (Err refusals.DeviceFault) e h = h.fails.logs.faults
run_later k sector count d (Err refusal) e h = absurd h

-- the bytes, or the first unit whose tag differs, as a refusal
as_run : Result (List ℕ) ℕ → Result (List ℕ) Refusal
as_run (Ok bytes) = Ok bytes
as_run (Err offset) = Err (refusals.Integrity offset)

-- the number of reads, by what is read: up to the unit whose tag differs
units_asked : Keying → ℕ → ℕ → Result (List ℕ) ℕ → ℕ → Type 0
units_asked k sector count (Ok bytes) many = many ≡ count * units k
units_asked k sector count (Err offset) many = offset + 512 ≡ 512 * (sector * units k + many)

record ReadsRun (k : Keying) (sector count : ℕ) (c : Content) (d : DiskState) (answer : Result (List ℕ) Refusal) (e : DiskState) : Type 0 where
  is : answer ≡ as_run (data_reading k c sector count)
  many : ℕ
  asks : units_asked k sector count (data_reading k c sector count) many
  logs : Logs [] d e
  asked : Counted many d.reads e.reads

read_by : (d : DiskState) (k : Keying) (c : Content) (sector count : ℕ) (answer : Result (List ℕ) ℕ) → d.content ≡ Some c → ReadsAs d k sector count answer → data_reading k c sector count ≡ answer
read_by d k c sector count answer told h = let P : Option Content → Type 0 = λ o. ReadsFrom o k sector count answer in subst P told h

run_is : (k : Keying) (sector count : ℕ) (c : Content) (d : DiskState) (answer : Result (List ℕ) Refusal) (e : DiskState) → d.content ≡ Some c → ¬ Rose d.faults e.faults → SectorsAnswer k sector count d answer e
    → ReadsRun k sector count c d answer e
unfolding as_run units_asked
run_is k sector count c d (Ok bytes) e told quiet h =
    let read = read_by d k c sector count (Ok bytes) told h.2 in
    record { is = ap as_run (sym read); many = count * units k; asks = rw read refl; logs = h.1; asked = h.3 }
run_is k sector count c d (Err (refusals.Integrity offset)) e told quiet h =
    let read = read_by d k c sector count (Err offset) told h.reads in
    let place : offset + 512 ≡ 512 * (sector * units k + (h.passed * units k + h.unit + 1)) = omega (arith, h.place) in
    record { is = ap as_run (sym read); many = h.passed * units k + h.unit + 1; asks = rw read place; logs = h.logs; asked = h.asked }
run_is k sector count c d (Err refusals.DeviceFault) e told quiet h = absurd (quiet h.fails.rose)
run_is k sector count c d (Err refusal) e told quiet h = absurd h

asks_same : (k : Keying) (sector count : ℕ) (reading : Result (List ℕ) ℕ) (many many' : ℕ) → units_asked k sector count reading many → units_asked k sector count reading many' → many' ≡ many
unfolding units_asked
asks_same k sector count (Ok bytes) many many' h h' = h' ∙ sym h
asks_same k sector count (Err offset) many many' h h' = omega (arith, h, h')

run_alike : (k : Keying) (sector count : ℕ) → ReadsAlike (SectorsAnswer k sector count)
run_alike k sector count d d' answer answer' e e' same quiet quiet' h h' =
    let r = run_is k sector count same.content d answer e same.told quiet h in
    let r' = run_is k sector count same.content d' answer' e' same.told' quiet' h' in
    let many = asks_same k sector count (data_reading k same.content sector count) r.many r'.many r.asks r'.asks in
    let P : ℕ → Type 0 = λ n. Counted n d'.reads e'.reads in
    (r'.is ∙ sym r.is, logs_alike [] d d' e e' same r.logs r'.logs (counted_same r.many same.reads r.asked (subst P many r'.asked)))

pub reads_sectors_sure : (a : Attachment) (sector count : ℕ) → Sure (ReadsSectors a sector count)
reads_sectors_sure a sector count = reads_sure (run_later a.keying sector count) (run_alike a.keying sector count)
