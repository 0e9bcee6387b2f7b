-- The steps of which commands consist. The answer of a step is a value or a refusal, and the step may change what the
-- command reaches.
use Rattle.std.specs.Prelude.{Bool, Err, IfErr, IfOk, IfSome, List, None, Ok, Option, Result, Some, [], false, if◌then◌else◌, length, nat_le, true, ℕ, ◌%◌, ◌&&◌, ◌*◌, ◌++◌, ◌+◌, ◌/◌, ◌==◌, ◌||◌, ◌∷◌, ◌≡◌, ◌≤◌}
use Rattle.block_traits.specs.declared.cabinet.StoreFault.{StoreFault}
use Rattle.block_traits.specs.declared.cabinet.StoreFault.TheVariants as store
use Rattle.block_traits.specs.declared.disk.Event.TheVariants.{Flush}
use Rattle.eli_base.specs.Requests.{request_limit}
use Rattle.eli_base.specs.declared.refusals.Refusal.TheVariants as refusals
use Rattle.sector_runs.specs.Reads.{RunFails, RunFault}
use Rattle.command_rows.specs.Vocabulary.{CabinetState, Components, Counted, DiskState, Event, FailsIn, FitsWords, Gives, InitOptions, Inits, IsAnswer, KeepsFiles, KeyFault, KeyWords, Keying, LoadsEach, Logs, MasterKey, MayRefuse, MetaFault, Metadata, ReadMetaFault, ReadsAs, ReadsMetadata, Refusal, Rose, Settings, Span, StopsAtFile, UserKey, bytes_at, components_of, data_writes, encoded, file_answer, key_refusal_of, media_sectors, opened, read_refusal_of, refusal_of, refused_word, size_matches, slot_matches, stored, supported, units, user_key}
use Rattle.command_rows.specs.World.{Attachment, Idle, IsAttached, Reach}

-- ---- one step after another

-- a value goes into the next step; a refusal is the answer, and nothing follows
abbrev pub GoesOn : {A B : Type 0} → (A → Reach → Result B Refusal → Reach → Type 0) → Result A Refusal → Reach → Result B Refusal → Reach → Type 0
GoesOn Next (Ok value) middle answer new = Next value middle answer new
GoesOn Next (Err refusal) middle answer new = (answer ≡ Err refusal) × (new ≡ middle)

-- the first step, and then the next
pub record Then {A B : Type 0} (First : Reach → Result A Refusal → Reach → Type 0) (Next : A → Reach → Result B Refusal → Reach → Type 0)
    (old : Reach) (answer : Result B Refusal) (new : Reach) : Type 0 where
  pub given : Result A Refusal
  pub middle : Reach
  pub first : First old given middle
  pub next : GoesOn Next given middle answer new

-- nothing changes, and this is the answer
abbrev pub Decides : {A : Type 0} → Result A Refusal → Reach → Result A Refusal → Reach → Type 0
Decides decided old answer new = (answer ≡ decided) × (new ≡ old)

-- nothing changes, and the answer is decided by the number of the disk's device sectors alone
abbrev pub DecidesBySize : {A : Type 0} → (ℕ → Result A Refusal) → Reach → Result A Refusal → Reach → Type 0
DecidesBySize decided old answer new = Decides (decided old.disk.size) old answer new

-- a value, or the refusal of a fault
abbrev pub or_refusal : {A F : Type 0} → (F → Refusal) → Result A F → Result A Refusal
or_refusal refusal_of (Ok value) = Ok value
or_refusal refusal_of (Err fault) = Err (refusal_of fault)

-- success without the value, or the refusal
abbrev pub without_value : {A : Type 0} → Result A Refusal → Result (Unit {0}) Refusal
without_value (Ok value) = Ok tt
without_value (Err refusal) = Err refusal

-- the cabinet and the entropy stay
pub record KeepsOutside (old new : Reach) : Type 0 where
  pub cabinet : new.cabinet ≡ old.cabinet
  pub entropy : new.entropy ≡ old.entropy

-- the answer is what is read of the disk, and all else stays
pub record ReadsDisk {A : Type 0} (Answers : DiskState → Result A Refusal → DiskState → Type 0) (old : Reach) (answer : Result A Refusal) (new : Reach) : Type 0 where
  pub reads : Answers old.disk answer new.disk
  pub holding : new.holding ≡ old.holding
  pub outside : KeepsOutside old new

-- ---- a device sector is read by its number

-- what the disk gives there in one read, if it reports its content; or that read failed
abbrev pub DeviceSectorAnswer : ℕ → DiskState → Result (List ℕ) Refusal → DiskState → Type 0
DeviceSectorAnswer place old (Ok bytes) new = (length bytes ≡ 512) × Gives old place bytes × Logs [] old new × Counted 1 old.reads new.reads
DeviceSectorAnswer place old (Err refusals.DeviceFault) new = FailsIn [] old new × Counted 1 old.reads new.reads
DeviceSectorAnswer place old (Err refusal) new = ⊥

abbrev pub ReadsDeviceSector : ℕ → Reach → Result (List ℕ) Refusal → Reach → Type 0
ReadsDeviceSector place old answer new = ReadsDisk (DeviceSectorAnswer place) old answer new

-- ---- the metadata are read

-- what is read of a disk, or the refusal of the fault
pub record Reads (old : DiskState) (answer : Result Metadata Refusal) (new : DiskState) : Type 0 where
  pub read : Result Metadata ReadMetaFault
  pub reads : ReadsMetadata old read new
  pub answered : answer ≡ or_refusal read_refusal_of read

abbrev pub ReadsLastSector : Reach → Result Metadata Refusal → Reach → Type 0
ReadsLastSector old answer new = ReadsDisk Reads old answer new

-- ---- the metadata are admitted for an image of this size and for the slot that is named

-- what was found, unless a further check has a fault; of two faults the first counts
abbrev pub unless_faulty : {A : Type 0} → Result A MetaFault → Result (Unit {0}) MetaFault → Result A MetaFault
unless_faulty (Ok value) (Ok done) = Ok value
unless_faulty (Ok value) (Err fault) = Err fault
unless_faulty (Err fault) check = Err fault

-- what the metadata say of the data: they are supported, and of the size of an image of so many device sectors
abbrev pub settings_for_size : Metadata → ℕ → Result Settings MetaFault
settings_for_size m sectors = unless_faulty (supported m) (size_matches m sectors)

-- the metadata are supported and of the image's size, a slot is set, and so is the one that is named
abbrev pub admitted : Metadata → ℕ → Option ℕ → Result Settings Refusal
admitted m sectors slot = or_refusal refusal_of (unless_faulty (settings_for_size m sectors) (slot_matches m slot))

abbrev pub Admits : Metadata → Option ℕ → Reach → Result Settings Refusal → Reach → Type 0
Admits m slot old answer new = DecidesBySize (λ size. admitted m size slot) old answer new

-- ---- files are loaded, each once, none is stored, and all else stays

-- the components of a key, of files in order
pub record LoadsComponents (line : List ℕ) (words : KeyWords) (old : Reach) (answer : Result Components Refusal) (new : Reach) : Type 0 where
  pub told : IfSome old.cabinet.files (λ files. IsAnswer (components_of files line words) answer)
  pub fits : IfOk answer (FitsWords words)
  pub stops : IfErr answer (λ refusal. StopsAtFile line words old.cabinet refusal new.cabinet)
  pub keeps : KeepsFiles old.cabinet new.cabinet
  pub named : IfErr answer (λ refusal. 1 ≤ length words.files + length words.pass)
  pub asked : LoadsEach (words.files ++ words.pass) old.cabinet answer new.cabinet
  pub unstored : new.cabinet.stores ≡ old.cabinet.stores
  pub disk : new.disk ≡ old.disk
  pub holding : new.holding ≡ old.holding
  pub entropy : new.entropy ≡ old.entropy

-- the file that a place of the line names is loaded once, if it has no more bytes than this limit, and all else stays
pub record LoadsFile (limit : ℕ) (line : List ℕ) (file : Span) (old : Reach) (answer : Result (List ℕ) Refusal) (new : Reach) : Type 0 where
  pub told : IfSome old.cabinet.files (λ files. IsAnswer (file_answer file.word limit (files (bytes_at line file))) answer)
  pub within : IfOk answer (λ bytes. length bytes ≤ limit)
  pub word : IfErr answer (λ refusal. IfSome (refused_word refusal) (λ word. file.word ≡ word))
  pub cause : IfErr answer (MayRefuse limit old.cabinet new.cabinet)
  pub keeps : KeepsFiles old.cabinet new.cabinet
  pub asked : Counted 1 old.cabinet.loads new.cabinet.loads
  pub unstored : new.cabinet.stores ≡ old.cabinet.stores
  pub disk : new.disk ≡ old.disk
  pub holding : new.holding ≡ old.holding
  pub entropy : new.entropy ≡ old.entropy

-- ---- a provider is made, and the cabinet stays

pub record MakesProvider (options : InitOptions) (parts : Components) (old : Reach) (answer : Result Metadata Refusal) (new : Reach) : Type 0 where
  pub inits : Inits options parts old.disk old.entropy answer new.disk new.entropy
  pub holding : new.holding ≡ old.holding
  pub cabinet : new.cabinet ≡ old.cabinet

-- ---- bytes are stored under the name at a place of the line, in one store, and nothing is loaded

-- the file is made or replaced, the others stay, and no count fell
pub record StoresFile (name bytes : List ℕ) (old new : CabinetState) : Type 0 where
  pub files : new.files ≡ stored name bytes old.files
  pub faults : old.faults ≤ new.faults
  pub misses : old.misses ≤ new.misses

-- the refusal of the file that the word names, by the fault of the store
abbrev pub store_refusal : ℕ → StoreFault → Refusal
store_refusal word store.Failed = refusals.CabinetFault word
store_refusal word store.NoMemory = refusals.NoMemory

abbrev pub StoreAnswers : List ℕ → Span → List ℕ → CabinetState → Result (Unit {0}) Refusal → CabinetState → Type 0
StoreAnswers line span bytes old (Ok done) new = StoresFile (bytes_at line span) bytes old new
StoreAnswers line span bytes old (Err (refusals.CabinetFault word)) new = (word ≡ span.word) × Rose old.faults new.faults × KeepsFiles old new
StoreAnswers line span bytes old (Err refusals.NoMemory) new = KeepsFiles old new
StoreAnswers line span bytes old (Err refusal) new = ⊥

pub record StoresBytes (line : List ℕ) (span : Span) (bytes : List ℕ) (old : Reach) (answer : Result (Unit {0}) Refusal) (new : Reach) : Type 0 where
  pub stores : StoreAnswers line span bytes old.cabinet answer new.cabinet
  pub unasked : new.cabinet.loads ≡ old.cabinet.loads
  pub stored : Counted 1 old.cabinet.stores new.cabinet.stores
  pub disk : new.disk ≡ old.disk
  pub holding : new.holding ≡ old.holding
  pub entropy : new.entropy ≡ old.entropy

-- the sector of the metadata is stored, if a place is given
abbrev pub BacksUp : List ℕ → Option Span → Metadata → Reach → Result (Unit {0}) Refusal → Reach → Type 0
BacksUp line None m old answer new = Decides (Ok tt) old answer new
BacksUp line (Some span) m old answer new = StoresBytes line span (encoded m) old answer new

-- ---- a key is tried

-- with what a provider is attached by these settings, with the master key of a slot: no request is open
abbrev pub attachment_by : Settings → Bool → MasterKey × ℕ → Attachment
attachment_by s readonly found = record {
  slot = found.1;
  keying = record { version = s.version; auth = s.auth; cipher = s.cipher; keylen = s.keylen; sectorsize = s.sectorsize; master = found.0.bytes };
  readonly = readonly || s.readonly;
  queue = [];
}

-- the attachment if a slot that is asked for opened, else the refusal of a wrong key
abbrev pub or_wrong_key : Settings → Bool → Option (MasterKey × ℕ) → Result Attachment Refusal
or_wrong_key s readonly None = Err refusals.WrongKey
or_wrong_key s readonly (Some found) = Ok (attachment_by s readonly found)

-- the provider has a sector, and the user key opens a slot that is asked for
abbrev pub tried : Metadata → Settings → Option ℕ → Bool → Result UserKey KeyFault → Result Attachment Refusal
tried m s slot readonly (Err fault) = Err (key_refusal_of fault)
tried m s slot readonly (Ok key) =
    if media_sectors s.auth s.sectorsize s.provsize == 0 then Err (refusals.TooSmall s.provsize) else or_wrong_key s readonly (opened m key.bytes slot)

abbrev pub TriesKey : Metadata → Settings → Option ℕ → Bool → Components → Reach → Result Attachment Refusal → Reach → Type 0
TriesKey m s slot readonly parts old answer new = Decides (tried m s slot readonly (user_key parts m.salt m.iterations)) old answer new

-- ---- the provider is attached, and detached

-- the drawer is attached from now on; or there was no memory, and nothing changes
abbrev pub Attaches : Attachment → Reach → Result (Unit {0}) Refusal → Reach → Type 0
Attaches a old (Ok done) new = new ≡ record { disk = old.disk; holding = IsAttached a; cabinet = old.cabinet; entropy = old.entropy }
Attaches a old (Err refusals.NoMemory) new = new ≡ old
Attaches a old (Err refusal) new = ⊥

-- these events are logged; or the disk failed in them
abbrev pub DoesEvents : List Event → DiskState → Result (Unit {0}) Refusal → DiskState → Type 0
DoesEvents events old (Ok done) new = Logs events old new
DoesEvents events old (Err refusals.DeviceFault) new = FailsIn events old new
DoesEvents events old (Err refusal) new = ⊥

-- the disk is flushed and not read, and the drawer is idle then, even if the flush failed
pub record Detaches (old : Reach) (answer : Result (Unit {0}) Refusal) (new : Reach) : Type 0 where
  pub flushes : DoesEvents (Flush ∷ []) old.disk answer new.disk
  pub unasked : new.disk.reads ≡ old.disk.reads
  pub holding : new.holding ≡ Idle
  pub outside : KeepsOutside old new

-- ---- logical sectors are read and written

-- so many bytes are whole logical sectors of so many bytes each, at least one and not too many: their number
abbrev pub whole_sectors : ℕ → ℕ → Result ℕ Refusal
whole_sectors size bytes =
    if nat_le 1 bytes && nat_le bytes request_limit && (bytes % size == 0) then Ok (bytes / size) else Err (refusals.BadLength bytes size)

abbrev pub NeedsWhole : Attachment → ℕ → Reach → Result ℕ Refusal → Reach → Type 0
NeedsWhole a bytes old answer new = Decides (whole_sectors a.keying.sectorsize bytes) old answer new

-- the provider may be written
abbrev pub if_writable : Bool → Result (Unit {0}) Refusal
if_writable false = Ok tt
if_writable true = Err refusals.ReadOnly

abbrev pub NeedsWritable : Attachment → Reach → Result (Unit {0}) Refusal → Reach → Type 0
NeedsWritable a old answer new = Decides (if_writable a.readonly) old answer new

-- these sectors are there
abbrev pub in_range : ℕ → ℕ → ℕ → Result (Unit {0}) Refusal
in_range sector count there = if nat_le (sector + count) there then Ok tt else Err (refusals.OutOfRange sector count there)

abbrev pub NeedsSectors : Attachment → ℕ → ℕ → Reach → Result (Unit {0}) Refusal → Reach → Type 0
NeedsSectors a sector count old answer new =
    DecidesBySize (λ size. in_range sector count (media_sectors a.keying.auth a.keying.sectorsize (512 * size))) old answer new

-- what the sectors read as, if the disk reports its content, each unit being read once; or the first unit whose tag
-- differs; or the disk failed, all units before having been accepted
abbrev pub SectorsAnswer : Keying → ℕ → ℕ → DiskState → Result (List ℕ) Refusal → DiskState → Type 0
SectorsAnswer k sector count old (Ok bytes) new =
    (length bytes ≡ count * k.sectorsize) × Logs [] old new × ReadsAs old k sector count (Ok bytes) × Counted (count * units k) old.reads new.reads
SectorsAnswer k sector count old (Err (refusals.Integrity offset)) new = RunFault k sector count offset old new
SectorsAnswer k sector count old (Err refusals.DeviceFault) new = RunFails k sector count old new
SectorsAnswer k sector count old (Err refusal) new = ⊥

abbrev pub ReadsSectors : Attachment → ℕ → ℕ → Reach → Result (List ℕ) Refusal → Reach → Type 0
ReadsSectors a sector count old answer new = ReadsDisk (SectorsAnswer a.keying sector count) old answer new

-- these events are done on the disk, of which nothing is read, and all else stays
pub record Does (events : List Event) (old : Reach) (answer : Result (Unit {0}) Refusal) (new : Reach) : Type 0 where
  pub does : DoesEvents events old.disk answer new.disk
  pub unasked : new.disk.reads ≡ old.disk.reads
  pub holding : new.holding ≡ old.holding
  pub outside : KeepsOutside old new

-- the writes of the sealed sectors, in ascending order
abbrev pub WritesSectors : Attachment → ℕ → ℕ → List ℕ → Reach → Result (Unit {0}) Refusal → Reach → Type 0
WritesSectors a sector count bytes old answer new = Does (data_writes a.keying sector count bytes) old answer new
