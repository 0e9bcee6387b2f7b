-- Rows that leave what the drawer does with its disk, and the files, as they are, and that count failures soundly.
use Rattle.std.proofs.Common.{Bool, List, Ok, Option, Result, Some, ℕ}
use Rattle.command_rows.specs.Rows.{Admits, Attachment, Decides, Does, LoadsComponents, NeedsSectors, NeedsWhole, NeedsWritable, Reach, ReadsDeviceSector, ReadsDisk, ReadsLastSector, ReadsSectors, StoresBytes, Then, TriesKey, TryRow, admitted, if_writable, in_range, tried, whole_sectors}
use Rattle.command_rows.specs.Vocabulary.{Components, DiskState, Event, KeyWords, Metadata, Refusal, Settings, Span, media, user_key}
use Rattle.command_rows.proofs.Becoming.{Stays, same_reach, stays_then}
use Rattle.command_rows.proofs.Causing.{Step}
use Rattle.command_rows.proofs.Counting.{Counts, UncountedAnswer, by_plain, components_counts, decision_counts, device_sector_uncounted, does_counts, range_uncounted, reads_uncounted, sectors_uncounted, storing_counts, then_counts, uncounted_step, whole_uncounted, writable_uncounted}
use Rattle.command_rows.proofs.Plain.{or_plain, tried_plain}
use Rattle.command_rows.proofs.Sound.{Sound, sound_step}
use Rattle.command_rows.proofs.Storing.{Stored, Unstored, bytes_stored, decision_unstored, same_files, stored_then, unstored_then}

pub record Still {A : Type 0} (R : Step A) : Type 0 where
  pub counts : Counts R
  pub stays : Stays R
  pub unstored : Unstored R

pub still_sound : {A : Type 0} {R : Step A} → Still R → Sound R
still_sound {A} {R} s = sound_step R s.counts s.stays

pub still_then : {A B : Type 0} {First : Step A} {Next : A → Step B} → Still First → ((a : A) → Still (Next a)) → Still (Then First Next)
still_then {A} {B} {First} {Next} first next = record {
  counts = then_counts first.counts (λ a. (next a).counts);
  stays = stays_then first.stays (λ a. (next a).stays);
  unstored = unstored_then first.unstored (λ a. (next a).unstored);
}

-- ---- the steps

-- a step that changes nothing
pub still_decision : {A : Type 0} (decided : Reach → Result A Refusal) → ((r : Reach) → UncountedAnswer (decided r)) → Still (λ old answer new. Decides (decided old) old answer new)
still_decision decided uncounted = record {
  counts = λ old answer new h. decision_counts (decided old) old answer new (uncounted old) h;
  stays = λ old answer new h. same_reach old new h.1;
  unstored = decision_unstored decided;
}

pub done_still : {A : Type 0} (value : A) → Still (Decides (Ok value))
done_still value = still_decision (λ r. Ok value) (λ r. tt)

-- a step that only reads the disk
pub read_still : {A : Type 0} {Answers : DiskState → Result A Refusal → DiskState → Type 0} → ((old : DiskState) (answer : Result A Refusal) (new : DiskState) → Answers old answer new → UncountedAnswer answer) → Still (ReadsDisk Answers)
read_still {A} {Answers} uncounted = record {
  counts = λ old answer new h. uncounted_step old answer new (uncounted old.disk answer new.disk h.reads) h.outside.cabinet h.outside.entropy;
  stays = λ old answer new h. h.holding;
  unstored = λ old answer new h. same_files old.cabinet new.cabinet h.outside.cabinet;
}

pub reading_still : Still ReadsLastSector
reading_still = read_still reads_uncounted

pub device_sector_still : (place : ℕ) → Still (ReadsDeviceSector place)
device_sector_still place = read_still (device_sector_uncounted place)

pub admitting_still : (m : Metadata) (slot : Option ℕ) → Still (Admits m slot)
admitting_still m slot = still_decision (λ r. admitted m r.disk.size slot) (λ r. by_plain _ (or_plain _))

pub components_still : (line : List ℕ) (words : KeyWords) → Still (LoadsComponents line words)
components_still line words = record {
  counts = components_counts line words;
  stays = λ old answer new h. h.holding;
  unstored = λ old answer new h. record { files = h.keeps.files; stores = h.unstored };
}

trying_still : (m : Metadata) (s : Settings) (slot : Option ℕ) (readonly : Bool) (parts : Components) → Still (TriesKey m s slot readonly parts)
trying_still m s slot readonly parts = still_decision (λ r. tried m s slot readonly (user_key parts m.salt m.iterations)) (λ r. by_plain _ (tried_plain m s slot readonly (user_key parts m.salt m.iterations)))

pub doing_still : (events : List Event) → Still (Does events)
doing_still events = record { counts = does_counts events; stays = λ old answer new h. h.holding; unstored = λ old answer new h. same_files old.cabinet new.cabinet h.outside.cabinet }

pub sectors_still : (a : Attachment) (sector count : ℕ) → Still (ReadsSectors a sector count)
sectors_still a sector count = read_still (sectors_uncounted a sector count)

pub whole_still : (a : Attachment) (bytes : ℕ) → Still (NeedsWhole a bytes)
whole_still a bytes = still_decision (λ r. whole_sectors a.keying.sectorsize bytes) (λ r. whole_uncounted a.keying.sectorsize bytes _)

pub writable_still : (a : Attachment) → Still (NeedsWritable a)
writable_still a = still_decision (λ r. if_writable a.readonly) (λ r. writable_uncounted a.readonly)

pub range_still : (a : Attachment) (sector count : ℕ) → Still (NeedsSectors a sector count)
range_still a sector count = still_decision (λ r. in_range sector count (media a.keying r.disk)) (λ r. range_uncounted sector count _ _)

-- ---- a trial

pub try_still : (line : List ℕ) (slot : Option ℕ) (readonly : Bool) (words : KeyWords) → Still (TryRow line slot readonly words)
try_still line slot readonly words =
    still_then reading_still (λ m. still_then (admitting_still m slot)
    (λ settings. still_then (components_still line words) (λ parts. trying_still m settings slot readonly parts)))

-- ---- rows that store a file

-- a row leaves counts and holding as `Still` says, but may store the file that is named at a place
pub record StillBut {A : Type 0} (line : List ℕ) (file : Option Span) (R : Step A) : Type 0 where
  pub counts : Counts R
  pub stays : Stays R
  pub stored : Stored line file R

pub still_but_sound : {A : Type 0} {line : List ℕ} {file : Option Span} {R : Step A} → StillBut line file R → Sound R
still_but_sound {A} {line} {file} {R} s = sound_step R s.counts s.stays

-- the first step stores nothing
pub still_but_then : {A B : Type 0} {line : List ℕ} {file : Option Span} {First : Step A} {Next : A → Step B} → Still First → ((a : A) → StillBut line file (Next a)) → StillBut line file (Then First Next)
still_but_then {A} {B} {line} {file} {First} {Next} first next = record {
  counts = then_counts first.counts (λ a. (next a).counts);
  stays = stays_then first.stays (λ a. (next a).stays);
  stored = stored_then line file first.unstored (λ a. (next a).stored);
}

pub storing_still : (line : List ℕ) (file : Span) (bytes : List ℕ) → StillBut line (Some file) (StoresBytes line file bytes)
storing_still line file bytes = record { counts = storing_counts line file bytes; stays = λ old answer new h. h.holding; stored = bytes_stored line file bytes }
