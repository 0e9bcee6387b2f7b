-- `verify`: the units of some logical sectors that fail are listed, and the place where the next part begins is stored
-- in a file.
use Rattle.std.specs.Int.{from_le_bytes, w64}
use Rattle.std.specs.List.Sorted.{IsStrictlyIncreasing}
use Rattle.std.specs.Prelude.{All, Bool, Contains, Err, List, None, Ok, Option, Result, Some, [], false, if◌then◌else◌, length, nat_le, nat_lt, true, ℕ, ◌*◌, ◌+◌, ◌↔◌, ◌≡◌, ◌≤◌, ◌⊎◌}
use Rattle.eli_base.specs.declared.refusals.Refusal.TheVariants as refusals
use Rattle.sector_runs.specs.Reads.{FailsAmong}
use Rattle.reply_text.specs.Answer as answers
use Rattle.command_rows.specs.Rows.{Answer, AttachedWith, Attachment, Decides, DecidesBySize, IsFile, LoadsFile, NoChanges, NoEvents, OfSweep, Reach, ReadsDisk, RefusesFile, Replies, StoresBytes, Then, Verb, asks_nothing, places_nothing}
use Rattle.command_rows.specs.Vocabulary.{CabinetState, Counted, DiskState, Fails, Files, IsSector, Keying, Logs, Refusal, Span, StandFrom, Sweep, bytes_at, failing_units, has_tags, le64, media, media_sectors, sectors_swept, sweep_at, units}

-- what a sweep comes to: the byte offsets of the units that fail, and the logical sector where the next one begins
pub record SweptPart : Type 0 where
  pub offsets : List ℕ
  pub next : ℕ

-- ---- the data are authenticated

abbrev pub if_tagged : Bool → Result (Unit {0}) Refusal
if_tagged true = Ok tt
if_tagged false = Err refusals.NotAuthenticated

abbrev pub NeedsTags : Attachment → Reach → Result (Unit {0}) Refusal → Reach → Type 0
NeedsTags a old answer new = Decides (if_tagged (has_tags a.keying.auth)) old answer new

-- ---- the place where the sweep begins

-- the bytes of a place, which are the most that its file may have
abbrev pub place_size : ℕ
place_size = 8

-- what was loaded, or nothing if there is no such file
abbrev pub unless_absent : Result (List ℕ) Refusal → Result (Option (List ℕ)) Refusal
unless_absent (Ok bytes) = Ok (Some bytes)
unless_absent (Err (refusals.FileAbsent word)) = Ok None
unless_absent (Err refusal) = Err refusal

-- the file of the place is loaded, if there is one
pub record LoadsPlace (line : List ℕ) (file : Span) (old : Reach) (answer : Result (Option (List ℕ)) Refusal) (new : Reach) : Type 0 where
  pub loaded : Result (List ℕ) Refusal
  pub loads : LoadsFile place_size line file old loaded new
  pub answered : answer ≡ unless_absent loaded

-- the number that the bytes of a file are, the least significant first; without a file it is the first sector
abbrev pub place_in : ℕ → Option (List ℕ) → Result ℕ Refusal
place_in word None = Ok 0
place_in word (Some bytes) = if nat_lt (length bytes) place_size then Err (refusals.BadPlaceFile word (length bytes)) else Ok (from_le_bytes w64 bytes)

-- the place that the file says; or the first sector if the sweep begins anew, and then no file is loaded
abbrev pub FindsPlace : Bool → List ℕ → Span → Reach → Result ℕ Refusal → Reach → Type 0
FindsPlace true line file old answer new = Decides (Ok 0) old answer new
FindsPlace false line file old answer new = Then (LoadsPlace line file) (λ found. Decides (place_in file.word found)) old answer new

-- a place is no further than the end of the last sector
abbrev pub if_inside : ℕ → ℕ → Result (Unit {0}) Refusal
if_inside place there = if nat_le place there then Ok tt else Err (refusals.BadPlace place there)

abbrev pub NeedsPlace : Attachment → ℕ → Reach → Result (Unit {0}) Refusal → Reach → Type 0
NeedsPlace a place old answer new =
    DecidesBySize (λ size. if_inside place (media_sectors a.keying.auth a.keying.sectorsize (512 * size))) old answer new

-- ---- the sweep

-- so many device sectors from number n on were read once, nothing was logged, and these are the offsets of those that
-- fail
pub record ListsUnits (k : Keying) (n count : ℕ) (offsets : List ℕ) (old new : DiskState) : Type 0 where
  pub sectors : List (List ℕ)
  pub all : length sectors ≡ count
  pub whole : All IsSector sectors
  pub stand : StandFrom old.content n count sectors
  pub listed : offsets ≡ failing_units k n sectors
  pub asked : Counted count old.reads new.reads
  pub logs : Logs [] old new

-- what `ListsUnits` says of each unit: an offset is listed exactly if the unit there fails, of these device sectors as
-- they were read, and once
pub record ListsEachOnce (k : Keying) (n count : ℕ) (offsets : List ℕ) (old : DiskState) : Type 0 where
  pub sectors : List (List ℕ)
  pub all : length sectors ≡ count
  pub stand : StandFrom old.content n count sectors
  pub each : (offset : ℕ) → Contains offsets offset ↔ Fails k n sectors offset
  pub once : IsStrictlyIncreasing offsets

-- the units of the sectors that the sweep goes over are listed, or a read of one of them failed
abbrev pub PartAnswer : Sweep → DiskState → Result SweptPart Refusal → DiskState → Type 0
PartAnswer s old (Ok part) new = (part.next ≡ s.start + sectors_swept s) × ListsUnits s.keying (s.start * units s.keying) (sectors_swept s * units s.keying) part.offsets old new
PartAnswer s old (Err refusals.DeviceFault) new = FailsAmong (sectors_swept s * units s.keying) old new
PartAnswer s old (Err refusal) new = ⊥

abbrev pub Sweeps : Attachment → ℕ → ℕ → Reach → Result SweptPart Refusal → Reach → Type 0
Sweeps a place count old answer new =
    ReadsDisk (λ disk. PartAnswer (sweep_at a.keying (media a.keying disk) place count) disk) old answer new

-- the sweep from a place, if the provider has it
abbrev pub SweepsFrom : Attachment → ℕ → ℕ → Reach → Result SweptPart Refusal → Reach → Type 0
SweepsFrom a place count old answer new = Then (NeedsPlace a place) (λ _. Sweeps a place count) old answer new

-- ---- the row

-- the place of the next part is stored, and then the part is returned
abbrev pub StoresPlace : List ℕ → Span → SweptPart → Reach → Result SweptPart Refusal → Reach → Type 0
StoresPlace line file part old answer new = Then (StoresBytes line file (le64 part.next)) (λ _. Decides (Ok part)) old answer new

-- `verify`, of an attached drawer: from the place on so many sectors are swept, or fewer, and the file is stored last
abbrev pub VerifyRow : List ℕ → Span → ℕ → Bool → Attachment → Reach → Result SweptPart Refusal → Reach → Type 0
VerifyRow line file count restart a old answer new =
    Then (NeedsTags a)
    (λ _. Then (FindsPlace restart line file)
    (λ place. Then (SweepsFrom a place count)
    (λ part. StoresPlace line file part))) old answer new

-- `verify`: there is authentication, and unless the sweep begins anew the cabinet reports its files, of which the named
-- one is absent or says a place that is there
abbrev pub SaysPlace : ℕ → Option (List ℕ) → Type 0
SaysPlace there None = Unit {0}
SaysPlace there (Some bytes) = (length bytes ≡ place_size) × (from_le_bytes w64 bytes ≤ there)

pub record FindsPlaceTold (line : List ℕ) (file : Span) (cabinet : CabinetState) (there : ℕ) : Type 0 where
  pub files : Files
  pub told : cabinet.files ≡ Some files
  pub says : SaysPlace there (files (bytes_at line file))

pub record FitsVerify (line : List ℕ) (file : Span) (restart : Bool) (disk : DiskState) (cabinet : CabinetState) (a : Attachment) : Type 0 where
  pub tagged : has_tags a.keying.auth ≡ true
  pub place : restart ≡ false → FindsPlaceTold line file cabinet (media a.keying disk)

-- the file of a place has more bytes than a place; it isn't loaded if the sweep begins anew, and one that is absent
-- isn't refused
pub record RefusesLong (restart : Bool) (line : List ℕ) (file : Span) (old : CabinetState) (refusal : Refusal) (new : CabinetState) : Type 0 where
  pub loads : restart ≡ false
  pub long : refusal ≡ refusals.FileTooLong file.word place_size
  pub refuses : RefusesFile place_size line file old refusal new

-- the bytes say a place beyond the last of so many sectors
pub record SaysTooFar (word : ℕ) (bytes : List ℕ) (there : ℕ) (refusal : Refusal) : Type 0 where
  pub place : ℕ
  pub says : place_in word (Some bytes) ≡ Ok place
  pub refused : if_inside place there ≡ Err refusal

-- the file has too few bytes for a place, or says one beyond the last sector of what is attached
pub record RefusesPlace (line : List ℕ) (file : Span) (restart : Bool) (disk : DiskState) (told : Option Files) (refusal : Refusal) (a : Attachment) : Type 0 where
  pub loads : restart ≡ false
  pub bytes : List ℕ
  pub named : IsFile place_size told line file bytes
  pub refused : (place_in file.word (Some bytes) ≡ Err refusal) ⊎ SaysTooFar file.word bytes (media a.keying disk) refusal

-- the reply of `verify`
abbrev pub verified_or : Result SweptPart Refusal → Answer
verified_or (Ok part) = answers.Verified part.offsets part.next
verified_or (Err refusal) = answers.Refused refusal

-- the verb
abbrev pub verify_verb : Span → Span → ℕ → Bool → Verb
verify_verb prov file count restart = record {
  goes_through = λ line old reply new. AttachedWith old.holding (λ a. Replies verified_or (VerifyRow line file count restart a) old reply new);
  fits = λ line old. AttachedWith old.holding (FitsVerify line file restart old.disk old.cabinet);
  grounds = λ line old refusal. AttachedWith old.holding (RefusesPlace line file restart old.disk old.cabinet.files refusal);
  bad_file = λ line holding old refusal new. RefusesLong restart line file old refusal new;
  events = NoEvents;
  changes = NoChanges;
  stored_file = Some file;
  asks = asks_nothing;
  places = places_nothing;
  kind = OfSweep prov file count restart;
}
