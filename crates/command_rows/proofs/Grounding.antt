-- Why steps on metadata, keys and files are refused, by what the line found at its start.
use Rattle.std.proofs.Common.{◌≡◌, ◌∙◌, ℕ, ◌≤◌, List, refl, ap, sym, subst, inl, inr, arith, true, Option, None, Some, Result, Ok, Err, IfSome}
use Rattle.block_traits.proofs.Causes.{Rose-earlier}
use Rattle.eli_base.specs.declared.refusals.Refusal.TheVariants as refusals
use Rattle.eli_metadata.specs.declared.place.ReadMetaFault.TheVariants.{TooSmall, DeviceFault, Meta}
use Rattle.key_components.proofs.Causes.{StopsAtFile-cause, StopsAtFile-earlier}
use Rattle.command_rows.specs.Causes.{LineHasCause, may_lack_memory}
use Rattle.command_rows.specs.Grounds.{FindsBadFile, HasGround, IsGround}
use Rattle.command_rows.specs.Rows.{AreComponents, Decides, HasMetadata, HoldsNone, IsFile, LacksMetadata, LoadsComponents, LoadsFile, Reach, ReadsLastSector, RefusesFiles, StoreAnswers, or_refusal}
use Rattle.command_rows.specs.Vocabulary.{CabinetState, Command, Components, DiskState, EntropyState, Files, KeyWords, Metadata, ReadMetaFault, ReadsLast, ReadsMetadata, Refusal, Span, bytes_at, components_of, file_answer, read_refusal_of, refusal_of}
use Rattle.command_rows.proofs.Causing.{Why}
use Rattle.command_rows.proofs.Plain.{PlainAnswer, meta_plain}

-- ---- grounds

-- what makes a ground of a command, and what makes a bad file of it
abbrev pub Grounds : List ℕ → Command → Reach → (Refusal → Type 0) → Type 0
Grounds line command start Ground = (refusal : Refusal) → Ground refusal → HasGround line command start refusal

abbrev pub BadFiles : List ℕ → Command → Reach → (Refusal → CabinetState → Type 0) → Type 0
BadFiles line command start Refuses = (refusal : Refusal) (cabinet : CabinetState) → Refuses refusal cabinet → FindsBadFile line command start.holding start.cabinet refusal cabinet

pub plain_cause : (line : List ℕ) (command : Command) (old : Reach) (refusal : Refusal) (new : Reach) → IsGround refusal → HasGround line command old refusal → LineHasCause line command old refusal new
plain_cause line command old refusals.NotAttached new plain ground = absurd plain
plain_cause line command old refusals.StillAttached new plain ground = absurd plain
plain_cause line command old refusals.Suspended new plain ground = absurd plain
plain_cause line command old refusals.NotSuspended new plain ground = absurd plain
plain_cause line command old refusals.ReadOnly new plain ground = absurd plain
plain_cause line command old (refusals.OutOfRange sector count there) new plain ground = absurd plain
plain_cause line command old (refusals.BadLength given size) new plain ground = absurd plain
plain_cause line command old (refusals.Integrity offset) new plain ground = absurd plain
plain_cause line command old refusals.DeviceFault new plain ground = absurd plain
plain_cause line command old refusals.EntropyFault new plain ground = absurd plain
plain_cause line command old (refusals.CabinetFault word) new plain ground = absurd plain
plain_cause line command old (refusals.FileAbsent word) new plain ground = absurd plain
plain_cause line command old (refusals.FileTooLong word limit) new plain ground = absurd plain
plain_cause line command old refusals.NoMemory new plain ground = absurd plain
plain_cause line command old refusals.QueueFull new plain ground = absurd plain
plain_cause line command old (refusals.NoRequest tag) new plain ground = absurd plain
plain_cause line command old (refusals.RequestNotDone tag left) new plain ground = absurd plain
plain_cause line command old (refusals.RequestDone tag) new plain ground = absurd plain
plain_cause line command old (refusals.RequestsOpen count) new plain ground = absurd plain
plain_cause line command old refusals.NotAuthenticated new plain ground = absurd plain
plain_cause line command old refusal new plain ground = (plain, ground)

pub decides_why : {A : Type 0} (line : List ℕ) (command : Command) (start : Reach) (decided : Result A Refusal) (old : Reach) (answer : Result A Refusal) (new : Reach) → PlainAnswer decided → Grounds line command start (λ refusal. decided ≡ Err refusal)
    → Decides decided old answer new → Why line command start answer new
decides_why line command start (Ok value) old answer new plain ground h = rw h.0 tt
decides_why line command start (Err refusal) old answer new plain ground h = rw h.0 (plain_cause line command start refusal new plain (ground refusal refl))

-- ---- what a later step finds

-- the size and the files are as the line found them, and no count fell
pub record Since (start now : Reach) : Type 0 where
  pub size : now.disk.size ≡ start.disk.size
  pub files : now.cabinet.files ≡ start.cabinet.files
  pub disk : start.disk.faults ≤ now.disk.faults
  pub cabinet : start.cabinet.faults ≤ now.cabinet.faults
  pub misses : start.cabinet.misses ≤ now.cabinet.misses
  pub entropy : start.entropy.faults ≤ now.entropy.faults

since_then : (start middle now : Reach) → Since start middle → Since middle now → Since start now
since_then start middle now a b = record {
  size = b.size ∙ a.size;
  files = b.files ∙ a.files;
  disk = omega (arith, a.disk, b.disk);
  cabinet = omega (arith, a.cabinet, b.cabinet);
  misses = omega (arith, a.misses, b.misses);
  entropy = omega (arith, a.entropy, b.entropy);
}

-- nothing changed
pub since_same : (start middle now : Reach) → Since start middle → now ≡ middle → Since start now
since_same start middle now since is = subst (λ (r : Reach). Since start r) (sym is) since

-- the disk alone changed, and its size stays
since_disk : (old now : Reach) → now.disk.size ≡ old.disk.size → old.disk.faults ≤ now.disk.faults → now.cabinet ≡ old.cabinet → now.entropy ≡ old.entropy → Since old now
since_disk old now size disk cabinet entropy =
    let faults : now.cabinet.faults ≡ old.cabinet.faults = ap (λ (c : CabinetState). c.faults) cabinet in
    let misses : now.cabinet.misses ≡ old.cabinet.misses = ap (λ (c : CabinetState). c.misses) cabinet in
    let drawn : now.entropy.faults ≡ old.entropy.faults = ap (λ (e : EntropyState). e.faults) entropy in
    record { size = size; files = ap (λ (c : CabinetState). c.files) cabinet; disk = disk; cabinet = omega (arith, faults); misses = omega (arith, misses); entropy = omega (arith, drawn) }

-- the counts of the cabinet alone changed
pub since_cabinet : (old now : Reach) → now.disk ≡ old.disk → now.entropy ≡ old.entropy → now.cabinet.files ≡ old.cabinet.files → old.cabinet.faults ≤ now.cabinet.faults → old.cabinet.misses ≤ now.cabinet.misses → Since old now
since_cabinet old now disk entropy files cabinet misses =
    let faults : now.disk.faults ≡ old.disk.faults = ap (λ (d : DiskState). d.faults) disk in
    let drawn : now.entropy.faults ≡ old.entropy.faults = ap (λ (e : EntropyState). e.faults) entropy in
    record { size = ap (λ (d : DiskState). d.size) disk; files = files; disk = omega (arith, faults); cabinet = cabinet; misses = misses; entropy = omega (arith, drawn) }

-- ---- the metadata are read

read_why : (line : List ℕ) (command : Command) (old : Reach) (read : Result Metadata ReadMetaFault) (answer : Result Metadata Refusal) (new : Reach) → Grounds line command old (LacksMetadata old.disk) → ReadsMetadata old.disk read new.disk
    → answer ≡ or_refusal read_refusal_of read → Why line command old answer new
read_why line command old (Ok m) answer new lacks h is = rw is tt
read_why line command old (Err (TooSmall size)) answer new lacks h is = rw is (tt, lacks (refusals.TooSmall size) (inl (h.0, ap (λ (n : ℕ). refusals.TooSmall n) h.1)))
read_why line command old (Err DeviceFault) answer new lacks h is = rw is h.fails.rose
read_why line command old (Err (Meta fault)) answer new lacks h is =
    let found : HoldsNone old.disk (refusal_of fault) = record { enough = h.enough; fault = fault; found = record { bytes = h.bytes; whole = h.whole; told = h.told; read = sym h.answered }; refused = refl } in
    rw is (plain_cause line command old (refusal_of fault) new (meta_plain fault) (lacks (refusal_of fault) (inr found)))

pub reading_why : (line : List ℕ) (command : Command) (old : Reach) (answer : Result Metadata Refusal) (new : Reach) → Grounds line command old (LacksMetadata old.disk) → ReadsLastSector old answer new → Why line command old answer new
reading_why line command old answer new lacks h = read_why line command old h.reads.read answer new lacks h.reads.reads h.reads.answered

read_last : (old new : DiskState) (read : Result Metadata ReadMetaFault) (m : Metadata) → Ok m ≡ or_refusal read_refusal_of read → ReadsMetadata old read new → ReadsLast old (Ok m) new
read_last old new (Ok found) m is h = let same : found ≡ m = cc is in subst (λ (x : Metadata). ReadsLast old (Ok x) new) same h
read_last old new (Err fault) m is h = absurd (let none : ⊥ = cc is in none)

reading_last : (old : Reach) (m : Metadata) (new : Reach) → ReadsLastSector old (Ok m) new → ReadsLast old.disk (Ok m) new.disk
reading_last old m new h = read_last old.disk new.disk h.reads.read m h.reads.answered h.reads.reads

pub reading_has : (old : Reach) (m : Metadata) (new : Reach) → ReadsLastSector old (Ok m) new → HasMetadata old.disk m
reading_has old m new h =
    let last = reading_last old m new h in
    record { enough = last.enough; found = record { bytes = last.bytes; whole = last.whole; told = last.told; read = sym last.answered } }

pub reading_since : (old : Reach) (m : Metadata) (new : Reach) → ReadsLastSector old (Ok m) new → Since old new
reading_since old m new h = let last = reading_last old m new h in since_disk old new last.logs.size last.logs.faults h.outside.cabinet h.outside.entropy

-- ---- files are loaded

pub told_sym : {T : Type 0} (told : Option Files) (answer : Files → T) (value : T) → IfSome told (λ files. value ≡ answer files) → IfSome told (λ files. answer files ≡ value)
told_sym None answer value h = tt
told_sym (Some files) answer value h = sym h

-- the files of a key that a step finds wrong were so at first
wrong_files : (line : List ℕ) (words : KeyWords) (start old : Reach) (refusal : Refusal) (new : Reach) → IfSome old.cabinet.files (λ files. Err refusal ≡ components_of files line words) → Since start old → LoadsComponents line words old (Err refusal) new
    → RefusesFiles line words start.cabinet refusal new.cabinet
wrong_files line words start old refusal new told since h = record {
  first = subst (λ (f : Option Files). IfSome f (λ files. components_of files line words ≡ Err refusal)) since.files (told_sym old.cabinet.files (λ files. components_of files line words) (Err refusal) told);
  stops = StopsAtFile-earlier line words start.cabinet old.cabinet refusal new.cabinet (record { files = since.files; faults = since.cabinet; misses = since.misses }) h.stops;
}

pub loading_why : (line : List ℕ) (command : Command) (words : KeyWords) (start old : Reach) (answer : Result Components Refusal) (new : Reach) → may_lack_memory command ≡ true → BadFiles line command start (RefusesFiles line words start.cabinet) → Since start old
    → LoadsComponents line words old answer new → Why line command start answer new
loading_why line command words start old (Ok parts) new memory bad since h = tt
loading_why line command words start old (Err (refusals.CabinetFault word)) new memory bad since h = Rose-earlier start.cabinet.faults old.cabinet.faults new.cabinet.faults since.cabinet (StopsAtFile-cause line words old.cabinet (refusals.CabinetFault word) new.cabinet h.stops)
loading_why line command words start old (Err (refusals.FileAbsent word)) new memory bad since h =
    bad (refusals.FileAbsent word) new.cabinet (wrong_files line words start old (refusals.FileAbsent word) new h.told since h)
loading_why line command words start old (Err (refusals.FileTooLong word limit)) new memory bad since h =
    bad (refusals.FileTooLong word limit) new.cabinet (wrong_files line words start old (refusals.FileTooLong word limit) new h.told since h)
loading_why line command words start old (Err refusals.NoMemory) new memory bad since h = memory
loading_why line command words start old (Err refusal) new memory bad since h = absurd (StopsAtFile-cause line words old.cabinet refusal new.cabinet h.stops)

pub loading_since : (line : List ℕ) (words : KeyWords) (start old : Reach) (answer : Result Components Refusal) (new : Reach) → Since start old → LoadsComponents line words old answer new → Since start new
loading_since line words start old answer new since h = since_then start old new since (since_cabinet old new h.disk h.entropy h.keeps.files h.keeps.faults h.keeps.misses)

-- what was loaded is what the words name in the files that there were at first
pub loading_parts : (line : List ℕ) (words : KeyWords) (start old : Reach) (parts : Components) (new : Reach) → old.cabinet.files ≡ start.cabinet.files → LoadsComponents line words old (Ok parts) new → AreComponents start.cabinet.files line words parts
loading_parts line words start old parts new files h =
    let named = told_sym old.cabinet.files (λ files. components_of files line words) (Ok parts) h.told in
    subst (λ (f : Option Files). AreComponents f line words parts) files (record { named = named; fits = h.fits })

pub loading_bytes : (limit : ℕ) (line : List ℕ) (file : Span) (start old : Reach) (bytes : List ℕ) (new : Reach) → old.cabinet.files ≡ start.cabinet.files → LoadsFile limit line file old (Ok bytes) new → IsFile limit start.cabinet.files line file bytes
loading_bytes limit line file start old bytes new files h =
    let named = told_sym old.cabinet.files (λ files. file_answer file.word limit (files (bytes_at line file))) (Ok bytes) h.told in
    subst (λ (f : Option Files). IsFile limit f line file bytes) files named

-- ---- a file is stored

pub storing_why : (line : List ℕ) (command : Command) (file : Span) (bytes : List ℕ) (start old : Reach) (answer : Result (Unit {0}) Refusal) (new : Reach) → may_lack_memory command ≡ true → start.cabinet.faults ≤ old.cabinet.faults
    → StoreAnswers line file bytes old.cabinet answer new.cabinet → Why line command start answer new
storing_why line command file bytes start old (Ok done) new memory later h = tt
storing_why line command file bytes start old (Err (refusals.CabinetFault word)) new memory later h = Rose-earlier start.cabinet.faults old.cabinet.faults new.cabinet.faults later h.1
storing_why line command file bytes start old (Err refusals.NoMemory) new memory later h = memory
storing_why line command file bytes start old (Err refusal) new memory later h = absurd h
