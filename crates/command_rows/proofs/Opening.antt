-- `attach -C` opens what `init` made.
use Rattle.std.proofs.Common.{Bool, ◌≡◌, ◌==◌, ◌∙◌, ℕ, ◌-◌, ◌*◌, ◌≤◌, List, ◌∷◌, length, Option, None, Some, IfSome, IsSome, Result, Ok, Err, true, cond, refl, ap, sym, subst, inl, inr, ◌⊎◌, arith, zero, suc, get_or, []}
use Rattle.std.proofs.Math.Nat.{zero-div}
use Rattle.std.proofs.lemmas.Grind.{common_steps}
use Rattle.std.proofs.lemmas.Bool.Decides.{Decides-eqb}
use Rattle.block_traits.specs.declared.disk.Event.TheVariants.{Write, Flush}
use Rattle.block_traits.proofs.Causes.{Rose-earlier}
use Rattle.block_traits.proofs.Contents.{present_after-append}
use Rattle.eli_base.specs.declared.refusals.Refusal.TheVariants as refusals
use Rattle.eli_metadata.specs.declared.place.ReadMetaFault.TheVariants.{TooSmall, DeviceFault, Meta}
use Rattle.key_commands.proofs.Making.{IsUsable-makes}
use Rattle.key_components.proofs.Causes.{StopsAtFile-cause}
use Rattle.key_slots.specs.Slots.{numbered}
use Rattle.command_rows.specs.Opening.{NamesSameKey, OpensOrFails}
use Rattle.command_rows.specs.Rows.{Admits, Attachment, GoesOn, LoadsComponents, MakesProvider, Reach, Reads, Then, TriesKey, TryRow, admitted, attachment_by, or_refusal, or_wrong_key, tried, unless_faulty}
use Rattle.command_rows.specs.Vocabulary.{Auth, CabinetState, Components, Content, DiskState, Event, Files, FitsSize, Gives, GivesFrom, InitOptions, IsAccepted, IsAnswer, IsRefusal, IsUsable, KeyWords, Logs, MasterKey, MayRefusePassphrase, MetaFault, Metadata, OpensFirst, ReadMetaFault, ReadsMetadata, Refusal, Rose, Settings, UserKey, components_of, encoded, init_events, last_sector, logged, master_key_in, media_sectors, metadata_in, opened, present, present_after, read_refusal_of, refusal_of, settings_for, size_matches, slot_matches, units_per_sector, user_key, with_events}

-- ---- what `init` leaves

-- these metadata, which are of use for the components, were written
record Made (options : InitOptions) (parts : Components) (m : Metadata) (old new : DiskState) : Type 0 where
  key : UserKey
  master : List ℕ
  usable : IsUsable options parts old.size m key master
  logs : Logs (init_events old m) old new

Made-provider : (options : InitOptions) (parts : Components) (m : Metadata) (old new : Reach) → MakesProvider options parts old (Ok m) new → Made options parts m old.disk new.disk
Made-provider options parts m old new makes = record {
  key = makes.inits.makes.key;
  master = master_key_in makes.inits.makes.random;
  usable = IsUsable-makes options parts old.disk.size old.entropy m new.entropy makes.inits.makes old.disk.well_formed.bound;
  logs = makes.inits.logs;
}

-- ---- what the last sector holds then

written : (n : ℕ) (m bytes : List ℕ) → cond (n == n) m bytes ≡ m
written n m bytes = let here : (n == n) ≡ true = (Decides-eqb n n).1 refl in rw here refl

present-init : (n : ℕ) (m : List ℕ) (c : Content) → present (with_events (Flush ∷ Write n m ∷ Flush ∷ []) c) n ≡ m
present-init n m c = present_after-append c.history (Flush ∷ Write n m ∷ Flush ∷ []) n (get_or c.base n []) ∙ written n m (present_after c.history n (get_or c.base n []))

-- a content that is reported
record Told (told : Option Content) : Type 0 where
  c : Content
  is : told ≡ Some c

Told-some : (told : Option Content) → IsSome told → Told told
Told-some None some = absurd (cc)
Told-some (Some c) some = record { c = c; is = refl }

size-told : (size : ℕ) (told : Option Content) (c : Content) → told ≡ Some c → FitsSize size told → length c.base ≡ size
size-told size told c is fits = (subst (FitsSize size) is fits).sectors

two_sectors : (auth : Auth) (sectorsize sectors : ℕ) → 1 ≤ media_sectors auth sectorsize (512 * sectors) → 2 ≤ sectors
two_sectors auth sectorsize zero room = let none = zero-div (512 * units_per_sector auth sectorsize) in absurd (omega (arith, none, room))
two_sectors auth sectorsize (suc zero) room = let none = zero-div (512 * units_per_sector auth sectorsize) in absurd (omega (arith, none, room))
two_sectors auth sectorsize (suc (suc n)) room = omega arith

-- the disk has at least two sectors, and the last holds the metadata, which are read as such
record Holds (d : DiskState) (m : Metadata) : Type 0 where
  enough : 2 ≤ d.size
  last : (bytes : List ℕ) → Gives d (last_sector d) bytes → bytes ≡ encoded m
  read : metadata_in (encoded m) ≡ Ok m

gives-told : (told : Option Content) (c : Content) (n : ℕ) (bytes : List ℕ) → told ≡ Some c → GivesFrom told n bytes → bytes ≡ present c n
gives-told told c n bytes is gives = subst (λ (o : Option Content). GivesFrom o n bytes) is gives

size-made : (before made start : DiskState) (events : List Event) → Logs events before made → IsSome before.content → start.content ≡ made.content → start.size ≡ before.size
size-made before made start events logs some same =
    let told = Told-some before.content some in
    let now : made.content ≡ Some (with_events events told.c) = logs.content ∙ ap (logged events) told.is in
    let a = size-told made.size made.content (with_events events told.c) now made.well_formed.fits in
    let b = size-told start.size start.content (with_events events told.c) (same ∙ now) start.well_formed.fits in
    sym b ∙ a ∙ logs.size

Holds-made : (options : InitOptions) (parts : Components) (before made start : DiskState) (m : Metadata) (key : UserKey) (master : List ℕ) → IsUsable options parts before.size m key master
    → Logs (init_events before m) before made → IsSome before.content → start.content ≡ made.content → Holds start m
Holds-made options parts before made start m key master usable logs some same =
    let told = Told-some before.content some in
    let now : made.content ≡ Some (with_events (init_events before m) told.c) = logs.content ∙ ap (logged (init_events before m)) told.is in
    let size : start.size ≡ before.size = size-made before made start (init_events before m) logs some same in
    record {
      enough = rw size (two_sectors options.auth options.sectorsize before.size usable.room);
      last = λ bytes gives.
          gives-told start.content (with_events (init_events before m) told.c) (last_sector before) bytes (same ∙ now) (subst (λ (n : ℕ). GivesFrom start.content (n - 1) bytes) size gives)
          ∙ present-init (last_sector before) (encoded m) told.c;
      read = usable.read;
    }

-- ---- the metadata are read again

-- the metadata were read of a disk that is as large as before
record Again (d d' : DiskState) (m : Metadata) (read : Result Metadata ReadMetaFault) : Type 0 where
  is : read ≡ Ok m
  size : d'.size ≡ d.size
  faults : d.faults ≤ d'.faults

-- the disk failed
record Fails (d d' : DiskState) (read : Result Metadata ReadMetaFault) : Type 0 where
  is : read ≡ Err DeviceFault
  rose : Rose d.faults d'.faults

read_again : (d d' : DiskState) (m : Metadata) (read : Result Metadata ReadMetaFault) → Holds d m → ReadsMetadata d read d' → Again d d' m read ⊎ Fails d d' read
read_again d d' m (Ok m') holds reads =
    let e = holds.last reads.bytes reads.told in
    let h : metadata_in reads.bytes ≡ Ok m = ap metadata_in e ∙ holds.read in
    let k : Ok m' ≡ metadata_in reads.bytes = reads.answered in
    let q : m' ≡ m = cc (h, k) in
    inl (record { is = ap Ok q; size = reads.logs.size; faults = reads.logs.faults })
read_again d d' m (Err (TooSmall size)) holds reads = absurd (omega (arith, holds.enough, reads.0))
read_again d d' m (Err DeviceFault) holds reads = inr (record { is = refl; rose = reads.fails.rose })
read_again d d' m (Err (Meta fault)) holds reads =
    let e = holds.last reads.bytes reads.told in
    let h : metadata_in reads.bytes ≡ Ok m = ap metadata_in e ∙ holds.read in
    let k : Err fault ≡ metadata_in reads.bytes = reads.answered in
    absurd (cc (h, k))

-- ---- the metadata are admitted

slot-accepted : (options : InitOptions) (sectors : ℕ) (m : Metadata) (slot : Option ℕ) → IsAccepted options sectors m → IfSome slot (λ named. named ≡ 0) → slot_matches m slot ≡ Ok tt
slot-accepted options sectors m None accepted first = accepted.any_slot
slot-accepted options sectors m (Some named) accepted first = subst (λ (n : ℕ). slot_matches m (Some n) ≡ Ok tt) (sym first) accepted.slot_0

admitted-accepted : (options : InitOptions) (sectors : ℕ) (m : Metadata) (slot : Option ℕ) → IsAccepted options sectors m → IfSome slot (λ named. named ≡ 0)
    → admitted m sectors slot ≡ Ok (settings_for options sectors)
admitted-accepted options sectors m slot accepted first =
    let s : Settings = settings_for options sectors in
    ap (λ (r : Result Settings MetaFault). or_refusal refusal_of (unless_faulty (unless_faulty r (size_matches m sectors)) (slot_matches m slot))) accepted.settings
    ∙ ap (λ (r : Result (Unit {0}) MetaFault). or_refusal refusal_of (unless_faulty (unless_faulty (Ok s) r) (slot_matches m slot))) accepted.size
    ∙ ap (λ (r : Result (Unit {0}) MetaFault). or_refusal refusal_of (unless_faulty (Ok s) r)) (slot-accepted options sectors m slot accepted first)

-- ---- the key opens them

opened-first : (m : Metadata) (u master : List ℕ) (slot : Option ℕ) → OpensFirst m u master → IfSome slot (λ named. named ≡ 0) → opened m u slot ≡ Some (record { bytes = master }, 0)
opened-first m u master None opens first = opens.any_slot
opened-first m u master (Some named) opens first =
    ap (λ (n : ℕ). opened m u (Some n)) first ∙ ap (λ (o : Option MasterKey). numbered o 0) opens.slot_0

pub has_room : {A : Type 0} (n : ℕ) (small large : A) → 1 ≤ n → cond (n == 0) small large ≡ large
has_room zero small large room = absurd (omega arith)
has_room (suc n) small large room = grind (arith, common_steps)

tried-usable : (options : InitOptions) (parts : Components) (sectors : ℕ) (m : Metadata) (key : UserKey) (master : List ℕ) (slot : Option ℕ) (readonly : Bool)
    → IsUsable options parts sectors m key master → IfSome slot (λ named. named ≡ 0)
    → tried m (settings_for options sectors) slot readonly (user_key parts m.salt m.iterations) ≡ Ok (attachment_by (settings_for options sectors) readonly (record { bytes = master }, 0))
tried-usable options parts sectors m key master slot readonly usable first =
    let s : Settings = settings_for options sectors in
    ap (tried m s slot readonly) usable.derived
    ∙ has_room (media_sectors options.auth options.sectorsize (512 * sectors)) (Err (refusals.TooSmall (512 * sectors))) (or_wrong_key s readonly (opened m key.bytes slot)) usable.room
    ∙ ap (or_wrong_key s readonly) (opened-first m key.bytes master slot usable.opens first)

-- ---- the row

OpensOrFails-refused : (parts : Components) (refusal : Refusal) (old new : Reach) → IsRefusal (Ok parts) refusal → MayRefusePassphrase old.cabinet new.cabinet refusal → OpensOrFails {A = Attachment} old (Err refusal) new
OpensOrFails-refused parts (refusals.CabinetFault word) old new is cause = cause
OpensOrFails-refused parts refusals.NoMemory old new is cause = tt
OpensOrFails-refused parts _ old new is cause = absurd (cc is)

-- opening has its cause since an earlier state too, whose cabinet is the same
OpensOrFails-earlier : (earlier old new : Reach) (answer : Result Attachment Refusal) → earlier.disk.faults ≤ old.disk.faults → old.cabinet ≡ earlier.cabinet
    → OpensOrFails old answer new → OpensOrFails earlier answer new
OpensOrFails-earlier earlier old new (Ok done) later same opens = tt
OpensOrFails-earlier earlier old new (Err refusals.DeviceFault) later same opens = Rose-earlier earlier.disk.faults old.disk.faults new.disk.faults later opens
OpensOrFails-earlier earlier old new (Err (refusals.CabinetFault word)) later same opens = subst (λ (c : CabinetState). Rose c.faults new.cabinet.faults) same opens
OpensOrFails-earlier earlier old new (Err refusals.NoMemory) later same opens = tt
OpensOrFails-earlier earlier old new (Err _) later same opens = absurd opens

OpensOrFails-here : (old middle new : Reach) (answer : Result Attachment Refusal) (refusal : Refusal) → (answer ≡ Err refusal) × (new ≡ middle) → OpensOrFails {A = Attachment} old (Err refusal) middle → OpensOrFails old answer new
OpensOrFails-here old middle new answer refusal ends opens = rw (ends.0, ends.1) opens

-- the files are loaded, and the key is tried
OpensOrFails-key : (line : List ℕ) (words : KeyWords) (m : Metadata) (s : Settings) (slot : Option ℕ) (readonly : Bool) (a : Attachment) (parts : Components) (given : Result Components Refusal) (old middle new : Reach) (answer : Result Attachment Refusal)
    → LoadsComponents line words old given middle → IsAnswer (Ok parts) given → tried m s slot readonly (user_key parts m.salt m.iterations) ≡ Ok a → GoesOn (TriesKey m s slot readonly) given middle answer new
    → OpensOrFails old answer new
OpensOrFails-key line words m s slot readonly a parts (Ok parts') old middle new answer loads told opens next =
    let same : parts' ≡ parts = cc told in
    let done : answer ≡ Ok a = next.0 ∙ ap (λ (p : Components). tried m s slot readonly (user_key p m.salt m.iterations)) same ∙ opens in
    subst (λ (r : Result Attachment Refusal). OpensOrFails old r new) (sym done) tt
OpensOrFails-key line words m s slot readonly a parts (Err refusal) old middle new answer loads told opens next =
    OpensOrFails-here old middle new answer refusal next (OpensOrFails-refused parts refusal old middle told (StopsAtFile-cause line words old.cabinet refusal middle.cabinet loads.stops))

-- the metadata are admitted, and so on
OpensOrFails-admitted : (line : List ℕ) (words : KeyWords) (m : Metadata) (s : Settings) (slot : Option ℕ) (readonly : Bool) (a : Attachment) (parts : Components) (files : Files) (old new : Reach) (answer : Result Attachment Refusal)
    → admitted m old.disk.size slot ≡ Ok s → old.cabinet.files ≡ Some files → components_of files line words ≡ Ok parts → tried m s slot readonly (user_key parts m.salt m.iterations) ≡ Ok a
    → Then (Admits m slot) (λ settings. Then (LoadsComponents line words) (λ parts. TriesKey m settings slot readonly parts)) old answer new → OpensOrFails old answer new
OpensOrFails-admitted line words m s slot readonly a parts files old new answer admits told names opens then =
    let given : then.given ≡ Ok s = then.first.0 ∙ admits in
    let next : Then (LoadsComponents line words) (TriesKey m s slot readonly) then.middle answer new =
    subst (λ (g : Result Settings Refusal). GoesOn (λ settings. Then (LoadsComponents line words) (λ parts. TriesKey m settings slot readonly parts)) g then.middle answer new) given then.next in
    let here : then.middle.cabinet.files ≡ Some files = ap (λ (r : Reach). r.cabinet.files) then.first.1 ∙ told in
    let loaded : IsAnswer (components_of files line words) next.given =
    subst (λ (o : Option Files). IfSome o (λ files. IsAnswer (components_of files line words) next.given)) here next.first.told in
    let ends : OpensOrFails then.middle answer new =
    OpensOrFails-key line words m s slot readonly a parts next.given then.middle next.middle new answer next.first (subst (λ (a : Result Components Refusal). IsAnswer a next.given) names loaded) opens next.next in
    subst (λ (r : Reach). OpensOrFails r answer new) then.first.1 ends

-- the metadata are read, and so on
OpensOrFails-read : (line : List ℕ) (words : KeyWords) (m : Metadata) (s : Settings) (slot : Option ℕ) (readonly : Bool) (a : Attachment) (parts : Components) (files : Files) (old new : Reach) (answer : Result Attachment Refusal)
    → Holds old.disk m → admitted m old.disk.size slot ≡ Ok s → old.cabinet.files ≡ Some files → components_of files line words ≡ Ok parts
    → tried m s slot readonly (user_key parts m.salt m.iterations) ≡ Ok a → TryRow line slot readonly words old answer new → OpensOrFails old answer new
OpensOrFails-read line words m s slot readonly a parts files old new answer holds admits told names opens row =
    let Next : Metadata → Reach → Result Attachment Refusal → Reach → Type 0 =
    λ m. Then (Admits m slot) (λ settings. Then (LoadsComponents line words) (λ parts. TriesKey m settings slot readonly parts)) in
    let reads : Reads old.disk row.given row.middle.disk = row.first.reads in
    elim (read_again old.disk row.middle.disk m reads.read holds reads.reads) [
      | inl again ↦
          let given : row.given ≡ Ok m = reads.answered ∙ ap (or_refusal read_refusal_of) again.is in
          OpensOrFails-earlier old row.middle new answer again.faults row.first.outside.cabinet
          (OpensOrFails-admitted line words m s slot readonly a parts files row.middle new answer
          (ap (λ (n : ℕ). admitted m n slot) again.size ∙ admits)
          (ap (λ (c : CabinetState). c.files) row.first.outside.cabinet ∙ told) names opens
          (subst (λ (g : Result Metadata Refusal). GoesOn Next g row.middle answer new) given row.next))
      | inr failed ↦
          let given : row.given ≡ Err refusals.DeviceFault = reads.answered ∙ ap (or_refusal read_refusal_of) failed.is in
          OpensOrFails-here old row.middle new answer refusals.DeviceFault
          (subst (λ (g : Result Metadata Refusal). GoesOn Next g row.middle answer new) given row.next) failed.rose
    ]

pub OpensOrFails-tried : (options : InitOptions) (line line' : List ℕ) (fresh words : KeyWords) (slot : Option ℕ) (readonly : Bool) (parts : Components) (m : Metadata)
    (before loaded made start after : Reach) (answer : Result Attachment Refusal)
    → LoadsComponents line fresh before (Ok parts) loaded → MakesProvider options parts loaded (Ok m) made
    → IsSome before.disk.content → start.disk.content ≡ made.disk.content
    → NamesSameKey line fresh before.cabinet line' words start.cabinet → IfSome slot (λ named. named ≡ 0)
    → TryRow line' slot readonly words start answer after → OpensOrFails start answer after
OpensOrFails-tried options line line' fresh words slot readonly parts m before loaded made start after answer loads makes told same names first tries =
    let was : Made options parts m before.disk made.disk = subst (λ (d : DiskState). Made options parts m d made.disk) loads.disk (Made-provider options parts m loaded made makes) in
    let usable : IsUsable options parts before.disk.size m was.key was.master = was.usable in
    let size : start.disk.size ≡ before.disk.size = size-made before.disk made.disk start.disk (init_events before.disk m) was.logs told same in
    let named : Ok parts ≡ components_of names.files line fresh =
    subst (λ (o : Option Files). IfSome o (λ files. Ok parts ≡ components_of files line fresh)) names.told loads.told in
    OpensOrFails-read line' words m (settings_for options before.disk.size) slot readonly _ parts names.files' start after answer
    (Holds-made options parts before.disk made.disk start.disk m was.key was.master usable was.logs told same)
    (ap (λ (n : ℕ). admitted m n slot) size ∙ admitted-accepted options before.disk.size m slot usable.accepted first)
    names.told' (names.same ∙ sym named)
    (tried-usable options parts before.disk.size m was.key was.master slot readonly usable first) tries
