-- `setkey`, of an idle drawer and of an attached one: a key is put into a slot (geli(8)).
use Rattle.std.specs.Prelude.{Bool, Err, IsTrue, List, MatchOption, None, Ok, Option, Result, Some, if◌then◌else◌, nat_le, unwrap_or, ℕ, ℤ, ◌≡◌, ◌⊎◌}
use Rattle.eli_base.specs.declared.refusals.Refusal.TheVariants as refusals
use Rattle.command_rows.specs.Rows.{Admits, AreComponents, Decides, DecidesBySize, HasMetadata, Holding, LacksMetadata, LoadsComponents, NamesParts, OfOther, Reach, ReadsLastSector, RefusesFiles, Replies, ShowsMetadata, Then, Verb, admitted, asks_nothing, attachment_in, done_or, or_refusal, places_nothing, settings_for_size, without_value}
use Rattle.command_rows.specs.Vocabulary.{CabinetState, Components, DiskState, Event, Files, HasNewKey, IsSectorOf, KeepsAlone, KeepsOldOr, KeyChange, KeyFault, KeyWords, MakesKey, MasterKey, Metadata, Refusal, SetsKey, Settings, Span, UserKey, change_refusal, encoded, key_refusal_of, last_sector, opened, refusal_of, store_events, user_key}

-- a provider with these metadata can be used, in an image of this size, whether or not a slot holds a key
abbrev pub usable : Metadata → ℕ → Result Settings Refusal
usable m sectors = or_refusal refusal_of (settings_for_size m sectors)

abbrev pub IsUsed : Metadata → Reach → Result Settings Refusal → Reach → Type 0
IsUsed m old answer new = DecidesBySize (usable m) old answer new

-- there is a slot of the number that is named, if one is
abbrev pub if_there : Option ℕ → Result (Unit {0}) Refusal
if_there None = Ok tt
if_there (Some slot) = if nat_le slot 1 then Ok tt else Err (refusals.KeyNumberOutOfRange slot)

abbrev pub NeedsSlot : Option ℕ → Reach → Result (Unit {0}) Refusal → Reach → Type 0
NeedsSlot slot old answer new = Decides (if_there slot) old answer new

-- the master key, and the first slot, that a user key opens
abbrev pub or_wrong : Option (MasterKey × ℕ) → Result (MasterKey × ℕ) Refusal
or_wrong None = Err refusals.WrongKey
or_wrong (Some found) = Ok found

abbrev pub slot_opened_by : Metadata → Result UserKey KeyFault → Result (MasterKey × ℕ) Refusal
slot_opened_by m (Err fault) = Err (key_refusal_of fault)
slot_opened_by m (Ok key) = or_wrong (opened m key.bytes None)

abbrev pub OpensSlot : Metadata → Components → Reach → Result (MasterKey × ℕ) Refusal → Reach → Type 0
OpensSlot m parts old answer new = Decides (slot_opened_by m (user_key parts m.salt m.iterations)) old answer new

-- the new key is stored, and all else stays
pub record StoresKey (asked : KeyChange) (old : Reach) (answer : Result (Unit {0}) Refusal) (new : Reach) : Type 0 where
  pub made : Result Metadata Refusal
  pub sets : SetsKey asked old.disk made new.disk
  pub answered : answer ≡ without_value made
  pub holding : new.holding ≡ old.holding
  pub cabinet : new.cabinet ≡ old.cabinet
  pub entropy : new.entropy ≡ old.entropy

-- the new key is put into the named slot, or else into the one that the old key opened
abbrev pub SetsOpened : List ℕ → Option ℤ → Option ℕ → Metadata → Components → MasterKey × ℕ → Reach → Result (Unit {0}) Refusal → Reach → Type 0
SetsOpened line iterations slot m fresh found old answer new =
    StoresKey (record { meta = m; master = found.0.bytes; slot = unwrap_or slot found.1; iterations = iterations; parts = fresh }) old answer new

-- `setkey` on an idle drawer: the files of both keys are loaded, and the old key opens a slot
abbrev pub SetkeyIdleRow : List ℕ → Option ℤ → Option ℕ → KeyWords → KeyWords → Reach → Result (Unit {0}) Refusal → Reach → Type 0
SetkeyIdleRow line iterations slot words fresh old answer new =
    Then ReadsLastSector
    (λ m. Then (Admits m None)
    (λ _. Then (NeedsSlot slot)
    (λ _. Then (LoadsComponents line words)
    (λ parts. Then (LoadsComponents line fresh)
    (λ next. Then (OpensSlot m parts)
    (λ found. SetsOpened line iterations slot m next found)))))) old answer new

-- `setkey` on an attached drawer, by this master key: the files of the new key alone are loaded, and it is put into
-- this slot
abbrev pub SetkeyAttachedRow : List ℕ → Option ℤ → ℕ → List ℕ → KeyWords → Reach → Result (Unit {0}) Refusal → Reach → Type 0
SetkeyAttachedRow line iterations slot master fresh old answer new =
    Then ReadsLastSector
    (λ m. Then (IsUsed m)
    (λ _. Then (NeedsSlot (Some slot))
    (λ _. Then (LoadsComponents line fresh)
    (λ parts. StoresKey (record { meta = m; master = master; slot = slot; iterations = iterations; parts = parts }))))) old answer new

-- `setkey`, by what the drawer does with its disk; if no slot is named, an attached drawer means the one that gave its
-- master key
abbrev pub SetkeyRow : List ℕ → Option ℤ → Option ℕ → KeyWords → KeyWords → Reach → Result (Unit {0}) Refusal → Reach → Type 0
SetkeyRow line iterations slot words fresh old answer new =
    MatchOption (attachment_in old.holding)
    (SetkeyIdleRow line iterations slot words fresh old answer new)
    (λ a. SetkeyAttachedRow line iterations (unwrap_or slot a.slot) a.keying.master fresh old answer new)

-- `setkey`: the new key can be put into the slot
pub record FindsNewKey (line : List ℕ) (iterations : Option ℤ) (slot : ℕ) (master : List ℕ) (fresh : KeyWords) (m : Metadata) (old : Reach) : Type 0 where
  pub parts : Components
  pub names : NamesParts line fresh old.cabinet parts
  pub served : change_refusal (record { meta = m; master = master; slot = slot; iterations = iterations; parts = parts }) ≡ None

-- `setkey` on an idle drawer: the metadata are admitted, and the old key opens a slot
pub record FindsOldKey (line : List ℕ) (iterations : Option ℤ) (slot : Option ℕ) (words fresh : KeyWords) (m : Metadata) (old : Reach) : Type 0 where
  pub settings : Settings
  pub admits : admitted m old.disk.size None ≡ Ok settings
  pub there : if_there slot ≡ Ok tt
  pub parts : Components
  pub names : NamesParts line words old.cabinet parts
  pub found : MasterKey × ℕ
  pub opens : slot_opened_by m (user_key parts m.salt m.iterations) ≡ Ok found
  pub next : FindsNewKey line iterations (unwrap_or slot found.1) found.0.bytes fresh m old

-- `setkey` on an attached drawer: the metadata can be used
pub record FindsAttached (line : List ℕ) (iterations : Option ℤ) (slot : ℕ) (master : List ℕ) (fresh : KeyWords) (m : Metadata) (old : Reach) : Type 0 where
  pub settings : Settings
  pub uses : usable m old.disk.size ≡ Ok settings
  pub there : if_there (Some slot) ≡ Ok tt
  pub next : FindsNewKey line iterations slot master fresh m old

abbrev pub FindsChange : Holding → List ℕ → Option ℤ → Option ℕ → KeyWords → KeyWords → Metadata → Reach → Type 0
FindsChange holding line iterations slot words fresh m old =
    MatchOption (attachment_in holding) (FindsOldKey line iterations slot words fresh m old) (λ a. FindsAttached line iterations (unwrap_or slot a.slot) a.keying.master fresh m old)

pub record FindsSetkey (line : List ℕ) (iterations : Option ℤ) (slot : Option ℕ) (words fresh : KeyWords) (old : Reach) : Type 0 where
  pub m : Metadata
  pub shows : ShowsMetadata old.disk m
  pub change : FindsChange old.holding line iterations slot words fresh m old

-- `setkey` loads the files of the old key for an idle drawer alone
abbrev pub RefusesBoth : Holding → List ℕ → KeyWords → KeyWords → CabinetState → Refusal → CabinetState → Type 0
RefusesBoth holding line words fresh old refusal new =
    MatchOption (attachment_in holding) (RefusesFiles line words old refusal new ⊎ RefusesFiles line fresh old refusal new) (λ a. RefusesFiles line fresh old refusal new)

-- the new key is refused
pub record RefusesNewKey (line : List ℕ) (iterations : Option ℤ) (slot : ℕ) (master : List ℕ) (fresh : KeyWords) (m : Metadata) (old : Reach) (refusal : Refusal) : Type 0 where
  pub parts : Components
  pub named : AreComponents old.cabinet.files line fresh parts
  pub refused : change_refusal (record { meta = m; master = master; slot = slot; iterations = iterations; parts = parts }) ≡ Some refusal

-- the old key opens no slot
pub record RefusesOldKey (line : List ℕ) (words : KeyWords) (m : Metadata) (old : Reach) (refusal : Refusal) : Type 0 where
  pub parts : Components
  pub named : AreComponents old.cabinet.files line words parts
  pub refused : slot_opened_by m (user_key parts m.salt m.iterations) ≡ Err refusal

-- the old key opens a slot, and the new key is refused for the slot that is named, or else for that one
pub record RefusesNext (line : List ℕ) (iterations : Option ℤ) (slot : Option ℕ) (words fresh : KeyWords) (m : Metadata) (old : Reach) (refusal : Refusal) : Type 0 where
  pub parts : Components
  pub named : AreComponents old.cabinet.files line words parts
  pub found : MasterKey × ℕ
  pub opens : slot_opened_by m (user_key parts m.salt m.iterations) ≡ Ok found
  pub refuses : RefusesNewKey line iterations (unwrap_or slot found.1) found.0.bytes fresh m old refusal

-- the metadata can't be used, there is no slot of the number that is named, or one of the keys is refused
abbrev pub RefusesChange : Holding → List ℕ → Option ℤ → Option ℕ → KeyWords → KeyWords → Metadata → Reach → Refusal → Type 0
RefusesChange holding line iterations slot words fresh m old refusal =
    MatchOption (attachment_in holding)
    ((admitted m old.disk.size None ≡ Err refusal) ⊎ (if_there slot ≡ Err refusal) ⊎ RefusesOldKey line words m old refusal ⊎ RefusesNext line iterations slot words fresh m old refusal)
    (λ a. (usable m old.disk.size ≡ Err refusal) ⊎ (if_there (Some (unwrap_or slot a.slot)) ≡ Err refusal) ⊎ RefusesNewKey line iterations (unwrap_or slot a.slot) a.keying.master fresh m old refusal)

pub record RefusesSetkey (line : List ℕ) (iterations : Option ℤ) (slot : Option ℕ) (words fresh : KeyWords) (old : Reach) (refusal : Refusal) : Type 0 where
  pub m : Metadata
  pub found : HasMetadata old.disk m
  pub refused : RefusesChange old.holding line iterations slot words fresh m old refusal

-- the last sector gets some metadata, and then a flush
pub record StoresMetadata (disk : DiskState) (events : List Event) : Type 0 where
  pub m : Metadata
  pub are : events ≡ store_events disk (encoded m)

-- the components that the words of the old key name make a user key that opens the metadata: the master key that it
-- opens them to is wrapped, for the slot that is named, or else for that which it opened
pub record WrapsOpened (told : Option Files) (line : List ℕ) (words : KeyWords) (slot : Option ℕ) (asked : KeyChange) : Type 0 where
  pub parts : Components
  pub named : AreComponents told line words parts
  pub key : UserKey
  pub derived : user_key parts asked.meta.salt asked.meta.iterations ≡ Ok key
  pub found : MasterKey × ℕ
  pub opens : opened asked.meta key.bytes None ≡ Some found
  pub master : asked.master ≡ found.0.bytes
  pub target : asked.slot ≡ unwrap_or slot found.1

-- the master key that is wrapped, and for which slot: for an idle drawer as `WrapsOpened` says; an attached drawer
-- wraps its own, for the slot that is named, or else for the one that gave it
abbrev pub WrapsKey : Holding → Option Files → List ℕ → KeyWords → Option ℕ → KeyChange → Type 0
WrapsKey holding told line words slot asked =
    MatchOption (attachment_in holding) (WrapsOpened told line words slot asked) (λ a. (asked.master ≡ a.keying.master) × (asked.slot ≡ unwrap_or slot a.slot))

-- The metadata in the last sector get a new key, of the components that its words name. At each moment each value that
-- the last sector may hold is one from before or the new metadata; once it's done they are the only one. The new
-- metadata are the old ones but for the slot, its bit and the iterations. The slot opens to the master key with the new
-- user key, and the other slot stays as it is.
pub record PutsKey (holding : Holding) (told : Option Files) (line : List ℕ) (iterations : Option ℤ) (slot : Option ℕ) (words fresh : KeyWords) (old : DiskState) (done : Bool) (new : DiskState) : Type 0 where
  pub asked : KeyChange
  pub found : HasMetadata old asked.meta
  pub wraps : WrapsKey holding told line words slot asked
  pub named : AreComponents told line fresh asked.parts
  pub given : asked.iterations ≡ iterations
  pub m : Metadata
  pub makes : MakesKey asked m
  pub usable : HasNewKey asked m makes.key.bytes
  pub kept : KeepsOldOr (IsSectorOf m) (last_sector old) old.content new.content
  pub alone : IsTrue done → KeepsAlone (encoded m) (last_sector old) new.content

-- the verb
abbrev pub setkey_verb : Span → Option ℤ → Option ℕ → KeyWords → KeyWords → Verb
setkey_verb prov iterations slot words fresh = record {
  goes_through = λ line old reply new. Replies done_or (SetkeyRow line iterations slot words fresh) old reply new;
  fits = λ line old. FindsSetkey line iterations slot words fresh old;
  grounds = λ line old refusal. LacksMetadata old.disk refusal ⊎ RefusesSetkey line iterations slot words fresh old refusal;
  bad_file = λ line holding old refusal new. RefusesBoth holding line words fresh old refusal new;
  events = λ line disk holding events. StoresMetadata disk events;
  changes = λ line told holding old done new. PutsKey holding told line iterations slot words fresh old done new;
  stored_file = None;
  asks = asks_nothing;
  places = places_nothing;
  kind = OfOther;
}
