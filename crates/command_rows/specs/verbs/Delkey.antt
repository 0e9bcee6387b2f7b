-- `delkey`: keys are taken out of their slots (geli(8)).
use Rattle.std.specs.Option.{option_map, option_or}
use Rattle.std.specs.Prelude.{Bool, Err, IsTrue, List, None, Ok, Option, Result, Some, false, length, true, ℕ, ◌≡◌, ◌⊎◌}
use Rattle.eli_base.specs.declared.refusals.Refusal.TheVariants as refusals
use Rattle.key_commands.specs.declared.overwriting.Which.{Which}
use Rattle.key_commands.specs.declared.overwriting.Which.TheVariants as slots
use Rattle.command_rows.specs.Rows.{Decides, HasMetadata, Holding, LacksMetadata, NoBadFile, OfOther, Reach, ReadsLastSector, Replies, ShowsMetadata, Then, Verb, asks_nothing, attachment_in, done_or, places_nothing, without_value}
use Rattle.command_rows.specs.Vocabulary.{AtEachMoment, DeletesKeys, Deletion, DiskState, Event, HasNoKey, HasOtherKeys, HoldsOnceFlushed, IsWithout, KeepsAlone, KeepsOldOr, Metadata, Refusal, Span, deletion_refusal, encoded, filler_size, last_sector, pass_events}

-- the slots that are named: both, or one
abbrev pub named_slots : Bool → Option ℕ → Result Which Refusal
named_slots true slot = Ok slots.All
named_slots false (Some slot) = Ok (slots.One slot)
named_slots false None = Err refusals.KeyNumberNeeded

abbrev pub NamesSlots : Bool → Option ℕ → Reach → Result Which Refusal → Reach → Type 0
NamesSlots all slot old answer new = Decides (named_slots all slot) old answer new

-- the keys are taken out, and all else stays
pub record TakesKeysOut (asked : Deletion) (old : Reach) (answer : Result (Unit {0}) Refusal) (new : Reach) : Type 0 where
  pub made : Result Metadata Refusal
  pub deletes : DeletesKeys asked old.disk old.entropy made new.disk new.entropy
  pub answered : answer ≡ without_value made
  pub holding : new.holding ≡ old.holding
  pub cabinet : new.cabinet ≡ old.cabinet

-- both slots, or the one of this number
abbrev pub DeletesRow : Bool → Bool → Option ℕ → Reach → Result (Unit {0}) Refusal → Reach → Type 0
DeletesRow all force slot old answer new =
    Then ReadsLastSector
    (λ m. Then (NamesSlots all slot)
    (λ which. TakesKeysOut (record { meta = m; which = which; force = force }))) old answer new

-- the slot that gave an attached provider its master key
abbrev pub slot_of : Holding → Option ℕ
slot_of holding = option_map (λ a. a.slot) (attachment_in holding)

-- `delkey`: if no slot is named, an attached drawer means the one that gave its master key
abbrev pub DelkeyRow : Bool → Bool → Option ℕ → Reach → Result (Unit {0}) Refusal → Reach → Type 0
DelkeyRow all force slot old answer new = DeletesRow all force (option_or slot (slot_of old.holding)) old answer new

-- `delkey`: the slots that are named may be cleared
pub record FindsSlots (all force : Bool) (slot : Option ℕ) (old : Reach) : Type 0 where
  pub m : Metadata
  pub shows : ShowsMetadata old.disk m
  pub which : Which
  pub names : named_slots all slot ≡ Ok which
  pub served : deletion_refusal m which force ≡ None

-- the slots that are named are refused
pub record RefusesSlots (all force : Bool) (slot : Option ℕ) (m : Metadata) (refusal : Refusal) : Type 0 where
  pub which : Which
  pub names : named_slots all slot ≡ Ok which
  pub refused : deletion_refusal m which force ≡ Some refusal

-- no slot is named, or it is refused
pub record RefusesDelkey (all force : Bool) (slot : Option ℕ) (old : Reach) (refusal : Refusal) : Type 0 where
  pub m : Metadata
  pub found : HasMetadata old.disk m
  pub refused : (named_slots all (option_or slot (slot_of old.holding)) ≡ Err refusal) ⊎ RefusesSlots all force (option_or slot (slot_of old.holding)) m refusal

-- slots of some metadata are overwritten in the last sector, in six passes
pub record OverwritesKeys (disk : DiskState) (events : List Event) : Type 0 where
  pub m : Metadata
  pub which : Which
  pub random : List ℕ
  pub size : length random ≡ filler_size which
  pub are : events ≡ pass_events disk m which random

-- once `delkey` is done, the last sector holds only the metadata with zeros in the named slots, whose other slot stays
-- as it is
pub record IsCleared (asked : Deletion) (old new : DiskState) : Type 0 where
  pub m : Metadata
  pub without : IsWithout asked m
  pub usable : HasOtherKeys asked m
  pub alone : KeepsAlone (encoded m) (last_sector old) new.content

-- Keys in the last sector are deleted. At each moment each value that the last sector may hold is one from before, or
-- the metadata with other bytes in the named slots, which are clear; once a flush landed only the latter.
pub record ClearsKeys (holding : Holding) (all force : Bool) (slot : Option ℕ) (old : DiskState) (done : Bool) (new : DiskState) : Type 0 where
  pub asked : Deletion
  pub found : HasMetadata old asked.meta
  pub named : named_slots all (option_or slot (slot_of holding)) ≡ Ok asked.which
  pub forced : asked.force ≡ force
  pub kept : KeepsOldOr (HasNoKey asked.meta asked.which) (last_sector old) old.content new.content
  pub flushed : AtEachMoment (HoldsOnceFlushed (HasNoKey asked.meta asked.which) (last_sector old)) old.content new.content
  pub cleared : IsTrue done → IsCleared asked old new

-- the verb
abbrev pub delkey_verb : Span → Bool → Bool → Option ℕ → Verb
delkey_verb prov all force slot = record {
  goes_through = λ line old reply new. Replies done_or (DelkeyRow all force slot) old reply new;
  fits = λ line old. FindsSlots all force (option_or slot (slot_of old.holding)) old;
  grounds = λ line old refusal. LacksMetadata old.disk refusal ⊎ RefusesDelkey all force slot old refusal;
  bad_file = NoBadFile;
  events = λ line disk holding events. OverwritesKeys disk events;
  changes = λ line told holding old done new. ClearsKeys holding all force slot old done new;
  stored_file = None;
  asks = asks_nothing;
  places = places_nothing;
  kind = OfOther;
}
