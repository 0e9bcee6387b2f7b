-- `kill`: the metadata are destroyed (geli(8)).
use Rattle.std.specs.Prelude.{Bool, List, None, Ok, Result, length, ℕ, ◌≡◌, ◌≤◌}
use Rattle.command_rows.specs.Rows.{Idle, LacksRoom, NoBadFile, OfOther, Reach, Replies, Then, Verb, asks_nothing, done_or, places_nothing}
use Rattle.command_rows.specs.Vocabulary.{AtEachMoment, DiskState, Event, HoldsNoMetadata, Kills, Refusal, Span, kill_events, last_sector, trash_size}

-- the drawer is idle from now on, even if it was attached, and its disk reports what it reported
abbrev pub Withdraws : Reach → Result (Unit {0}) Refusal → Reach → Type 0
Withdraws old answer new =
    (answer ≡ Ok tt) × (new ≡ record { disk = old.disk; holding = Idle; cabinet = old.cabinet; entropy = old.entropy })

-- the metadata are destroyed, and all else stays
pub record DestroysMetadata (old : Reach) (answer : Result (Unit {0}) Refusal) (new : Reach) : Type 0 where
  pub kills : Kills old.disk old.entropy answer new.disk new.entropy
  pub holding : new.holding ≡ old.holding
  pub cabinet : new.cabinet ≡ old.cabinet

-- `kill`: an attached provider is detached first, without a flush
abbrev pub KillRow : Reach → Result (Unit {0}) Refusal → Reach → Type 0
KillRow old answer new = Then Withdraws (λ _. DestroysMetadata) old answer new

-- the last sector is written over in six passes
pub record OverwritesLast (disk : DiskState) (events : List Event) : Type 0 where
  pub random : List ℕ
  pub size : length random ≡ trash_size
  pub are : events ≡ kill_events disk random

-- once a flush landed, no value that the last sector may hold is metadata
abbrev pub LeavesNoMetadata : DiskState → Bool → DiskState → Type 0
LeavesNoMetadata old done new = AtEachMoment (HoldsNoMetadata (last_sector old)) old.content new.content

-- the verb
abbrev pub kill_verb : Span → Verb
kill_verb prov = record {
  goes_through = λ line old reply new. Replies done_or KillRow old reply new;
  fits = λ line old. 2 ≤ old.disk.size;
  grounds = λ line old refusal. LacksRoom old.disk refusal;
  bad_file = NoBadFile;
  events = λ line disk holding events. OverwritesLast disk events;
  changes = λ line told holding old done new. LeavesNoMetadata old done new;
  stored_file = None;
  asks = asks_nothing;
  places = places_nothing;
  kind = OfOther;
}
