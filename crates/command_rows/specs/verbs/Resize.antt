-- `resize`: the metadata move with an image that grew (geli(8)).
use Rattle.std.specs.Prelude.{Bool, IsTrue, List, None, Ok, Result, Some, length, ℕ, ◌≡◌, ◌⊎◌}
use Rattle.command_rows.specs.Rows.{IsReadAs, NoBadFile, OfOther, Reach, Replies, ShowsMetadataAt, Verb, asks_nothing, done_or, places_nothing}
use Rattle.command_rows.specs.Vocabulary.{DiskState, Event, KeepsAlone, KeepsOneOf, MetaFault, Metadata, Refusal, Resizes, Span, encoded, grown, last_sector, move_events, old_place, old_refusal, size_refusal, trash_size}

-- the metadata move to the end of the image, which had so many bytes before, and all else stays
pub record MovesMetadata (oldsize : ℕ) (old : Reach) (answer : Result (Unit {0}) Refusal) (new : Reach) : Type 0 where
  pub resizes : Resizes oldsize old.disk old.entropy answer new.disk new.entropy
  pub holding : new.holding ≡ old.holding
  pub cabinet : new.cabinet ≡ old.cabinet

-- `resize`, of an idle drawer
abbrev pub ResizeRow : ℕ → Reach → Result (Unit {0}) Refusal → Reach → Type 0
ResizeRow oldsize old answer new = MovesMetadata oldsize old answer new

-- `resize`: the image grew, and the old place has metadata of the old size
pub record FindsOldPlace (oldsize : ℕ) (old : Reach) : Type 0 where
  pub sizes : size_refusal old.disk.size oldsize ≡ None
  pub m : Metadata
  pub shows : ShowsMetadataAt old.disk (old_place oldsize) m
  pub served : old_refusal (Ok m) oldsize ≡ None

-- what stands in the last sector of the image as it was is refused
pub record RefusesOldPlace (oldsize : ℕ) (old : Reach) (refusal : Refusal) : Type 0 where
  pub sizes : size_refusal old.disk.size oldsize ≡ None
  pub found : Result Metadata MetaFault
  pub read : IsReadAs old.disk (old_place oldsize) found
  pub refused : old_refusal found oldsize ≡ Some refusal

-- the last sector gets some metadata, between two flushes, and then the last sector of the image as it was is written
-- over in six passes
pub record MovesLast (oldsize : ℕ) (disk : DiskState) (events : List Event) : Type 0 where
  pub m : Metadata
  pub random : List ℕ
  pub size : length random ≡ trash_size
  pub are : events ≡ move_events disk (old_place oldsize) m random

-- The metadata move from the end of the image as it was to the end that it has, with its size. Until a flush landed,
-- each value that any sector may hold is one from before; from then on each image of a crash without an altered sector
-- has the new metadata in the last sector, or the old ones in the old place. Once it's done the last sector holds the
-- new ones alone.
pub record MovesToEnd (oldsize : ℕ) (old : DiskState) (done : Bool) (new : DiskState) : Type 0 where
  pub m : Metadata
  pub found : IsReadAs old (old_place oldsize) (Ok m)
  pub size : m.provsize ≡ oldsize
  pub keeps : KeepsOneOf (grown m old.size) (old_place oldsize) m old new
  pub alone : IsTrue done → KeepsAlone (encoded (grown m old.size)) (last_sector old) new.content

-- the verb
abbrev pub resize_verb : Span → ℕ → Verb
resize_verb prov oldsize = record {
  goes_through = λ line old reply new. Replies done_or (ResizeRow oldsize) old reply new;
  fits = λ line old. FindsOldPlace oldsize old;
  grounds = λ line old refusal. (size_refusal old.disk.size oldsize ≡ Some refusal) ⊎ RefusesOldPlace oldsize old refusal;
  bad_file = NoBadFile;
  events = λ line disk holding events. MovesLast oldsize disk events;
  changes = λ line told holding old done new. MovesToEnd oldsize old done new;
  stored_file = None;
  asks = asks_nothing;
  places = places_nothing;
  kind = OfOther;
}
