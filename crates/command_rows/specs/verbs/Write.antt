-- `write`: logical sectors are written.
use Rattle.std.specs.Prelude.{List, None, Ok, Result, false, length, ℕ, ◌+◌, ◌/◌, ◌≡◌, ◌≤◌}
use Rattle.command_rows.specs.Rows.{AsksToWrite, AttachedWith, Attachment, Holding, NeedsSectors, NeedsWhole, NeedsWritable, NoBadFile, NoChanges, NoGround, OfOther, PlacesBytes, Reach, Replies, Spelled, Then, Verb, WritesSectors, bytes_spelled, done_or, whole_sectors}
use Rattle.command_rows.specs.Vocabulary.{DiskState, Event, Refusal, Span, bytes_at, data_writes, media}

-- `write` of these bytes, of an attached drawer
abbrev pub WriteRow : ℕ → List ℕ → Attachment → Reach → Result (Unit {0}) Refusal → Reach → Type 0
WriteRow sector bytes a old answer new =
    Then (NeedsWhole a (length bytes))
    (λ count. Then (NeedsWritable a)
    (λ _. Then (NeedsSectors a sector count)
    (λ _. WritesSectors a sector count bytes))) old answer new

-- the provider may be written, and the bytes are whole sectors that are there
pub record FitsWrite (sector : ℕ) (bytes : List ℕ) (disk : DiskState) (a : Attachment) : Type 0 where
  pub writable : a.readonly ≡ false
  pub sectors : ℕ
  pub whole : whole_sectors a.keying.sectorsize (length bytes) ≡ Ok sectors
  pub within : sector + sectors ≤ media a.keying disk

-- the sectors of these bytes are sealed and written, in ascending order
abbrev pub WritesData : Holding → ℕ → List ℕ → List Event → Type 0
WritesData holding sector bytes events = AttachedWith holding (λ a. events ≡ data_writes a.keying sector (length bytes / a.keying.sectorsize) bytes)

-- the verb
abbrev pub write_verb : Span → ℕ → Span → Verb
write_verb prov sector hex = record {
  goes_through = λ line old reply new. AttachedWith old.holding (λ a. Replies done_or (WriteRow sector (bytes_spelled (bytes_at line hex)) a) old reply new);
  fits = λ line old. AttachedWith old.holding (FitsWrite sector (bytes_spelled (bytes_at line hex)) old.disk);
  grounds = NoGround;
  bad_file = NoBadFile;
  events = λ line disk holding events. WritesData holding sector (bytes_spelled (bytes_at line hex)) events;
  changes = NoChanges;
  stored_file = None;
  asks = λ line. AsksToWrite (Spelled sector (length (bytes_spelled (bytes_at line hex))));
  places = λ line. PlacesBytes sector (bytes_spelled (bytes_at line hex));
  kind = OfOther;
}
