-- `read`: logical sectors are read and returned.
use Rattle.std.specs.Prelude.{Err, List, None, Ok, Result, ℕ, ◌*◌, ◌+◌, ◌≡◌, ◌≤◌}
use Rattle.command_rows.specs.Rows.{AsksToRead, AttachedWith, Attachment, Counted, NeedsSectors, NeedsWhole, NoBadFile, NoChanges, NoEvents, NoGround, OfRead, Reach, ReadsSectors, Replies, Then, Verb, payload_or, places_nothing, whole_sectors}
use Rattle.command_rows.specs.Vocabulary.{DiskState, ReadsAs, Refusal, Span, media}

-- `read` of so many sectors, of an attached drawer
abbrev pub ReadRow : ℕ → ℕ → Attachment → Reach → Result (List ℕ) Refusal → Reach → Type 0
ReadRow sector count a old answer new =
    Then (NeedsWhole a (count * a.keying.sectorsize))
    (λ whole. Then (NeedsSectors a sector whole)
    (λ _. ReadsSectors a sector whole)) old answer new

-- the bytes are whole sectors that are there, and the tags fit
pub record FitsRead (sector count : ℕ) (disk : DiskState) (a : Attachment) : Type 0 where
  pub sectors : ℕ
  pub whole : whole_sectors a.keying.sectorsize (count * a.keying.sectorsize) ≡ Ok sectors
  pub within : sector + sectors ≤ media a.keying disk
  pub right : (offset : ℕ) → ¬ ReadsAs disk a.keying sector sectors (Err offset)

-- the verb
abbrev pub read_verb : Span → ℕ → ℕ → Verb
read_verb prov sector count = record {
  goes_through = λ line old reply new. AttachedWith old.holding (λ a. Replies payload_or (ReadRow sector count a) old reply new);
  fits = λ line old. AttachedWith old.holding (FitsRead sector count old.disk);
  grounds = NoGround;
  bad_file = NoBadFile;
  events = NoEvents;
  changes = NoChanges;
  stored_file = None;
  asks = λ line. AsksToRead (Counted sector count);
  places = places_nothing;
  kind = OfRead prov sector count;
}
