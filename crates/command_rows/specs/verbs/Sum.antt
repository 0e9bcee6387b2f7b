-- `sum`: the digest of logical sectors is returned.
use Rattle.std.specs.Prelude.{Err, List, None, Ok, Result, ℕ, ◌+◌, ◌≡◌, ◌≤◌}
use Rattle.command_rows.specs.Rows.{AsksToRead, AttachedWith, Attachment, Decides, NeedsSectors, NoBadFile, NoChanges, NoEvents, NoGround, OfSum, Ranged, Reach, ReadsSectors, Replies, SectorsAnswer, Then, Verb, digest_or, places_nothing}
use Rattle.command_rows.specs.Vocabulary.{DiskState, Keying, ReadsAs, Refusal, Span, media, sha256}

-- `sum`, of an attached drawer: the sectors are read, and the SHA-256 of their bytes is returned
abbrev pub SumRow : ℕ → ℕ → Attachment → Reach → Result (List ℕ) Refusal → Reach → Type 0
SumRow start count a old answer new =
    Then (NeedsSectors a start count)
    (λ _. Then (ReadsSectors a start count)
    (λ bytes. Decides (Ok (sha256 bytes)))) old answer new

-- what reading and hashing sectors comes to: the digest of what was read, or the refusal of the read
pub record Sums (k : Keying) (sector count : ℕ) (old : DiskState) (digest : List ℕ) (new : DiskState) : Type 0 where
  pub bytes : List ℕ
  pub read : SectorsAnswer k sector count old (Ok bytes) new
  pub digest_is : digest ≡ sha256 bytes

-- what reading and hashing sectors comes to, by its answer: a digest, or the refusal of the read
abbrev pub SumAnswer : Keying → ℕ → ℕ → DiskState → Result (List ℕ) Refusal → DiskState → Type 0
SumAnswer k sector count old (Ok digest) new = Sums k sector count old digest new
SumAnswer k sector count old (Err refusal) new = SectorsAnswer k sector count old (Err refusal) new

-- the sectors are there, and the tags fit
pub record FitsSum (start count : ℕ) (disk : DiskState) (a : Attachment) : Type 0 where
  pub within : start + count ≤ media a.keying disk
  pub right : (offset : ℕ) → ¬ ReadsAs disk a.keying start count (Err offset)

-- the verb
abbrev pub sum_verb : Span → ℕ → ℕ → Verb
sum_verb prov start count = record {
  goes_through = λ line old reply new. AttachedWith old.holding (λ a. Replies digest_or (SumRow start count a) old reply new);
  fits = λ line old. AttachedWith old.holding (FitsSum start count old.disk);
  grounds = NoGround;
  bad_file = NoBadFile;
  events = NoEvents;
  changes = NoChanges;
  stored_file = None;
  asks = λ line. AsksToRead (Ranged start count);
  places = places_nothing;
  kind = OfSum prov start count;
}
