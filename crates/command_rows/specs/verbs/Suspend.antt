-- `suspend`: a provider serves no request from then on, and no key of it is left (geli(8)).
use Rattle.std.specs.Prelude.{Err, List, None, Ok, Result, [], length, ◌∷◌, ◌≡◌}
use Rattle.block_traits.specs.declared.disk.Event.TheVariants.{Flush}
use Rattle.eli_base.specs.declared.refusals.Refusal.TheVariants as refusals
use Rattle.command_rows.specs.Rows.{AsksForNone, AttachedWith, Attachment, Decides, DoesEvents, IsSuspended, KeepsOutside, Kept, NoBadFile, NoChanges, NoGround, OfOther, OneFlush, Reach, Replies, Then, Verb, done_or, places_nothing}
use Rattle.command_rows.specs.Vocabulary.{DiskState, Refusal, Request, Span, media, sha256}

-- no request is open; or it is refused with their number
abbrev pub if_none_open : List Request → Result (Unit {0}) Refusal
if_none_open [] = Ok tt
if_none_open (r ∷ queue) = Err (refusals.RequestsOpen (length (r ∷ queue)))

abbrev pub NeedsNoRequests : Attachment → Reach → Result (Unit {0}) Refusal → Reach → Type 0
NeedsNoRequests a old answer new = Decides (if_none_open a.queue) old answer new

-- what is kept of the provider that is attached on a disk
abbrev pub kept_by : Attachment → DiskState → Kept
kept_by a disk = record { sectorsize = a.keying.sectorsize; sectors = media a.keying disk; slot = a.slot; readonly = a.readonly; mark = sha256 a.keying.master }

-- the disk is flushed and not read, and the drawer is suspended then, even if the flush failed
pub record Suspends (a : Attachment) (old : Reach) (answer : Result (Unit {0}) Refusal) (new : Reach) : Type 0 where
  pub flushes : DoesEvents (Flush ∷ []) old.disk answer new.disk
  pub unasked : new.disk.reads ≡ old.disk.reads
  pub holding : new.holding ≡ IsSuspended (kept_by a old.disk)
  pub outside : KeepsOutside old new

-- `suspend`, of an attached drawer on which no request is open
abbrev pub SuspendRow : Attachment → Reach → Result (Unit {0}) Refusal → Reach → Type 0
SuspendRow a old answer new = Then (NeedsNoRequests a) (λ _. Suspends a) old answer new

-- the verb
abbrev pub suspend_verb : Span → Verb
suspend_verb prov = record {
  goes_through = λ line old reply new. AttachedWith old.holding (λ a. Replies done_or (SuspendRow a) old reply new);
  fits = λ line old. AttachedWith old.holding (λ a. a.queue ≡ []);
  grounds = NoGround;
  bad_file = NoBadFile;
  events = OneFlush;
  changes = NoChanges;
  stored_file = None;
  asks = λ line. AsksForNone;
  places = places_nothing;
  kind = OfOther;
}
