-- `submit`: a request is opened on an attached provider.
use Rattle.std.specs.Prelude.{List, None, Ok, Option, Result, Some, [], false, length, ℕ, ◌*◌, ◌+◌, ◌<◌, ◌≡◌, ◌≤◌}
use Rattle.bio_queue.specs.declared.faults.SubmitFault.TheVariants as submit
use Rattle.bio_queue.specs.declared.job.Job.TheVariants as jobs
use Rattle.command_words.specs.declared.commands.JobWords.TheVariants as words
use Rattle.eli_base.specs.declared.refusals.Refusal.TheVariants as refusals
use Rattle.command_rows.specs.Rows.{AsksToOpen, AttachedWith, Attachment, Counted, IsAttached, NeedsWhole, NoBadFile, NoChanges, NoEvents, NoGround, OfOther, PlacesRequest, Reach, Replies, Sectors, Spelled, Then, Verb, bytes_spelled, or_refusal, tag_or, whole_sectors, with_queue}
use Rattle.command_rows.specs.Vocabulary.{DiskState, Job, JobWords, Refusal, Request, Span, SubmitAnswers, SubmitFault, bytes_at, media}

abbrev pub submit_refusal : SubmitFault → Refusal
submit_refusal submit.ReadOnly = refusals.ReadOnly
submit_refusal (submit.OutOfRange sector count media) = refusals.OutOfRange sector count media
submit_refusal submit.QueueFull = refusals.QueueFull
submit_refusal submit.NoMemory = refusals.NoMemory

-- A request for the job is opened, and its tag is returned; or the job is refused, and the queue stays. The disk stays
-- in either case.
pub record Submits (a : Attachment) (job : Job) (from : List ℕ) (old : Reach) (answer : Result ℕ Refusal) (new : Reach) : Type 0 where
  pub queue : List Request
  pub tag : Result ℕ SubmitFault
  pub submits : SubmitAnswers a.keying a.readonly old.disk job from a.queue queue tag
  pub answered : answer ≡ or_refusal submit_refusal tag
  pub left : new ≡ record { disk = old.disk; holding = IsAttached (with_queue queue a); cabinet = old.cabinet; entropy = old.entropy }

-- `submit`, of an attached drawer: a read or a write of whole sectors, or a flush
abbrev pub SubmitRow : List ℕ → JobWords → Attachment → Reach → Result ℕ Refusal → Reach → Type 0
SubmitRow line (words.Read sector count) a old answer new =
    Then (NeedsWhole a (count * a.keying.sectorsize)) (λ whole. Submits a (jobs.Read sector whole) []) old answer new
SubmitRow line (words.Write sector hex) a old answer new =
    Then (NeedsWhole a (length (bytes_spelled (bytes_at line hex)))) (λ whole. Submits a (jobs.Write sector whole) (bytes_spelled (bytes_at line hex))) old answer new
SubmitRow line words.Flush a old answer new = Submits a jobs.Flush [] old answer new

-- so many bytes are whole sectors that are there
pub record FitsBytes (sector bytes : ℕ) (disk : DiskState) (a : Attachment) : Type 0 where
  pub sectors : ℕ
  pub whole : whole_sectors a.keying.sectorsize bytes ≡ Ok sectors
  pub within : sector + sectors ≤ media a.keying disk

-- the sectors of a request are there, and if it writes, the provider may be written
abbrev pub FitsJob : List ℕ → JobWords → DiskState → Attachment → Type 0
FitsJob line (words.Read sector count) disk a = FitsBytes sector (count * a.keying.sectorsize) disk a
FitsJob line (words.Write sector hex) disk a = (a.readonly ≡ false) × FitsBytes sector (length (bytes_spelled (bytes_at line hex))) disk a
FitsJob line words.Flush disk a = Unit {0}

-- requests in flight: there is room for one more
pub record FitsSubmit (line : List ℕ) (job : JobWords) (disk : DiskState) (a : Attachment) : Type 0 where
  pub fits : FitsJob line job disk a
  pub room : length a.queue < 32

-- the sectors of a request
abbrev pub job_sectors : List ℕ → JobWords → Option Sectors
job_sectors line (words.Read sector count) = Some (Counted sector count)
job_sectors line (words.Write sector hex) = Some (Spelled sector (length (bytes_spelled (bytes_at line hex))))
job_sectors line words.Flush = None

-- the verb
abbrev pub submit_verb : Span → JobWords → Verb
submit_verb prov job = record {
  goes_through = λ line old reply new. AttachedWith old.holding (λ a. Replies tag_or (SubmitRow line job a) old reply new);
  fits = λ line old. AttachedWith old.holding (FitsSubmit line job old.disk);
  grounds = NoGround;
  bad_file = NoBadFile;
  events = NoEvents;
  changes = NoChanges;
  stored_file = None;
  asks = λ line. AsksToOpen (job_sectors line job);
  places = λ line. PlacesRequest job;
  kind = OfOther;
}
