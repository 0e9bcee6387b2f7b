-- `reap`: a request whose units are all done is taken out.
use Rattle.std.specs.Prelude.{Err, List, None, Ok, Option, Result, Some, take, ℕ, ◌≡◌}
use Rattle.bio_queue.specs.declared.faults.ReapFault.TheVariants as reap
use Rattle.bio_queue.specs.declared.job.Reaped.TheVariants as reaped
use Rattle.eli_base.specs.declared.refusals.Refusal.TheVariants as refusals
use Rattle.command_rows.specs.Rows.{AsksToReap, AttachedWith, Attachment, IsAttached, NeedsRequest, NoBadFile, NoChanges, NoEvents, NoGround, OfReap, PlacesNoMore, Reach, Replies, Then, Verb, reaped_or, with_queue}
use Rattle.command_rows.specs.Vocabulary.{DiskState, HasBadUnit, IsOf, ReapAnswers, ReapFault, Reaped, Refusal, Request, Span, left_of, media, request_with}

abbrev pub reap_refusal : ℕ → ReapFault → Refusal
reap_refusal tag reap.NoRequest = refusals.NoRequest tag
reap_refusal tag (reap.NotDone left) = refusals.RequestNotDone tag left
reap_refusal tag (reap.Integrity offset) = refusals.Integrity offset

-- what is returned for a request that was reaped: the bytes of a read, which stand at the front of some others
abbrev pub bytes_reaped : List ℕ → Reaped → Option (List ℕ)
bytes_reaped buffer (reaped.Bytes count) = Some (take count buffer)
bytes_reaped buffer reaped.Written = None
bytes_reaped buffer reaped.Flushed = None

abbrev pub reap_answer : ℕ → List ℕ → Result Reaped ReapFault → Result (Option (List ℕ)) Refusal
reap_answer tag buffer (Ok given) = Ok (bytes_reaped buffer given)
reap_answer tag buffer (Err fault) = Err (reap_refusal tag fault)

-- The request with this tag, whose units are all done, is taken out; or it isn't. A read puts its bytes at the front of
-- those that some place had before. The disk stays in either case.
pub record ReapsRequest (a : Attachment) (tag : ℕ) (old : Reach) (answer : Result (Option (List ℕ)) Refusal) (new : Reach) : Type 0 where
  pub queue : List Request
  pub before : List ℕ
  pub after : List ℕ
  pub given : Result Reaped ReapFault
  pub reaps : ReapAnswers a.keying tag a.queue queue before after given
  pub answered : answer ≡ reap_answer tag after given
  pub left : new ≡ record { disk = old.disk; holding = IsAttached (with_queue queue a); cabinet = old.cabinet; entropy = old.entropy }

-- `reap`, of an attached drawer
abbrev pub ReapRow : ℕ → Attachment → Reach → Result (Option (List ℕ)) Refusal → Reach → Type 0
ReapRow tag a old answer new = Then (NeedsRequest a tag) (λ _. ReapsRequest a tag) old answer new

-- a request of the provider has the tag, none of its units is left, and the tags of what was read fit
pub record FitsReap (tag : ℕ) (disk : DiskState) (a : Attachment) : Type 0 where
  pub request : Request
  pub found : request_with tag a.queue ≡ Some request
  pub is_of : IsOf a.keying (media a.keying disk) request
  pub none : left_of request ≡ 0
  pub right : (offset : ℕ) → ¬ HasBadUnit a.keying request.job request.device offset

-- the verb
abbrev pub reap_verb : Span → ℕ → Verb
reap_verb prov tag = record {
  goes_through = λ line old reply new. AttachedWith old.holding (λ a. Replies reaped_or (ReapRow tag a) old reply new);
  fits = λ line old. AttachedWith old.holding (FitsReap tag old.disk);
  grounds = NoGround;
  bad_file = NoBadFile;
  events = NoEvents;
  changes = NoChanges;
  stored_file = None;
  asks = λ line. AsksToReap tag;
  places = λ line. PlacesNoMore tag;
  kind = OfReap prov tag;
}
