-- `step`: the next unit of an open request is done.
use Rattle.std.specs.Option.{option_map}
use Rattle.std.specs.Prelude.{List, None, Result, Some, [], unwrap_or, ℕ, ◌≡◌, ◌≤◌}
use Rattle.bio_queue.specs.declared.faults.StepFault.TheVariants as step
use Rattle.eli_base.specs.declared.refusals.Refusal.TheVariants as refusals
use Rattle.command_rows.specs.Rows.{AsksToStep, AttachedWith, Attachment, Holding, IsAttached, KeepsOutside, NeedsRequest, NoBadFile, NoChanges, NoGround, OfOther, PlacesUnit, Reach, Replies, Then, Verb, left_or, or_refusal, with_queue}
use Rattle.command_rows.specs.Vocabulary.{DiskState, Event, IsOf, Refusal, Request, Span, StepAnswers, StepFault, left_of, media, request_with, step_events}

abbrev pub step_refusal : ℕ → StepFault → Refusal
step_refusal tag step.NoRequest = refusals.NoRequest tag
step_refusal tag step.AllDone = refusals.RequestDone tag
step_refusal tag step.DeviceFault = refusals.DeviceFault

-- what the next unit of the request with this tag logs
abbrev pub next_events : ℕ → List Request → List Event
next_events tag queue = unwrap_or (option_map step_events (request_with tag queue)) []

-- the next unit of the request with this tag is done, and the number of those left is returned; or it isn't done
pub record StepsRequest (a : Attachment) (tag : ℕ) (old : Reach) (answer : Result ℕ Refusal) (new : Reach) : Type 0 where
  pub queue : List Request
  pub left : Result ℕ StepFault
  pub steps : StepAnswers tag a.queue queue old.disk new.disk left
  pub answered : answer ≡ or_refusal (step_refusal tag) left
  pub holding : new.holding ≡ IsAttached (with_queue queue a)
  pub outside : KeepsOutside old new

-- `step`, of an attached drawer
abbrev pub StepRow : ℕ → Attachment → Reach → Result ℕ Refusal → Reach → Type 0
StepRow tag a old answer new = Then (NeedsRequest a tag) (λ _. StepsRequest a tag) old answer new

-- a request of the provider has the tag, and a unit of it is left
pub record FitsStep (tag : ℕ) (disk : DiskState) (a : Attachment) : Type 0 where
  pub request : Request
  pub found : request_with tag a.queue ≡ Some request
  pub is_of : IsOf a.keying (media a.keying disk) request
  pub more : 1 ≤ left_of request

-- the next unit of the request with this tag is done
abbrev pub DoesNext : Holding → ℕ → List Event → Type 0
DoesNext holding tag events = AttachedWith holding (λ a. events ≡ next_events tag a.queue)

-- the verb
abbrev pub step_verb : Span → ℕ → Verb
step_verb prov tag = record {
  goes_through = λ line old reply new. AttachedWith old.holding (λ a. Replies left_or (StepRow tag a) old reply new);
  fits = λ line old. AttachedWith old.holding (FitsStep tag old.disk);
  grounds = NoGround;
  bad_file = NoBadFile;
  events = λ line disk holding events. DoesNext holding tag events;
  changes = NoChanges;
  stored_file = None;
  asks = λ line. AsksToStep tag;
  places = λ line. PlacesUnit tag;
  kind = OfOther;
}
