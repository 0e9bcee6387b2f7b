-- What is proved of each verb, as one value, and how a row says so by its answer.
use Rattle.std.proofs.Common.{Bool, Err, List, None, Ok, Option, Result, [], false, inr, subst, sym, ℕ, ◌≡◌}
use Rattle.reply_text.specs.Answer as answers
use Rattle.command_rows.specs.Becoming.{Becomes, changes_requests}
use Rattle.command_rows.specs.Causes.{LineHasCause}
use Rattle.command_rows.specs.Fits.{FitsRow}
use Rattle.command_rows.specs.Gate.{needs, refused_by}
use Rattle.command_rows.specs.Histories.{AreRowEvents, EventsBy, stores_last}
use Rattle.command_rows.specs.Rows.{Answer, AttachedWith, Attachment, Holding, IsAttached, NoChanges, Reach, Replies, done_or}
use Rattle.command_rows.specs.Stops.{ChangesMetadata, ChangesOrStays}
use Rattle.command_rows.specs.Storing.{StoresAt, stored_file}
use Rattle.command_rows.specs.Turn.{GoesThrough}
use Rattle.command_rows.specs.Vocabulary.{Command, DiskState, Event, Files, Logs, Refusal}
use Rattle.command_rows.proofs.Causing.{Step, Why}
use Rattle.command_rows.proofs.Events.{Did, Quiet, ResultEvents, quiet_did}
use Rattle.command_rows.proofs.Fitting.{RulesOut, RulesOutTags}
use Rattle.command_rows.proofs.Keeping.{KeepsRequests}
use Rattle.command_rows.proofs.Replies.{IsServed, Replying, of_reply, refused_by_row}
use Rattle.command_rows.proofs.Sound.{SoundReply}
use Rattle.command_rows.proofs.Stopping.{Left}
use Rattle.command_rows.proofs.Gate.{with_attached}

pub row_refused : {A : Type 0} (line : List ℕ) (command : Command) (answer_to : Result A Refusal → Answer) (old : Reach) (answer : Result A Refusal) (new : Reach) (refusal : Refusal) → Replying answer_to → answers.Refused refusal ≡ answer_to answer
    → Why line command old answer new → LineHasCause line command old refusal new
row_refused {A} line command answer_to old answer new refusal replying is h = subst (λ (r : Result A Refusal). Why line command old r new) (refused_by_row answer_to answer refusal replying is) h

-- what a line did to the disk of its drawer
pub record LineDid (Row : List Event → Type 0) (stores : Bool) (answer : Answer) (old new : DiskState) : Type 0 where
  pub events : List Event
  pub logs : Logs events old new
  pub are : EventsBy Row stores answer events

served_events : (Row : List Event → Type 0) (stores : Bool) (said : Answer) (events : List Event) → IsServed said → Row events → EventsBy Row stores said events
served_events Row stores (answers.Refused refusal) events served h = absurd served
served_events Row stores said events served h = h

pub reply_line : {A : Type 0} (answer_to : Result A Refusal → Answer) (Row : List Event → Type 0) (stores : Bool) (answer : Result A Refusal) (said : Answer) (old new : DiskState) → Replying answer_to → said ≡ answer_to answer → Did Row stores old answer new
    → LineDid Row stores said old new
reply_line {A} answer_to Row stores answer said old new replying is d = record {
  events = d.events;
  logs = d.logs;
  are = of_reply answer_to answer said (λ reply. EventsBy Row stores reply d.events) replying is
      (λ value ok reply served. served_events Row stores reply d.events served (subst (λ (r : Result A Refusal). ResultEvents Row stores r d.events) ok d.are))
      (λ refusal err. subst (λ (r : Result A Refusal). ResultEvents Row stores r d.events) err d.are);
}

pub done_left : (Changes : DiskState → Bool → DiskState → Type 0) (start : DiskState) (answer : Result (Unit {0}) Refusal) (said : Answer) (new : DiskState) → said ≡ done_or answer → Left Changes start answer new
    → ChangesOrStays Changes said start new
done_left Changes start (Ok done) said new is h = rw is h
done_left Changes start (Err refusal) said new is h = rw is h

-- ---- a row of an attached drawer

pub attached_why : {A : Type 0} (line : List ℕ) (command : Command) (answer_to : Result A Refusal → Answer) (Row : Attachment → Step A) (old : Reach) (refusal : Refusal) (new : Reach) → Replying answer_to
    → ((a : Attachment) (answer : Result A Refusal) → old.holding ≡ IsAttached a → Row a old answer new → Why line command old answer new)
    → AttachedWith old.holding (λ a. Replies answer_to (Row a) old (answers.Refused refusal) new) → LineHasCause line command old refusal new
attached_why line command answer_to Row old refusal new replying why h =
    with_attached old.holding _ (LineHasCause line command old refusal new)
    (λ a is row. row_refused line command answer_to old row.answer new refusal replying row.replied (why a row.answer is row.row)) h

pub attached_did : {A : Type 0} (answer_to : Result A Refusal → Answer) (Row : Attachment → Step A) (Events : Holding → List Event → Type 0) (old : Reach) (said : Answer) (new : Reach) → Replying answer_to
    → ((a : Attachment) (answer : Result A Refusal) → Row a old answer new → Did (Events (IsAttached a)) false old.disk answer new.disk)
    → AttachedWith old.holding (λ a. Replies answer_to (Row a) old said new) → LineDid (Events old.holding) false said old.disk new.disk
attached_did answer_to Row Events old said new replying did h =
    with_attached old.holding _ (LineDid (Events old.holding) false said old.disk new.disk)
    (λ a is row. subst (λ (x : Holding). LineDid (Events x) false said old.disk new.disk) (sym is)
    (reply_line answer_to (Events (IsAttached a)) false row.answer said old.disk new.disk replying row.replied (did a row.answer row.row))) h

-- a row that does nothing
pub attached_quiet : {A : Type 0} (answer_to : Result A Refusal → Answer) (Row : Attachment → Step A) (old : Reach) (said : Answer) (new : Reach) → Replying answer_to → ((a : Attachment) → Quiet (Row a))
    → AttachedWith old.holding (λ a. Replies answer_to (Row a) old said new) → LineDid (λ events. events ≡ []) false said old.disk new.disk
attached_quiet answer_to Row old said new replying quiet h =
    attached_did answer_to Row (λ holding events. events ≡ []) old said new replying (λ a answer row. quiet_did false old.disk answer new.disk (quiet a old answer new row)) h

-- ---- a verb

-- a line that changes no metadata
pub nothing_changed : (line : List ℕ) (told : Option Files) (holding : Holding) (said : Answer) (old new : DiskState) → ChangesOrStays (NoChanges line told holding) said old new
nothing_changed line told holding (answers.Refused refusal) old new = inr tt
nothing_changed line told holding said old new = tt

-- what holds of each line of a verb: why it's refused, what it logs, what it counts and keeps, that nothing refuses it
-- if it finds what it needs, what its drawer becomes, what its disk may hold at each moment, and what it stores
pub record IsLawful (command : Command) : Type 0 where
  pub why : (line : List ℕ) (old : Reach) (refusal : Refusal) (new : Reach) → GoesThrough line command old (answers.Refused refusal) new → LineHasCause line command old refusal new
  pub did : (line : List ℕ) (old : Reach) (said : Answer) (new : Reach) → GoesThrough line command old said new → LineDid (AreRowEvents line command old.disk old.holding) (stores_last command) said old.disk new.disk
  pub sound : (line : List ℕ) (old : Reach) (reply : Answer) (new : Reach) → GoesThrough line command old reply new → SoundReply old reply new
  pub out : (line : List ℕ) (old : Reach) → refused_by (needs command) old.holding ≡ None → FitsRow line command old → RulesOut line command old
  pub tags : (line : List ℕ) (old : Reach) → FitsRow line command old → RulesOutTags command old
  pub becomes : (line : List ℕ) (old : Reach) (said : Answer) (new : Reach) → refused_by (needs command) old.holding ≡ None → GoesThrough line command old said new → Becomes line command old said new
  pub keeps : (line : List ℕ) (old : Reach) (reply : Answer) (new : Reach) → refused_by (needs command) old.holding ≡ None → changes_requests command ≡ false → GoesThrough line command old reply new → KeepsRequests old.holding new.holding
  pub left : (line : List ℕ) (old : Reach) (said : Answer) (new : Reach) → GoesThrough line command old said new → ChangesOrStays (ChangesMetadata line command old.cabinet.files old.holding) said old.disk new.disk
  pub stores : (line : List ℕ) (old : Reach) (reply : Answer) (new : Reach) → GoesThrough line command old reply new → StoresAt line (stored_file command) old.cabinet new.cabinet

-- a verb without a row
pub rowless_lawful : (command : Command) → ((line : List ℕ) (old : Reach) (reply : Answer) (new : Reach) → GoesThrough line command old reply new → ⊥) → ((line : List ℕ) (old : Reach) → FitsRow line command old → ⊥) → IsLawful command
rowless_lawful command goes fits = record {
  why = λ line old refusal new h. absurd (goes line old (answers.Refused refusal) new h);
  did = λ line old said new h. absurd (goes line old said new h);
  sound = λ line old reply new h. absurd (goes line old reply new h);
  out = λ line old gate f. absurd (fits line old f);
  tags = λ line old f. absurd (fits line old f);
  becomes = λ line old said new gate h. absurd (goes line old said new h);
  keeps = λ line old reply new gate other h. absurd (goes line old reply new h);
  left = λ line old said new h. absurd (goes line old said new h);
  stores = λ line old reply new h. absurd (goes line old reply new h);
}
