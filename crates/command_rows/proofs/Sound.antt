-- Each row is made of sound steps: no count of the cabinet or the entropy falls, their failures are reported only if
-- they rose, and what is attached keeps a keying that a provider may have.
use Rattle.eli_base.specs.declared.refusals.Refusal.TheVariants as refusals
use Rattle.reply_text.specs.Answer as answers
use Rattle.command_rows.specs.Rows.{Answer, Attachment, GoesOn, Holding, HoldsKeying, Idle, IsAttached, Reach, Replies, Then}
use Rattle.command_rows.specs.Vocabulary.{CabinetState, EntropyState, IsKeying, Refusal}
use Rattle.command_rows.proofs.Causing.{Step}
use Rattle.std.proofs.Common.{Bool, Err, Ok, Result, ap, false, refl, subst, sym, true, ◌≡◌}
use Rattle.command_rows.specs.Counts.{CountsAnswer}
use Rattle.command_rows.specs.verbs.Attach.{AttachesUnless}
use Rattle.command_rows.proofs.Counting.{Counts, CountsResult, Later, then_counts}
use Rattle.command_rows.proofs.QueueingSound.{HoldsSame, same_keyed}
use Rattle.command_rows.proofs.Replies.{IsServed, Replying, of_reply}

-- ---- what is attached

-- what is attached has such a keying after the step if it had before
abbrev pub Keeps : {A : Type 0} → Step A → Type 0
Keeps {A} R = (old : Reach) (answer : Result A Refusal) (new : Reach) → R old answer new → HoldsKeying old.holding → HoldsKeying new.holding

-- a step that keeps what the drawer holds
pub stays : (old new : Holding) → new ≡ old → HoldsKeying old → HoldsKeying new
stays old new is h = subst HoldsKeying (sym is) h

-- a step that leaves the drawer idle
pub idles : (new : Holding) → new ≡ Idle → HoldsKeying new
idles new is = rw is tt

pub keeps_next : {A B : Type 0} (Next : A → Step B) (given : Result A Refusal) (middle : Reach) (answer : Result B Refusal) (new : Reach) → ((a : A) → given ≡ Ok a → Next a middle answer new → HoldsKeying middle.holding → HoldsKeying new.holding)
    → GoesOn Next given middle answer new → HoldsKeying middle.holding → HoldsKeying new.holding
keeps_next Next (Ok a) middle answer new keeps h had = keeps a refl h had
keeps_next Next (Err refusal) middle answer new keeps h had = stays middle.holding new.holding (ap (λ (r : Reach). r.holding) h.1) had

keeps_then : {A B : Type 0} (First : Step A) (Next : A → Step B) → Keeps First → ((a : A) → Keeps (Next a)) → Keeps (Then First Next)
keeps_then First Next first next old answer new h had =
    keeps_next Next h.given h.middle answer new (λ a is. next a h.middle answer new) h.next (first old h.given h.middle h.first had)

-- ---- soundness

pub record Sound {A : Type 0} (R : Step A) : Type 0 where
  pub counts : Counts R
  pub keeps : Keeps R

pub sound_then : {A B : Type 0} {First : Step A} {Next : A → Step B} → Sound First → ((a : A) → Sound (Next a)) → Sound (Then First Next)
sound_then {A} {B} {First} {Next} first next = record { counts = then_counts first.counts (λ a. (next a).counts); keeps = keeps_then First Next first.keeps (λ a. (next a).keeps) }

-- a step that leaves the drawer as it is
pub sound_step : {A : Type 0} (R : Step A) → Counts R → ((old : Reach) (answer : Result A Refusal) (new : Reach) → R old answer new → new.holding ≡ old.holding) → Sound R
sound_step R counts same = record { counts = counts; keeps = λ old answer new h had. stays old.holding new.holding (same old answer new h) had }

-- ---- the rows

-- what is attached is what was tried
pub attaches_keep : (only_check : Bool) (a : Attachment) (old : Reach) (answer : Result (Unit {0}) Refusal) (new : Reach) → IsKeying a.keying → AttachesUnless only_check a old answer new → HoldsKeying old.holding → HoldsKeying new.holding
attaches_keep true a old answer new is h had = stays old.holding new.holding (ap (λ (r : Reach). r.holding) h.1) had
attaches_keep false a old (Ok done) new is h had = stays (IsAttached a) new.holding (ap (λ (r : Reach). r.holding) h) is
attaches_keep false a old (Err refusals.NoMemory) new is h had = stays old.holding new.holding (ap (λ (r : Reach). r.holding) h) had
attaches_keep false a old (Err refusal) new is h had = absurd h

-- ---- the answers

-- what a line counts if it names a drawer
abbrev pub CountsReply : Reach → Answer → Reach → Type 0
CountsReply old reply new = CountsAnswer old.cabinet old.entropy reply new.cabinet new.entropy × Later old new

served_counts : (cabinet : CabinetState) (entropy : EntropyState) (reply : Answer) (cabinet' : CabinetState) (entropy' : EntropyState) → IsServed reply → CountsAnswer cabinet entropy reply cabinet' entropy'
served_counts cabinet entropy (answers.Refused refusal) cabinet' entropy' served = absurd served
served_counts cabinet entropy reply cabinet' entropy' served = tt

pub by_reply : {A : Type 0} (answer_to : Result A Refusal → Answer) (answer : Result A Refusal) (old : Reach) (reply : Answer) (new : Reach) → Replying answer_to → reply ≡ answer_to answer → CountsResult old answer new × Later old new → CountsReply old reply new
by_reply {A} answer_to answer old reply new replying is h = (
  of_reply answer_to answer reply (λ said. CountsAnswer old.cabinet old.entropy said new.cabinet new.entropy) replying is (λ value ok said served. served_counts old.cabinet old.entropy said new.cabinet new.entropy served)
      (λ refusal err. subst (λ (r : Result A Refusal). CountsResult old r new) err h.0),
  h.1,
)

-- what a sound row comes to
pub record SoundReply (old : Reach) (reply : Answer) (new : Reach) : Type 0 where
  pub counts : CountsReply old reply new
  pub keeps : HoldsKeying old.holding → HoldsKeying new.holding

pub sound_reply : {A : Type 0} (answer_to : Result A Refusal → Answer) (Row : Step A) (old : Reach) (reply : Answer) (new : Reach) → Replying answer_to → Sound Row → Replies answer_to Row old reply new → SoundReply old reply new
sound_reply answer_to Row old reply new replying sound h = record { counts = by_reply answer_to h.answer old reply new replying h.replied (sound.counts old h.answer new h.row); keeps = sound.keeps old h.answer new h.row }

-- a row that leaves a provider with the same keying attached
pub attached_reply : {A : Type 0} (answer_to : Result A Refusal → Answer) (Row : Step A) (a : Attachment) (old : Reach) (reply : Answer) (new : Reach) → Replying answer_to → Counts Row → old.holding ≡ IsAttached a → (h : Replies answer_to Row old reply new)
    → HoldsSame a new.holding → SoundReply old reply new
attached_reply answer_to Row a old reply new replying counts is h same =
    record { counts = by_reply answer_to h.answer old reply new replying h.replied (counts old h.answer new h.row); keeps = same_keyed a old.holding new.holding is same }
