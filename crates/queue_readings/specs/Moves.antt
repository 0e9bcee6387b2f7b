-- Calls on a queue and its provider, one after the other, and what they are as moves of a play.
use Rattle.std.specs.Prelude.{◌≡◌, ℕ, ◌<◌, ◌≤◌, Bool, List, [], ◌∷◌, length, replicate, Some, None, Result, Ok, Err}
use Rattle.aes_core.specs.Schedule.{AreBytes}
use Rattle.block_traits.specs.Content.{Content}
use Rattle.block_traits.specs.Disk.{DiskState}
use Rattle.eli_base.specs.Keying.{Keying}
use Rattle.bio_queue.specs.Answers.{IsAdmitted, IsAsked, IsRefusedBy, ReapAnswers, StepAnswers, SubmitAnswers, units_of}
use Rattle.bio_queue.specs.Requests.{Request}
use Rattle.bio_queue.specs.declared.faults.ReapFault.{ReapFault}
use Rattle.bio_queue.specs.declared.faults.ReapFault.TheVariants as reap
use Rattle.bio_queue.specs.declared.faults.StepFault.{StepFault}
use Rattle.bio_queue.specs.declared.faults.StepFault.TheVariants as step
use Rattle.bio_queue.specs.declared.faults.SubmitFault.{SubmitFault}
use Rattle.bio_queue.specs.declared.job.Job.{Job}
use Rattle.bio_queue.specs.declared.job.Reaped.{Reaped}
use Rattle.queue_readings.specs.Tasks.{Task, job_of, task_after, task_with, units_left}
use Rattle.queue_readings.specs.Play.{IsFaulty, IsLeastFreeTag, Play, Shows, Yields, broken, reaped, task_stepped, submitted}
use Rattle.readings.specs.Steps.{cell}
use Rattle.readings.specs.Survivors.{content_media}

-- ---- the calls

-- a call, with what it was given and what it returned; of a buffer the bytes before and after
pub data QueueCall : Type 0 where
  Submit : Job → List ℕ → Result ℕ SubmitFault → QueueCall
  Step : (tag : ℕ) → Result ℕ StepFault → QueueCall
  Reap : (tag : ℕ) → (before after : List ℕ) → Result Reaped ReapFault → QueueCall

-- a queue and its provider: the keying, whether it is read-only, and what its disk reports of itself
pub record InFlight : Type 0 where
  pub queue : List Request
  pub keying : Keying
  pub readonly : Bool
  pub disk : DiskState

-- the provider has the keying that it had, and is read-only if it was
pub record KeepsKeying (old new : InFlight) : Type 0 where
  pub keying : new.keying ≡ old.keying
  pub readonly : new.readonly ≡ old.readonly

-- the provider and its disk are as they were
pub record KeepsProvider (old new : InFlight) : Type 0 where
  pub keeps : KeepsKeying old new
  pub disk : new.disk ≡ old.disk

-- the call was made, with this result
abbrev pub IsMade : QueueCall → InFlight → InFlight → Type 0
IsMade (Submit job from answer) old new =
    AreBytes from × IsAsked old.keying.sectorsize job from × SubmitAnswers old.keying old.readonly old.disk job from old.queue new.queue answer × KeepsProvider old new
IsMade (Step tag answer) old new = StepAnswers tag old.queue new.queue old.disk new.disk answer × KeepsKeying old new
IsMade (Reap tag before after answer) old new = ReapAnswers old.keying tag old.queue new.queue before after answer × KeepsProvider old new

-- calls that were made one after the other
abbrev pub AreMade : List QueueCall → InFlight → InFlight → Type 0
AreMade [] old new = new ≡ old
AreMade (call ∷ calls) old new = (between : InFlight) × IsMade call old between × AreMade calls between new

-- ---- the moves

-- a task with the tag is there, and this holds of it
pub record HasTask (m : Play) (tag : ℕ) (P : Task → Type 0) : Type 0 where
  pub task : Task
  pub found : task_with tag m.tasks ≡ Some task
  pub is : P task

-- the move of a step: the next unit of the task is done
pub record StepsTask (k : Keying) (c : Content) (left : ℕ) (m new : Play) (t : Task) : Type 0 where
  pub more : t.done < units_of k (job_of t.work)
  pub rest : left ≡ units_left k (task_after k (cell c m.steps) t)
  pub play : new ≡ task_stepped k c t m

-- the device failed at the next unit of the task: its step was done or wasn't, and the unit isn't done
pub record FailsAtUnit (k : Keying) (m new : Play) (t : Task) : Type 0 where
  pub more : t.done < units_of k (job_of t.work)
  pub many : ℕ
  pub play : new ≡ broken k t many m

-- the move of each call, by its result, on a provider that is read-only or not
abbrev pub MovesPlay : Bool → Keying → Content → QueueCall → Play → Play → Type 0
MovesPlay readonly k c (Submit job from (Ok tag)) m new = IsAdmitted readonly (content_media k c) job × IsLeastFreeTag tag m.tasks × (new ≡ submitted tag job from m)
MovesPlay readonly k c (Submit job from (Err fault)) m new = IsRefusedBy readonly (content_media k c) job (length m.tasks) fault × (new ≡ m)
MovesPlay readonly k c (Step tag (Ok left)) m new = HasTask m tag (StepsTask k c left m new)
MovesPlay readonly k c (Step tag (Err step.NoRequest)) m new = (task_with tag m.tasks ≡ None) × (new ≡ m)
MovesPlay readonly k c (Step tag (Err step.AllDone)) m new = HasTask m tag (λ t. units_left k t ≡ 0) × (new ≡ m)
MovesPlay readonly k c (Step tag (Err step.DeviceFault)) m new = HasTask m tag (FailsAtUnit k m new)
MovesPlay readonly k c (Reap tag before after (Ok given)) m new = HasTask m tag (λ t. (units_left k t ≡ 0) × Yields k m.steps t.work before after given) × (new ≡ reaped tag m)
MovesPlay readonly k c (Reap tag before after (Err reap.NoRequest)) m new = (task_with tag m.tasks ≡ None) × (after ≡ before) × (new ≡ m)
MovesPlay readonly k c (Reap tag before after (Err (reap.NotDone left))) m new = HasTask m tag (λ t. (1 ≤ left) × (left ≡ units_left k t)) × (after ≡ before) × (new ≡ m)
MovesPlay readonly k c (Reap tag before after (Err (reap.Integrity offset))) m new =
    HasTask m tag (λ t. (units_left k t ≡ 0) × IsFaulty k t.work offset) × (after ≡ replicate (length before) 0) × (new ≡ reaped tag m)

abbrev pub AreMoves : Bool → Keying → Content → List QueueCall → Play → Play → Type 0
AreMoves readonly k c [] m new = new ≡ m
AreMoves readonly k c (call ∷ calls) m new = (between : Play) × MovesPlay readonly k c call m between × AreMoves readonly k c calls between new

-- the play shows in the queue and on the disk
abbrev pub ShowsIn : Keying → Content → Play → InFlight → Type 0
ShowsIn k c m x = Shows k c m x.queue x.disk

-- the calls are the moves of a play, which shows in what they leave; the keying stays, and so does whether it is
-- read-only
pub record IsPlayed (c : Content) (calls : List QueueCall) (m : Play) (old new : InFlight) : Type 0 where
  pub play : Play
  pub moves : AreMoves old.readonly old.keying c calls m play
  pub shows : ShowsIn old.keying c play new
  pub keeps : KeepsKeying old new
