-- A job that is done alone: submitted, done step by step, and reaped, with no other call between and no device fault.
use Rattle.std.specs.Prelude.{◌≡◌, ℕ, zero, suc, ◌+◌, ◌/◌, ◌≤◌, false, List, [], ◌∷◌, ◌++◌, length, drop, replicate, Result, Ok, Err}
use Rattle.block_traits.specs.Disk.{DiskState, Logs}
use Rattle.block_traits.specs.declared.disk.Event.TheVariants as event
use Rattle.eli_base.specs.Keying.{Keying}
use Rattle.provider.specs.Answers.{IsWritten, SectorRequest}
use Rattle.provider.specs.Attached.{media}
use Rattle.sector_runs.specs.Reading.{ReadsAs}
use Rattle.bio_queue.specs.Answers.{IsAsked, IsSubmitted, ReapAnswers, StepsOn, units_of}
use Rattle.bio_queue.specs.declared.faults.ReapFault.{ReapFault}
use Rattle.bio_queue.specs.declared.faults.ReapFault.TheVariants as reap
use Rattle.bio_queue.specs.declared.job.Job.{Job}
use Rattle.bio_queue.specs.declared.job.Job.TheVariants.{Read, Write, Flush}
use Rattle.bio_queue.specs.declared.job.Reaped.{Reaped}
use Rattle.bio_queue.specs.declared.job.Reaped.TheVariants.{Bytes, Written, Flushed}
use Rattle.queue_readings.specs.Moves.{InFlight, KeepsKeying, KeepsProvider}

-- so many steps of the request with this tag
abbrev pub StepsThrough : ℕ → ℕ → InFlight → InFlight → Type 0
StepsThrough tag zero old new = new ≡ old
StepsThrough tag (suc many) old new = (between : InFlight) × (left : ℕ) × StepsOn tag left old.queue between.queue old.disk between.disk × KeepsKeying old between × StepsThrough tag many between new

pub record IsDoneAlone (job : Job) (from before after : List ℕ) (answer : Result Reaped ReapFault) (old new : InFlight) : Type 0 where
  pub asked : IsAsked old.keying.sectorsize job from
  pub tag : ℕ
  pub open_in : InFlight
  pub submitted : IsSubmitted old.keying old.readonly old.disk job from old.queue open_in.queue tag
  pub opens : KeepsProvider old open_in
  pub done_in : InFlight
  pub steps : StepsThrough tag (units_of old.keying job) open_in done_in
  pub reaped : ReapAnswers done_in.keying tag done_in.queue new.queue before after answer
  pub stays : KeepsProvider done_in new

-- what a read of the provider gives: nothing is logged, and these are the bytes, or the first fault
abbrev pub GivesAsRead : Keying → DiskState → DiskState → ℕ → ℕ → List ℕ → List ℕ → Result Reaped ReapFault → Type 0
GivesAsRead k old new sector count before after (Ok given) =
    (bytes : List ℕ) × (given ≡ Bytes (length bytes)) × (after ≡ bytes ++ drop (length bytes) before) × Logs [] old new × ReadsAs old k sector count (Ok bytes)
GivesAsRead k old new sector count before after (Err (reap.Integrity offset)) = (after ≡ replicate (length before) 0) × Logs [] old new × ReadsAs old k sector count (Err offset)
GivesAsRead k old new sector count before after (Err reap.NoRequest) = ⊥
GivesAsRead k old new sector count before after (Err (reap.NotDone left)) = ⊥

-- a request of the provider for so many bytes
abbrev pub request_for : InFlight → ℕ → List ℕ → SectorRequest
request_for x sector bytes = record { sector = sector; count = length bytes / x.keying.sectorsize; media = media x.keying x.disk }

-- the job comes to what the call of the provider does
abbrev pub DoesAsProvider : Job → List ℕ → List ℕ → List ℕ → Result Reaped ReapFault → InFlight → InFlight → Type 0
DoesAsProvider (Read sector count) from before after answer old new =
    (sector + count ≤ media old.keying old.disk) × GivesAsRead old.keying old.disk new.disk sector count before after answer
DoesAsProvider (Write sector count) from before after answer old new =
    (answer ≡ Ok Written) × (old.readonly ≡ false) × IsWritten old.keying (request_for old sector from) from old.disk new.disk
DoesAsProvider Flush from before after answer old new = (answer ≡ Ok Flushed) × Logs (event.Flush ∷ []) old.disk new.disk
