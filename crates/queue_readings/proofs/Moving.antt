-- Calls one after the other are moves of a play.
use Rattle.std.proofs.Common.{◌≡◌, ℕ, Bool, List, [], ◌∷◌, length, map, None, IsSome, Ok, Err, refl, sym, ap, ◌∙◌, subst}
use Rattle.std.proofs.lemmas.List.{length-map}
use Rattle.block_traits.specs.Content.{Content}
use Rattle.block_traits.specs.Disk.{DiskState}
use Rattle.eli_base.specs.Keying.{Keying}
use Rattle.provider.specs.Attached as provider
use Rattle.readings.specs.Survivors.{content_media}
use Rattle.bio_queue.specs.Answers.{IsAdmitted, IsRefusedBy}
use Rattle.bio_queue.specs.Requests.{IsLeastFree, Request, request_with}
use Rattle.bio_queue.specs.Requests as requests
use Rattle.bio_queue.specs.declared.faults.ReapFault.TheVariants as reap
use Rattle.bio_queue.specs.declared.faults.StepFault.TheVariants as step
use Rattle.bio_queue.specs.declared.faults.SubmitFault.{SubmitFault}
use Rattle.bio_queue.specs.declared.job.Job.{Job}
use Rattle.queue_readings.specs.Tasks.{Task, request_of, task_with}
use Rattle.queue_readings.specs.Play.{IsLeastFreeTag, Play, Shows, broken, reaped, task_stepped, submitted}
use Rattle.queue_readings.specs.Moves.{AreMade, AreMoves, QueueCall, InFlight, IsMade, IsPlayed, KeepsKeying, MovesPlay, Reap, ShowsIn, Step, Submit}
use Rattle.queue_readings.proofs.Calls.{breaks_off, reaps, reaps_fault, same_media, steps_on, submits}
use Rattle.queue_readings.proofs.Lists.{no_task, IsSome-task_with, task_found}

-- one call is one move
pub record IsMoved (c : Content) (call : QueueCall) (m : Play) (old new : InFlight) : Type 0 where
  pub play : Play
  pub move : MovesPlay old.readonly old.keying c call m play
  pub shows : ShowsIn old.keying c play new
  pub keeps : KeepsKeying old new

free_tag : (k : Keying) (tag : ℕ) (queue : List Request) (tasks : List Task) → queue ≡ map (request_of k) tasks → IsLeastFree tag queue → IsLeastFreeTag tag tasks
free_tag k tag queue tasks is h = record {
  room = h.room;
  free = no_task k tag tasks (ap (request_with tag) (sym is) ∙ h.free);
  least = λ t lt. IsSome-task_with k t tasks (subst (λ (q : List Request). IsSome (request_with t q)) is (h.least t lt));
}

none_there : (k : Keying) (tag : ℕ) (queue : List Request) (tasks : List Task) → queue ≡ map (request_of k) tasks → request_with tag queue ≡ None → task_with tag tasks ≡ None
none_there k tag queue tasks is h = no_task k tag tasks (ap (request_with tag) (sym is) ∙ h)

-- a job is refused as the play says
turned_away : (readonly : Bool) (k : Keying) (c : Content) (m : Play) (job : Job) (fault : SubmitFault) (queue : List Request) (d : DiskState) → Shows k c m queue d → IsRefusedBy readonly (provider.media k d) job (length queue) fault
    → IsRefusedBy readonly (content_media k c) job (length m.tasks) fault
turned_away readonly k c m job fault queue d shows h =
    let many : length queue ≡ length m.tasks = ap (λ (q : List Request). length q) shows.queue ∙ length-map m.tasks (request_of k) in
    subst (λ (n : ℕ). IsRefusedBy readonly n job (length m.tasks) fault) (same_media k c m.steps d shows.told) (subst (λ (n : ℕ). IsRefusedBy readonly (provider.media k d) job n fault) many h)

-- the queue and the disk are as before
still : (k : Keying) (c : Content) (m : Play) (old new : List Request) (d d' : DiskState) → new ≡ old → d' ≡ d → Shows k c m old d → Shows k c m new d'
still k c m old new d d' queue disk shows = record {
  play = shows.play;
  told = ap (λ (x : DiskState). x.content) disk ∙ shows.told;
  queue = queue ∙ shows.queue;
}

moved : (c : Content) (call : QueueCall) (m : Play) (old new : InFlight) → ShowsIn old.keying c m old → IsMade call old new → IsMoved c call m old new
moved c (Submit job from (Ok tag)) m old new shows h = record {
  play = submitted tag job from m;
  move = (
    subst (λ (n : ℕ). IsAdmitted old.readonly n job) (same_media old.keying c m.steps old.disk shows.told) h.2.admitted,
    free_tag old.keying tag old.queue m.tasks shows.queue h.2.free,
    refl,
  );
  shows = submits old.keying old.readonly c m job from old.queue new.queue old.disk new.disk tag shows h.0 h.1 h.2 h.3.disk;
  keeps = h.3.keeps;
}
moved c (Submit job from (Err fault)) m old new shows h = record {
  play = m;
  move = (turned_away old.readonly old.keying c m job fault old.queue old.disk shows h.2.0, refl);
  shows = still old.keying c m old.queue new.queue old.disk new.disk h.2.1 h.3.disk shows;
  keeps = h.3.keeps;
}
moved c (Step tag (Ok left)) m old new shows h =
    let on = steps_on old.keying c m tag left old.queue new.queue old.disk new.disk shows h.0 in
    record {
      play = task_stepped old.keying c on.task m;
      move = record { task = on.task; found = on.found; is = record { more = on.more; rest = on.rest; play = refl } };
      shows = on.shows;
      keeps = h.1;
    }
moved c (Step tag (Err step.NoRequest)) m old new shows h = record {
  play = m;
  move = (none_there old.keying tag old.queue m.tasks shows.queue h.0.0, refl);
  shows = still old.keying c m old.queue new.queue old.disk new.disk h.0.1 h.0.2 shows;
  keeps = h.1;
}
moved c (Step tag (Err step.AllDone)) m old new shows h =
    let k = old.keying in
    let found = task_found k tag m.tasks h.0.0.request (λ t. Unit {0}) (λ i d lt. tt) (ap (request_with tag) (sym shows.queue) ∙ h.0.0.found) in
    record {
      play = m;
      move = (record { task = found.task; found = found.found; is = ap requests.left_of found.shown ∙ h.0.0.none }, refl);
      shows = still k c m old.queue new.queue old.disk new.disk h.0.1 h.0.2 shows;
      keeps = h.1;
    }
moved c (Step tag (Err step.DeviceFault)) m old new shows h =
    let off = breaks_off old.keying c m tag old.queue new.queue old.disk new.disk shows h.0 in
    record {
      play = broken old.keying off.task off.many m;
      move = record { task = off.task; found = off.found; is = record { more = off.more; many = off.many; play = refl } };
      shows = off.shows;
      keeps = h.1;
    }
moved c (Reap tag before after (Ok given)) m old new shows h =
    let k = old.keying in
    let out = reaps k c m tag old.queue new.queue old.disk before after given shows h.0 in
    record {
      play = reaped tag m;
      move = (record { task = out.task; found = out.found; is = (out.none, out.gives) }, refl);
      shows = still k c (reaped tag m) new.queue new.queue old.disk new.disk refl h.1.disk out.shows;
      keeps = h.1.keeps;
    }
moved c (Reap tag before after (Err reap.NoRequest)) m old new shows h = record {
  play = m;
  move = (none_there old.keying tag old.queue m.tasks shows.queue h.0.0, h.0.2, refl);
  shows = still old.keying c m old.queue new.queue old.disk new.disk h.0.1 h.1.disk shows;
  keeps = h.1.keeps;
}
moved c (Reap tag before after (Err (reap.NotDone left))) m old new shows h =
    let k = old.keying in
    let found = task_found k tag m.tasks h.0.0.request (λ t. Unit {0}) (λ i d lt. tt) (ap (request_with tag) (sym shows.queue) ∙ h.0.0.found) in
    record {
      play = m;
      move = (record { task = found.task; found = found.found; is = (h.0.0.some, h.0.0.rest ∙ sym (ap requests.left_of found.shown)) }, h.0.2, refl);
      shows = still k c m old.queue new.queue old.disk new.disk h.0.1 h.1.disk shows;
      keeps = h.1.keeps;
    }
moved c (Reap tag before after (Err (reap.Integrity offset))) m old new shows h =
    let k = old.keying in
    let out = reaps_fault k c m tag offset old.queue new.queue old.disk shows h.0.0 in
    record {
      play = reaped tag m;
      move = (record { task = out.task; found = out.found; is = (out.none, out.gives) }, h.0.1, refl);
      shows = still k c (reaped tag m) new.queue new.queue old.disk new.disk refl h.1.disk out.shows;
      keeps = h.1.keeps;
    }

pub played : (c : Content) (calls : List QueueCall) (m : Play) (old new : InFlight) → ShowsIn old.keying c m old → AreMade calls old new → IsPlayed c calls m old new
played c [] m old new shows h = record {
  play = m;
  moves = refl;
  shows = subst (ShowsIn old.keying c m) (sym h) shows;
  keeps = record { keying = ap (λ (x : InFlight). x.keying) h; readonly = ap (λ (x : InFlight). x.readonly) h };
}
played c (call ∷ calls) m old new shows h =
    let one = moved c call m old h.0 shows h.1 in
    let here = subst (λ (k : Keying). ShowsIn k c one.play h.0) (sym one.keeps.keying) one.shows in
    let rest = played c calls one.play h.0 new here h.2 in
    record {
      play = rest.play;
      moves = (one.play, one.move, subst (λ (b : Bool). AreMoves b old.keying c calls one.play rest.play) one.keeps.readonly (subst (λ (k : Keying). AreMoves h.0.readonly k c calls one.play rest.play) one.keeps.keying rest.moves));
      shows = subst (λ (k : Keying). ShowsIn k c rest.play new) one.keeps.keying rest.shows;
      keeps = record { keying = rest.keeps.keying ∙ one.keeps.keying; readonly = rest.keeps.readonly ∙ one.keeps.readonly };
    }
