-- A request alone does what a line does in its place.
use Rattle.std.proofs.Common.{◌≡◌, ◌∙◌, inl, inr, ℕ, zero, suc, List, [], ◌∷◌, length, take, drop, ap, refl, sym, subst, Option, Result, Ok, Err}
use Rattle.std.proofs.Math.Seq.{take-append_seam}
use Rattle.bio_queue.specs.declared.faults.ReapFault.TheVariants as reap
use Rattle.bio_queue.specs.declared.job.Job.TheVariants as jobs
use Rattle.bio_queue.specs.declared.job.Reaped.TheVariants as given
use Rattle.block_traits.specs.declared.disk.Event.TheVariants as event
use Rattle.command_rows.specs.Rows.{Attachment, IsAttached, Reach, bytes_spelled, or_refusal, with_queue}
use Rattle.command_rows.specs.Vocabulary.{DiskState, IsKeying, Job, JobWords, Logs, ReadsAs, ReapFault, Reaped, Refusal, StepAnswers, StepFault, StepsOn, SubmitAnswers, SubmitFault, bytes_at, units_of}
use Rattle.command_words.specs.declared.commands.JobWords.TheVariants as words
use Rattle.queue_readings.specs.Alone as queue
use Rattle.queue_readings.specs.Alone.{DoesAsProvider, StepsThrough, request_for}
use Rattle.queue_readings.specs.Moves.{InFlight}
use Rattle.queue_readings.proofs.Alone.{does_alone}
use Rattle.geli_core.specs.Placing.{work_in}
use Rattle.geli_core.specs.Requests.{DoesAsLine, IsRequestDoneAlone, StepsDone}
use Rattle.geli_core.specs.Vocabulary.{IsWritten, ReapRow, ReapsRequest, StepRow, job_of, reap_answer, step_refusal, submit_refusal, work_of}
use Rattle.geli_core.proofs.Owning.{at_attached}
use Rattle.geli_core.proofs.Requested.{Asks, reap_asks, step_asks, submit_asks}

-- what is attached, with its disk, as requests in flight see it
abbrev flight : Attachment → DiskState → InFlight
flight a d = record { queue = a.queue; keying = a.keying; readonly = a.readonly; disk = d }

-- ---- the steps of a request

record Through (tag many : ℕ) (a : Attachment) (old new : Reach) : Type 0 where
  last : Attachment
  is : new.holding ≡ IsAttached last
  steps : StepsThrough tag many (flight a old.disk) (flight last new.disk)

ok_step : (tag left : ℕ) (found : Result ℕ StepFault) → Ok left ≡ or_refusal (step_refusal tag) found → found ≡ Ok left
ok_step tag left (Ok n) h = (let same : left ≡ n = cc h in ap (λ (k : ℕ). Ok k) (sym same))
ok_step tag left (Err fault) h = absurd (let differ : ⊥ = cc h in differ)

through : (tag many : ℕ) (a : Attachment) (old new : Reach) → old.holding ≡ IsAttached a → StepsDone tag many old new → Through tag many a old new
through tag zero a old new is h = record { last = a; is = ap (λ (r : Reach). r.holding) h ∙ is; steps = ap (λ (r : Reach). flight a r.disk) h }
through tag (suc many) a old new is h =
    let row = at_attached old.holding a (λ b. StepRow tag b old (Ok h.1) h.0) is h.2 in
    elim (step_asks tag a old (Ok h.1) h.0 row) [
      | inl none ↦ absurd (let said = none.is in let differ : ⊥ = cc said in differ)
      | inr s ↦
          let on : StepsOn tag h.1 a.queue s.queue old.disk h.0.disk = subst (λ (r : Result ℕ StepFault). StepAnswers tag a.queue s.queue old.disk h.0.disk r) (ok_step tag h.1 s.left s.answered) s.steps in
          let rest = through tag many (with_queue s.queue a) h.0 new s.holding h.3 in
          record { last = rest.last; is = rest.is; steps = (flight (with_queue s.queue a) h.0.disk, h.1, on, record { keying = refl; readonly = refl }, rest.steps) }
    ]

-- ---- what a request comes to

job_of-work : (number : ℕ) (job : Job) (from : List ℕ) → job_of (work_of number job from) ≡ job
job_of-work number (jobs.Read sector count) from = refl
job_of-work number (jobs.Write sector count) from = refl
job_of-work number jobs.Flush from = refl

ok_tag : (tag : ℕ) (found : Result ℕ SubmitFault) → Ok tag ≡ or_refusal submit_refusal found → found ≡ Ok tag
ok_tag tag (Ok n) h = (let same : tag ≡ n = cc h in ap (λ (k : ℕ). Ok k) (sym same))
ok_tag tag (Err fault) h = absurd (let differ : ⊥ = cc h in differ)

-- what a read returns
read_as : (line : List ℕ) (sector count : ℕ) (a : Attachment) (old new : Reach) (last : InFlight) (from before after : List ℕ) (tag : ℕ) (said : Result Reaped ReapFault) → last.disk ≡ new.disk → DoesAsProvider (jobs.Read sector count) from before after said (flight a old.disk) last
    → DoesAsLine line (words.Read sector count) a old (reap_answer tag after said) new
read_as line sector count a old new last from before after tag (Ok (given.Bytes many)) same h =
    let size : many ≡ length h.1.0 = cc (h.1.1) in
    let front : take many after ≡ h.1.0 = ap (λ (n : ℕ). take n after) size ∙ ap (take (length h.1.0)) h.1.2 ∙ take-append_seam h.1.0 (drop (length h.1.0) before) in
    (h.0, subst (Logs [] old.disk) same h.1.3, subst (λ (l : List ℕ). ReadsAs old.disk a.keying sector count (Ok l)) (sym front) h.1.4)
read_as line sector count a old new last from before after tag (Ok given.Written) same h = absurd (let said = h.1.1 in let differ : ⊥ = cc said in differ)
read_as line sector count a old new last from before after tag (Ok given.Flushed) same h = absurd (let said = h.1.1 in let differ : ⊥ = cc said in differ)
read_as line sector count a old new last from before after tag (Err (reap.Integrity offset)) same h = (h.0, subst (Logs [] old.disk) same h.1.1, h.1.2)
read_as line sector count a old new last from before after tag (Err reap.NoRequest) same h = absurd h.1
read_as line sector count a old new last from before after tag (Err (reap.NotDone left)) same h = absurd h.1

-- a request of each kind of job does what the line does
does_as : (line : List ℕ) (asked : JobWords) (a : Attachment) (old new : Reach) (last : InFlight) (job : Job) (from before after : List ℕ) (tag : ℕ) (said : Result Reaped ReapFault) → work_in 0 a.keying line asked ≡ work_of 0 job from → last.disk ≡ new.disk
    → DoesAsProvider job from before after said (flight a old.disk) last → DoesAsLine line asked a old (reap_answer tag after said) new
does_as line (words.Read sector count) a old new last (jobs.Read first many) from before after tag said work same h =
    let at : first ≡ sector = cc work in
    let size : many ≡ count = cc work in
    read_as line sector count a old new last from before after tag said same (subst (λ (n : ℕ). DoesAsProvider (jobs.Read sector n) from before after said (flight a old.disk) last) size
    (subst (λ (n : ℕ). DoesAsProvider (jobs.Read n many) from before after said (flight a old.disk) last) at h))
does_as line (words.Read sector count) a old new last (jobs.Write first many) from before after tag said work same h = absurd (let differ : ⊥ = cc work in differ)
does_as line (words.Read sector count) a old new last jobs.Flush from before after tag said work same h = absurd (let differ : ⊥ = cc work in differ)
does_as line (words.Write sector hex) a old new last (jobs.Write first many) from before after tag said work same h =
    let bytes : List ℕ = bytes_spelled (bytes_at line hex) in
    let at : first ≡ sector = cc work in
    let plain : from ≡ bytes = cc work in
    let w : IsWritten a.keying (request_for (flight a old.disk) sector bytes) bytes old.disk new.disk =
    subst (λ (l : List ℕ). IsWritten a.keying (request_for (flight a old.disk) sector l) l old.disk new.disk) plain
    (subst (λ (n : ℕ). IsWritten a.keying (request_for (flight a old.disk) n from) from old.disk new.disk) at (subst (λ (d : DiskState). IsWritten a.keying (request_for (flight a old.disk) first from) from old.disk d) same h.2)) in
    subst (λ (r : Result Reaped ReapFault). DoesAsLine line (words.Write sector hex) a old (reap_answer tag after r) new) (sym h.0) (h.1, w.in_range, w.logs)
does_as line (words.Write sector hex) a old new last (jobs.Read first many) from before after tag said work same h = absurd (let differ : ⊥ = cc work in differ)
does_as line (words.Write sector hex) a old new last jobs.Flush from before after tag said work same h = absurd (let differ : ⊥ = cc work in differ)
does_as line words.Flush a old new last jobs.Flush from before after tag said work same h =
    subst (λ (r : Result Reaped ReapFault). DoesAsLine line words.Flush a old (reap_answer tag after r) new) (sym h.0) (subst (Logs (event.Flush ∷ []) old.disk) same h.1)
does_as line words.Flush a old new last (jobs.Read first many) from before after tag said work same h = absurd (let differ : ⊥ = cc work in differ)
does_as line words.Flush a old new last (jobs.Write first many) from before after tag said work same h = absurd (let differ : ⊥ = cc work in differ)

-- ---- the law

reaped_as_line : (line : List ℕ) (asked : JobWords) (a : Attachment) (old : Reach) (answer : Result (Option (List ℕ)) Refusal) (new : Reach) (tag : ℕ) (opened done : Reach) (asks : Asks line asked a old (Ok tag) opened) (t : Through tag (units_of a.keying asks.job) (with_queue asks.submits.queue a) opened done)
    → IsKeying a.keying → ReapsRequest t.last tag done answer new → DoesAsLine line asked a old answer new
reaped_as_line line asked a old answer new tag opened done asks t keyed r =
    let s = asks.submits in
    let last : InFlight = flight (with_queue r.queue t.last) new.disk in
    let alone : queue.IsDoneAlone asks.job asks.from r.before r.after r.given (flight a old.disk) last = record {
      asked = asks.is_asked;
      tag = tag;
      open_in = flight (with_queue s.queue a) opened.disk;
      submitted = subst (SubmitAnswers a.keying a.readonly old.disk asks.job asks.from a.queue s.queue) (ok_tag tag s.tag s.answered) s.submits;
      opens = record { keeps = record { keying = refl; readonly = refl }; disk = ap (λ (x : Reach). x.disk) s.left };
      done_in = flight t.last done.disk;
      steps = t.steps;
      reaped = r.reaps;
      stays = record { keeps = record { keying = refl; readonly = refl }; disk = ap (λ (x : Reach). x.disk) r.left };
    } in
    subst (λ (x : Result (Option (List ℕ)) Refusal). DoesAsLine line asked a old x new) (sym r.answered)
    (does_as line asked a old new last asks.job asks.from r.before r.after tag r.given (asks.work 0) refl (does_alone asks.job asks.from r.before r.after r.given (flight a old.disk) last keyed alone))

pub alone_as_line : (line : List ℕ) (asked : JobWords) (a : Attachment) (old new : Reach) (answer : Result (Option (List ℕ)) Refusal) → old.holding ≡ IsAttached a → IsKeying a.keying → IsRequestDoneAlone line asked a old answer new → DoesAsLine line asked a old answer new
alone_as_line line asked a old new answer is keyed h =
    elim (submit_asks line asked a old (Ok h.tag) h.opened keyed h.submitted) [
      | inl refusal ↦ absurd (let said = refusal.is in let differ : ⊥ = cc said in differ)
      | inr asks ↦
          let job_is : job_of (work_in 0 a.keying line asked) ≡ asks.job = ap job_of (asks.work 0) ∙ job_of-work 0 asks.job asks.from in
          let stepped : StepsDone h.tag (units_of a.keying asks.job) h.opened h.done = subst (λ (j : Job). StepsDone h.tag (units_of a.keying j) h.opened h.done) job_is h.stepped in
          let t = through h.tag (units_of a.keying asks.job) (with_queue asks.submits.queue a) h.opened h.done (ap (λ (x : Reach). x.holding) asks.submits.left) stepped in
          elim (reap_asks h.tag t.last h.done answer new (at_attached h.done.holding t.last (λ b. ReapRow h.tag b h.done answer new) t.is h.reaped)) [
            | inl none ↦ absurd (h.there none.is)
            | inr r ↦ reaped_as_line line asked a old answer new h.tag h.opened h.done asks t keyed r
          ]
    ]
