-- A job that is done alone does as the provider's own call.
use Rattle.std.proofs.Common.{◌≡◌, ℕ, zero, suc, ◌+◌, ◌-◌, ◌*◌, ◌/◌, ◌<◌, ◌≤◌, ◌==◌, nat_lt, Bool, true, false, cond, List, [], ◌∷◌, ◌++◌, length, get_or, take, drop, Option, Some, None, Result, Ok, Err, refl, sym, ap, ◌∙◌, subst, arith, append_assoc, append-nil, length-append}
use Rattle.std.proofs.Math.Nat.{mul-div_cancel}
use Rattle.std.proofs.Math.Seq.{drop-cons}
use Rattle.std.proofs.lemmas.Bool.{eqb-true, eq-eqb}
use Rattle.std.proofs.lemmas.List.{drop_all}
use Rattle.block_traits.specs.Content.{Content}
use Rattle.block_traits.specs.Disk.{DiskState, GivesFrom, Logs, writes_from}
use Rattle.block_traits.specs.declared.disk.Event.{Event}
use Rattle.block_traits.specs.declared.disk.Event.TheVariants as event
use Rattle.block_traits.proofs.Logs.{Logs-nothing, Logs-then, content-Logs}
use Rattle.eli_base.specs.Keying.{Keying}
use Rattle.provider.specs.Attached.{media}
use Rattle.sector_runs.specs.Reading.{StandFrom, standing}
use Rattle.sector_runs.specs.Writing.{data_writes}
use Rattle.sector_runs.proofs.Data.{reads_as, writes_all}
use Rattle.range_keys.specs.Ring.{IsKeying}
use Rattle.sealing.specs.Sectors.{seal, units}
use Rattle.sealing.proofs.Sectors.{length-seal}
use Rattle.bio_queue.specs.Answers.{Gave, HasBadUnit, IsGiven, ReapAnswers, StepsOn, TakesOut, asked, units_of}
use Rattle.bio_queue.specs.Requests.{Request, exchanged, first_of, next_of, put_in, request_with, step_events, stepped}
use Rattle.sealing.specs.Data.{sealed_sectors}
use Rattle.bio_queue.specs.declared.faults.ReapFault.{ReapFault}
use Rattle.bio_queue.specs.declared.faults.ReapFault.TheVariants as reap
use Rattle.bio_queue.specs.declared.job.Job.{Job}
use Rattle.bio_queue.specs.declared.job.Job.TheVariants.{Read, Write, Flush}
use Rattle.bio_queue.specs.declared.job.Reaped.{Reaped}
use Rattle.bio_queue.specs.declared.job.Reaped.TheVariants.{Written, Flushed}
use Rattle.queue_readings.specs.Moves.{InFlight}
use Rattle.queue_readings.specs.Alone.{DoesAsProvider, GivesAsRead, IsDoneAlone, StepsThrough}

-- ---- the request in its queue

one : (o : Option Request) (r s : Request) → o ≡ Some r → o ≡ Some s → r ≡ s
one o r s hr hs = let both : Some r ≡ Some s = sym hr ∙ hs in cc

put_step : (new x : Request) (queue : List Request) (tag : ℕ) (b before : Bool) → (x.tag == tag) ≡ b → new.tag ≡ tag → cond b (Some x) (request_with tag queue) ≡ None → request_with tag (put_in new queue) ≡ Some new
    → request_with tag (cond before (new ∷ x ∷ queue) (x ∷ put_in new queue)) ≡ Some new
put_step new x queue tag true before same is h more = absurd (let none : ⊥ = cc in none)
put_step new x queue tag false true same is h more = ap (λ (c : Bool). cond c (Some new) (request_with tag (x ∷ queue))) (eq-eqb new.tag tag is)
put_step new x queue tag false false same is h more = ap (λ (c : Bool). cond c (Some x) (request_with tag (put_in new queue))) same ∙ more

none_behind : (x : Request) (queue : List Request) (tag : ℕ) (b : Bool) → cond b (Some x) (request_with tag queue) ≡ None → request_with tag queue ≡ None
none_behind x queue tag true h = absurd (let none : ⊥ = cc in none)
none_behind x queue tag false h = h

put_there : (new : Request) (queue : List Request) (tag : ℕ) → new.tag ≡ tag → request_with tag queue ≡ None → request_with tag (put_in new queue) ≡ Some new
put_there new [] tag is h = ap (λ (c : Bool). cond c (Some new) None) (eq-eqb new.tag tag is)
put_there new (x ∷ queue) tag is h =
    put_step new x queue tag (x.tag == tag) (nat_lt new.tag x.tag) refl is h (put_there new queue tag is (none_behind x queue tag (x.tag == tag) h))

exchange_step : (new x r : Request) (queue : List Request) (tag : ℕ) (b : Bool) → (x.tag == tag) ≡ b → new.tag ≡ tag → cond b (Some x) (request_with tag queue) ≡ Some r → (request_with tag queue ≡ Some r → request_with tag (exchanged new queue) ≡ Some new)
    → request_with tag (cond b (new ∷ queue) (x ∷ exchanged new queue)) ≡ Some new
exchange_step new x r queue tag true same is h more = ap (λ (c : Bool). cond c (Some new) (request_with tag queue)) (eq-eqb new.tag tag is)
exchange_step new x r queue tag false same is h more = ap (λ (c : Bool). cond c (Some x) (request_with tag (exchanged new queue))) same ∙ more h

exchange_there : (new r : Request) (queue : List Request) (tag : ℕ) → new.tag ≡ tag → request_with tag queue ≡ Some r → request_with tag (exchanged new queue) ≡ Some new
exchange_there new r [] tag is h = absurd (let none : ⊥ = cc in none)
exchange_there new r (x ∷ queue) tag is h =
    subst (λ (t : ℕ). request_with tag (cond (x.tag == t) (new ∷ queue) (x ∷ exchanged new queue)) ≡ Some new) (sym is)
    (exchange_step new x r queue tag (x.tag == tag) refl is h (exchange_there new r queue tag is))

tagged_step : (x r : Request) (queue : List Request) (tag : ℕ) (b : Bool) → (x.tag == tag) ≡ b → cond b (Some x) (request_with tag queue) ≡ Some r → (request_with tag queue ≡ Some r → r.tag ≡ tag) → r.tag ≡ tag
tagged_step x r queue tag true same h more = let here : x ≡ r = cc in sym (ap (λ (q : Request). q.tag) here) ∙ eqb-true x.tag tag same
tagged_step x r queue tag false same h more = more h

has_tag : (queue : List Request) (tag : ℕ) (r : Request) → request_with tag queue ≡ Some r → r.tag ≡ tag
has_tag [] tag r h = absurd (let none : ⊥ = cc in none)
has_tag (x ∷ queue) tag r h = tagged_step x r queue tag (x.tag == tag) refl h (has_tag queue tag r)

-- ---- step by step

-- what one step does to the request
pub record IsOneStep (tag : ℕ) (r : Request) (between : InFlight) (d : DiskState) : Type 0 where
  pub bytes : List ℕ
  pub given : IsGiven d r.job (next_of r) bytes
  pub logs : Logs (step_events r) d between.disk
  pub found : request_with tag between.queue ≡ Some (stepped r bytes)

one_step : (tag left : ℕ) (r : Request) (old between : InFlight) → request_with tag old.queue ≡ Some r → StepsOn tag left old.queue between.queue old.disk between.disk → IsOneStep tag r between old.disk
one_step tag left r old between found h =
    let same : h.request ≡ r = one (request_with tag old.queue) h.request r h.found found in
    let tagged = has_tag old.queue tag r found in
    record {
      bytes = h.bytes;
      given = subst (λ (q : Request). IsGiven old.disk q.job (next_of q) h.bytes) same h.given;
      logs = subst (λ (q : Request). Logs (step_events q) old.disk between.disk) same h.logs;
      found = ap (request_with tag) (h.queue ∙ ap (λ (q : Request). exchanged (stepped q h.bytes) old.queue) same) ∙ exchange_there (stepped r h.bytes) r old.queue tag tagged found;
    }

kept_through : (tag many : ℕ) (old new : InFlight) → StepsThrough tag many old new → new.keying ≡ old.keying
kept_through tag zero old new h = ap (λ (x : InFlight). x.keying) h
kept_through tag (suc many) old new h = kept_through tag many h.0 new h.4 ∙ h.3.keying

-- ---- a write

writes_cons : (n done : ℕ) (device : List (List ℕ)) → done < length device → writes_from (n + done) (drop done device) ≡ event.Write (n + done) (get_or device done []) ∷ writes_from (n + (done + 1)) (drop (done + 1) device)
writes_cons n done device lt =
    let at : n + done + 1 ≡ n + (done + 1) = omega arith in
    let next : suc done ≡ done + 1 = omega arith in
    ap (writes_from (n + done)) (drop-cons device done [] lt) ∙ (λ i. event.Write (n + done) (get_or device done []) ∷ writes_from (at i) (drop (next i) device))

written_through : (tag sector count all many done : ℕ) (device : List (List ℕ)) (old new : InFlight) → length device ≡ all → done + many ≡ all → StepsThrough tag many old new
    → request_with tag old.queue ≡ Some (record { tag = tag; job = Write sector count; done = done; units = all; device = device })
    → Logs (writes_from (first_of (Write sector count) all + done) (drop done device)) old.disk new.disk
    × (request_with tag new.queue ≡ Some (record { tag = tag; job = Write sector count; done = all; units = all; device = device }))
written_through tag sector count all zero done device old new long sum h found =
    let n : ℕ = first_of (Write sector count) all in
    let end : done ≡ all = omega arith in
    let none : writes_from (n + done) (drop done device) ≡ [] = ap (writes_from (n + done)) (drop_all done device (omega arith)) in (
      subst (λ (x : InFlight). Logs (writes_from (n + done) (drop done device)) old.disk x.disk) (sym h)
          (subst (λ (e : List Event). Logs e old.disk old.disk) (sym none) (Logs-nothing old.disk)),
      ap (λ (x : InFlight). request_with tag x.queue) h ∙ found ∙ (λ i. Some (record { tag = tag; job = Write sector count; done = end i; units = all; device = device })),
    )
written_through tag sector count all (suc many) done device old new long sum h found =
    let n : ℕ = first_of (Write sector count) all in
    let r : Request = record { tag = tag; job = Write sector count; done = done; units = all; device = device } in
    let step = one_step tag h.1 r old h.0 found h.2 in
    let rest = written_through tag sector count all many (done + 1) device h.0 new long (omega arith) h.4 step.found in (
      subst (λ (e : List Event). Logs e old.disk new.disk) (sym (writes_cons n done device (omega arith)))
          (Logs-then (event.Write (n + done) (get_or device done []) ∷ []) (writes_from (n + (done + 1)) (drop (done + 1) device)) step.logs rest.0),
      rest.1,
    )

length-sealed_sectors : (k : Keying) (sector count : ℕ) (bytes : List ℕ) → length (sealed_sectors k sector count bytes) ≡ count * units k
length-sealed_sectors k sector zero bytes = omega arith
length-sealed_sectors k sector (suc count) bytes =
    let S : ℕ = k.sectorsize in
    let first = length-seal k sector (take S bytes) in
    let more = length-sealed_sectors k (sector + 1) count (drop S bytes) in
    let both = length-append (seal k sector (take S bytes)) (sealed_sectors k (sector + 1) count (drop S bytes)) in
    omega arith

-- ---- a read

stand_none : (told : Option Content) (n : ℕ) → StandFrom told n 0 []
stand_none None n = tt
stand_none (Some c) n = refl

stand_next : (told now : Option Content) (n done many : ℕ) (bytes : List ℕ) (more : List (List ℕ)) → now ≡ told → GivesFrom told (n + done) bytes → StandFrom now (n + (done + 1)) many more → StandFrom told (n + done) (suc many) (bytes ∷ more)
stand_next None now n done many bytes more same gives stand = tt
stand_next (Some c) now n done many bytes more same gives stand =
    let at : n + (done + 1) ≡ n + done + 1 = omega arith in
    let there : more ≡ standing c (n + (done + 1)) many = subst (λ (o : Option Content). StandFrom o (n + (done + 1)) many more) same stand in
    (λ i. gives i ∷ (there ∙ ap (λ (m : ℕ). standing c m many) at) i)

read_through : (tag sector count all many done : ℕ) (device : List (List ℕ)) (old new : InFlight) → done + many ≡ all → StepsThrough tag many old new
    → request_with tag old.queue ≡ Some (record { tag = tag; job = Read sector count; done = done; units = all; device = device })
    → (more : List (List ℕ)) × Logs [] old.disk new.disk × StandFrom old.disk.content (first_of (Read sector count) all + done) many more
    × (request_with tag new.queue ≡ Some (record { tag = tag; job = Read sector count; done = all; units = all; device = device ++ more }))
read_through tag sector count all zero done device old new sum h found =
    let end : done ≡ all = omega arith in (
      [],
      subst (λ (x : InFlight). Logs [] old.disk x.disk) (sym h) (Logs-nothing old.disk),
      stand_none old.disk.content (first_of (Read sector count) all + done),
      ap (λ (x : InFlight). request_with tag x.queue) h ∙ found ∙ (λ i. Some (record { tag = tag; job = Read sector count; done = end i; units = all; device = sym (append-nil device) i })),
    )
read_through tag sector count all (suc many) done device old new sum h found =
    let r : Request = record { tag = tag; job = Read sector count; done = done; units = all; device = device } in
    let n : ℕ = first_of (Read sector count) all in
    let step = one_step tag h.1 r old h.0 found h.2 in
    let rest = read_through tag sector count all many (done + 1) (device ++ step.bytes ∷ []) h.0 new (omega arith) h.4 step.found in (
      step.bytes ∷ rest.0,
      Logs-then [] [] step.logs rest.1,
      stand_next old.disk.content h.0.disk.content n done many step.bytes rest.0 (content-Logs old.disk h.0.disk step.logs) step.given rest.2,
      rest.3 ∙ (λ i. Some (record { tag = tag; job = Read sector count; done = all; units = all; device = append_assoc device (step.bytes ∷ []) rest.0 i })),
    )

-- ---- a job alone

first_place : (sector count units : ℕ) → 1 ≤ count → sector * (count * units / count) + 0 ≡ sector * units
first_place sector count units some =
    let e : count * units ≡ units * count = omega arith in
    let same : count * units / count ≡ units = ap (λ (n : ℕ). n / count) e ∙ mul-div_cancel units some in
    let at : sector * (count * units / count) ≡ sector * units = ap (λ (n : ℕ). sector * n) same in
    omega (arith, at)

-- the request is in the queue
opened : (job : Job) (from before after : List ℕ) (answer : Result Reaped ReapFault) (old new : InFlight) (h : IsDoneAlone job from before after answer old new) → request_with h.tag h.open_in.queue ≡ Some (asked old.keying h.tag job from)
opened job from before after answer old new h =
    ap (request_with h.tag) h.submitted.queue ∙ put_there (asked old.keying h.tag job from) old.queue h.tag refl h.submitted.free.free

-- the events of its steps are all that was logged
ended : (events : List Event) (job : Job) (from before after : List ℕ) (answer : Result Reaped ReapFault) (old new : InFlight) (h : IsDoneAlone job from before after answer old new) → Logs events h.open_in.disk h.done_in.disk
    → Logs events old.disk new.disk
ended events job from before after answer old new h logs =
    subst (λ (d : DiskState). Logs events old.disk d) (sym h.stays.disk) (subst (λ (d : DiskState). Logs events d h.done_in.disk) h.opens.disk logs)

-- the request is reaped under the keying that it was submitted under
reaped_so : (job : Job) (from before after : List ℕ) (answer : Result Reaped ReapFault) (old new : InFlight) (h : IsDoneAlone job from before after answer old new) → ReapAnswers old.keying h.tag h.done_in.queue new.queue before after answer
reaped_so job from before after answer old new h =
    let same = kept_through h.tag (units_of old.keying job) h.open_in h.done_in h.steps ∙ h.opens.keeps.keying in
    subst (λ (k : Keying). ReapAnswers k h.tag h.done_in.queue new.queue before after answer) same h.reaped

-- what reaping a request that was found says
taken : (tag : ℕ) (queue left : List Request) (r : Request) (P : Request → Type 0) → request_with tag queue ≡ Some r → TakesOut tag queue left P → P r
taken tag queue left r P found h = subst P (one (request_with tag queue) h.request r h.found found) h.gives

write_answer : (k : Keying) (tag sector count : ℕ) (device : List (List ℕ)) (queue left : List Request) (before after : List ℕ) (answer : Result Reaped ReapFault)
    → request_with tag queue ≡ Some (record { tag = tag; job = Write sector count; done = count * units k; units = count * units k; device = device }) → ReapAnswers k tag queue left before after answer → answer ≡ Ok Written
write_answer k tag sector count device queue left before after (Ok given) found h =
    ap Ok (taken tag queue left (record { tag = tag; job = Write sector count; done = count * units k; units = count * units k; device = device }) (λ r. Gave k r.job r.device before after given) found h).0
write_answer k tag sector count device queue left before after (Err reap.NoRequest) found h = absurd (let none : ⊥ = cc (h.0, found) in none)
write_answer k tag sector count device queue left before after (Err (reap.NotDone rest)) found h =
    let same = one (request_with tag queue) h.0.request (record { tag = tag; job = Write sector count; done = count * units k; units = count * units k; device = device }) h.0.found found in
    let some = h.0.some in
    let is : rest ≡ count * units k - count * units k = h.0.rest ∙ ap (λ (r : Request). r.units - r.done) same in
    absurd (let none : ⊥ = omega arith in none)
write_answer k tag sector count device queue left before after (Err (reap.Integrity offset)) found h =
    absurd (taken tag queue left (record { tag = tag; job = Write sector count; done = count * units k; units = count * units k; device = device }) (λ r. HasBadUnit k r.job r.device offset) found h.0)

flush_answer : (k : Keying) (tag : ℕ) (queue left : List Request) (before after : List ℕ) (answer : Result Reaped ReapFault) → request_with tag queue ≡ Some (record { tag = tag; job = Flush; done = 1; units = 1; device = [] })
    → ReapAnswers k tag queue left before after answer → answer ≡ Ok Flushed
flush_answer k tag queue left before after (Ok given) found h =
    ap Ok (taken tag queue left (record { tag = tag; job = Flush; done = 1; units = 1; device = [] }) (λ r. Gave k r.job r.device before after given) found h).0
flush_answer k tag queue left before after (Err reap.NoRequest) found h = absurd (let none : ⊥ = cc (h.0, found) in none)
flush_answer k tag queue left before after (Err (reap.NotDone rest)) found h =
    let same = one (request_with tag queue) h.0.request (record { tag = tag; job = Flush; done = 1; units = 1; device = [] }) h.0.found found in
    let some = h.0.some in
    let is : rest ≡ 1 - 1 = h.0.rest ∙ ap (λ (r : Request). r.units - r.done) same in
    absurd (let none : ⊥ = omega arith in none)
flush_answer k tag queue left before after (Err (reap.Integrity offset)) found h =
    absurd (taken tag queue left (record { tag = tag; job = Flush; done = 1; units = 1; device = [] }) (λ r. HasBadUnit k r.job r.device offset) found h.0)

read_answer : (k : Keying) (old new : DiskState) (tag sector count : ℕ) (device : List (List ℕ)) (queue left : List Request) (before after : List ℕ) (answer : Result Reaped ReapFault) → Logs [] old new
    → StandFrom old.content (sector * units k) (count * units k) device
    → request_with tag queue ≡ Some (record { tag = tag; job = Read sector count; done = count * units k; units = count * units k; device = device }) → ReapAnswers k tag queue left before after answer
    → GivesAsRead k old new sector count before after answer
read_answer k old new tag sector count device queue left before after (Ok given) logs stand found h =
    let gave = taken tag queue left (record { tag = tag; job = Read sector count; done = count * units k; units = count * units k; device = device }) (λ r. Gave k r.job r.device before after given) found h in
    (gave.0, gave.2, gave.4, logs, reads_as old.content k sector count device (Ok gave.0) stand gave.1)
read_answer k old new tag sector count device queue left before after (Err reap.NoRequest) logs stand found h = absurd (let none : ⊥ = cc (h.0, found) in none)
read_answer k old new tag sector count device queue left before after (Err (reap.NotDone rest)) logs stand found h =
    let same = one (request_with tag queue) h.0.request (record { tag = tag; job = Read sector count; done = count * units k; units = count * units k; device = device }) h.0.found found in
    let some = h.0.some in
    let is : rest ≡ count * units k - count * units k = h.0.rest ∙ ap (λ (r : Request). r.units - r.done) same in
    absurd (let none : ⊥ = omega arith in none)
read_answer k old new tag sector count device queue left before after (Err (reap.Integrity offset)) logs stand found h =
    let bad = taken tag queue left (record { tag = tag; job = Read sector count; done = count * units k; units = count * units k; device = device }) (λ r. HasBadUnit k r.job r.device offset) found h.0 in
    (h.1, logs, reads_as old.content k sector count device (Err offset) stand bad)

pub does_alone : (job : Job) (from before after : List ℕ) (answer : Result Reaped ReapFault) (old new : InFlight) → IsKeying old.keying → IsDoneAlone job from before after answer old new → DoesAsProvider job from before after answer old new
does_alone (Read sector count) from before after answer old new is h =
    let k = old.keying in
    let all : ℕ = count * units k in
    let zero_done : 0 + all ≡ all = omega arith in
    let through = read_through h.tag sector count all all 0 [] h.open_in h.done_in zero_done h.steps (opened (Read sector count) from before after answer old new h) in
    let at = first_place sector count (units k) h.asked.0 in
    let stand = subst (λ (n : ℕ). StandFrom h.open_in.disk.content n all through.0) at through.2 in
    let here = subst (λ (d : DiskState). StandFrom d.content (sector * units k) all through.0) h.opens.disk stand in
    let logs = ended [] (Read sector count) from before after answer old new h through.1 in
    let given = reaped_so (Read sector count) from before after answer old new h in
    (h.submitted.admitted.in_range, read_answer k old.disk new.disk h.tag sector count through.0 h.done_in.queue new.queue before after answer logs here through.3 given)
does_alone (Write sector count) from before after answer old new is h =
    let k = old.keying in
    let all : ℕ = count * units k in
    let device : List (List ℕ) = sealed_sectors k sector count from in
    let zero_done : 0 + all ≡ all = omega arith in
    let through = written_through h.tag sector count all all 0 device h.open_in h.done_in (length-sealed_sectors k sector count from) zero_done h.steps (opened (Write sector count) from before after answer old new h) in
    let at = first_place sector count (units k) h.asked.0 in
    let events : writes_from (first_of (Write sector count) all + 0) device ≡ data_writes k sector count from = ap (λ (n : ℕ). writes_from n device) at ∙ writes_all k sector count from in
    let logs = subst (λ (e : List Event). Logs e h.open_in.disk h.done_in.disk) events through.0 in
    let some : 0 < k.sectorsize = let low = is.at_least in omega arith in
    let many : length from / k.sectorsize ≡ count = ap (λ (n : ℕ). n / k.sectorsize) h.asked.2 ∙ mul-div_cancel count some in
    let given = reaped_so (Write sector count) from before after answer old new h in (
      write_answer k h.tag sector count device h.done_in.queue new.queue before after answer through.1 given,
      h.submitted.admitted.takes,
      record {
        in_range = subst (λ (n : ℕ). sector + n ≤ media k old.disk) (sym many) h.submitted.admitted.in_range;
        logs = subst (λ (n : ℕ). Logs (data_writes k sector n from) old.disk new.disk) (sym many)
            (ended (data_writes k sector count from) (Write sector count) from before after answer old new h logs);
      },
    )
does_alone Flush from before after answer old new is h =
    let k = old.keying in
    let found = opened Flush from before after answer old new h in
    let step = one_step h.tag h.steps.1 (asked k h.tag Flush from) h.open_in h.steps.0 found h.steps.2 in
    let last : h.done_in ≡ h.steps.0 = h.steps.4 in
    let there = ap (λ (x : InFlight). request_with h.tag x.queue) last ∙ step.found in
    let logs = subst (λ (x : InFlight). Logs (event.Flush ∷ []) h.open_in.disk x.disk) (sym last) step.logs in
    let given = reaped_so Flush from before after answer old new h in
    (flush_answer k h.tag h.done_in.queue new.queue before after answer there given, ended (event.Flush ∷ []) Flush from before after answer old new h logs)
