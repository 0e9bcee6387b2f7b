-- What a `reap` of a read returns, by the writings of its task.
use Rattle.std.proofs.Common.{◌≡◌, ◌∙◌, inl, inr, ap, refl, subst, sym, ℕ, List, length, take, drop, Option, None, Some, Result, Ok, Err, IfSome}
use Rattle.std.proofs.Math.Seq.{take-append_seam}
use Rattle.bio_queue.specs.declared.faults.ReapFault.TheVariants as reap
use Rattle.bio_queue.specs.declared.job.Reaped.TheVariants as given
use Rattle.command_rows.specs.Rows.{Attachment, IsAttached, Reach}
use Rattle.command_rows.specs.Vocabulary.{Content, DiskState, Keying, ReapAnswers, ReapFault, Reaped, Refusal, Request}
use Rattle.eli_base.specs.declared.refusals.Refusal.TheVariants as refusals
use Rattle.reply_text.specs.Answer as answers
use Rattle.geli_core.specs.ReadsBack.{IsAmongSteps, IsDoneAsAsked, ReadsAsAsked, ReadsAsTask}
use Rattle.geli_core.specs.Vocabulary.{Flushes, IsFaulty, Play, Reads, ReapRow, Step, Task, Work, Writes, Yields, reap_answer, reaped_or, task_with}
use Rattle.geli_core.proofs.Following.{Tracks, tracks_reaped, tracks_reaped_fault}
use Rattle.geli_core.proofs.Playing.{Follows, tracked}
use Rattle.geli_core.proofs.Requested.{reap_asks}

-- ---- a task

yields_read : (k : Keying) (steps : List Step) (work : Work) (before after : List ℕ) (count : ℕ) (bytes : List ℕ) → Yields k steps work before after (given.Bytes count) → bytes ≡ take count after → ReadsAsTask k (Ok bytes) work
yields_read k steps (Reads sector many ws) before after count bytes h is =
    let same : count ≡ length h.0 = cc (h.2) in
    let front : take count after ≡ h.0 = ap (λ (n : ℕ). take n after) same ∙ ap (take (length h.0)) h.4 ∙ take-append_seam h.0 (drop (length h.0) before) in
    h.1 ∙ ap (λ (l : List ℕ). Ok l) (sym (is ∙ front))
yields_read k steps (Writes number sector many plain) before after count bytes h is = absurd (let differ : ⊥ = cc (h.0) in differ)
yields_read k steps Flushes before after count bytes h is = absurd (let differ : ⊥ = cc (h.0) in differ)

yields_done : (k : Keying) (steps : List Step) (work : Work) (before after : List ℕ) (said : Reaped) → ((count : ℕ) → said ≡ given.Bytes count → ⊥) → Yields k steps work before after said → IsAmongSteps steps k work
yields_done k steps (Reads sector many ws) before after said other h = absurd (other (length h.0) h.2)
yields_done k steps (Writes number sector many plain) before after said other h = h.2
yields_done k steps Flushes before after said other h = tt

faulty_read : (k : Keying) (work : Work) (offset : ℕ) → IsFaulty k work offset → ReadsAsTask k (Err offset) work
faulty_read k (Reads sector many ws) offset h = h
faulty_read k (Writes number sector many plain) offset h = h
faulty_read k Flushes offset h = h

-- this holds of the request with a tag, if it was submitted in the run
if_task : (found : Option Task) (P : Task → Type 0) → ((task : Task) → found ≡ Some task → P task) → IfSome found P
if_task None P holds = tt
if_task (Some task) P holds = holds task refl

-- ---- the row

bytes_given : (Fresh : Type 0) (c : Content) (m : Play) (k : Keying) (queue more : List Request) (d : DiskState) (tag : ℕ) (before after bytes : List ℕ) (said : Result Reaped ReapFault) → Tracks Fresh c m k queue d → ReapAnswers k tag queue more before after said
    → answers.Payload bytes ≡ reaped_or (reap_answer tag after said) → ReadsAsAsked tag (Ok bytes) k c m
bytes_given Fresh c m k queue more d tag before after bytes (Ok (given.Bytes count)) t h is =
    let same : bytes ≡ take count after = cc is in
    if_task (task_with tag m.tasks) (λ x. ReadsAsTask k (Ok bytes) x.work)
    (λ task known. yields_read k m.steps task.work before after count bytes ((tracks_reaped Fresh c m k queue more d tag before after (given.Bytes count) t h).gives task known) same)
bytes_given Fresh c m k queue more d tag before after bytes (Ok given.Written) t h is = absurd (let differ : ⊥ = cc is in differ)
bytes_given Fresh c m k queue more d tag before after bytes (Ok given.Flushed) t h is = absurd (let differ : ⊥ = cc is in differ)
bytes_given Fresh c m k queue more d tag before after bytes (Err fault) t h is = absurd (let differ : ⊥ = cc is in differ)

done_given : (Fresh : Type 0) (c : Content) (m : Play) (k : Keying) (queue more : List Request) (d : DiskState) (tag : ℕ) (before after : List ℕ) (said : Result Reaped ReapFault) → Tracks Fresh c m k queue d → ReapAnswers k tag queue more before after said
    → answers.Done ≡ reaped_or (reap_answer tag after said) → IsDoneAsAsked tag k c m
done_given Fresh c m k queue more d tag before after (Ok (given.Bytes count)) t h is = absurd (let differ : ⊥ = cc is in differ)
done_given Fresh c m k queue more d tag before after (Ok given.Written) t h is =
    if_task (task_with tag m.tasks) (λ x. IsAmongSteps m.steps k x.work)
    (λ task known. yields_done k m.steps task.work before after given.Written (λ count same. (let differ : ⊥ = cc same in differ)) ((tracks_reaped Fresh c m k queue more d tag before after given.Written t h).gives task known))
done_given Fresh c m k queue more d tag before after (Ok given.Flushed) t h is =
    if_task (task_with tag m.tasks) (λ x. IsAmongSteps m.steps k x.work)
    (λ task known. yields_done k m.steps task.work before after given.Flushed (λ count same. (let differ : ⊥ = cc same in differ)) ((tracks_reaped Fresh c m k queue more d tag before after given.Flushed t h).gives task known))
done_given Fresh c m k queue more d tag before after (Err fault) t h is = absurd (let differ : ⊥ = cc is in differ)

fault_given : (Fresh : Type 0) (c : Content) (m : Play) (k : Keying) (queue more : List Request) (d : DiskState) (tag offset : ℕ) (before after : List ℕ) (said : Result Reaped ReapFault) → Tracks Fresh c m k queue d → ReapAnswers k tag queue more before after said
    → answers.Refused (refusals.Integrity offset) ≡ reaped_or (reap_answer tag after said) → ReadsAsAsked tag (Err offset) k c m
fault_given Fresh c m k queue more d tag offset before after (Ok (given.Bytes count)) t h is = absurd (let differ : ⊥ = cc is in differ)
fault_given Fresh c m k queue more d tag offset before after (Ok given.Written) t h is = absurd (let differ : ⊥ = cc is in differ)
fault_given Fresh c m k queue more d tag offset before after (Ok given.Flushed) t h is = absurd (let differ : ⊥ = cc is in differ)
fault_given Fresh c m k queue more d tag offset before after (Err reap.NoRequest) t h is = absurd (let differ : ⊥ = cc is in differ)
fault_given Fresh c m k queue more d tag offset before after (Err (reap.NotDone left)) t h is = absurd (let differ : ⊥ = cc is in differ)
fault_given Fresh c m k queue more d tag offset before after (Err (reap.Integrity found)) t h is =
    let same : offset ≡ found = cc is in
    if_task (task_with tag m.tasks) (λ x. ReadsAsTask k (Err offset) x.work)
    (λ task known. faulty_read k task.work offset (subst (IsFaulty k task.work) (sym same) ((tracks_reaped_fault Fresh c m k queue more d tag found t h.0).gives task known)))

pub reaped_bytes : (Fresh : Type 0) (c : Content) (m : Play) (a : Attachment) (tag : ℕ) (old : Reach) (answer : Result (Option (List ℕ)) Refusal) (new : Reach) (bytes : List ℕ) → old.holding ≡ IsAttached a → Follows Fresh c m old.holding old.disk → ReapRow tag a old answer new
    → answers.Payload bytes ≡ reaped_or answer → ReadsAsAsked tag (Ok bytes) a.keying c m
reaped_bytes Fresh c m a tag old answer new bytes is f row replied =
    elim (reap_asks tag a old answer new row) [
      | inl none ↦ absurd (let said = replied ∙ ap reaped_or none.is in let differ : ⊥ = cc said in differ)
      | inr r ↦ bytes_given Fresh c m a.keying a.queue r.queue old.disk tag r.before r.after bytes r.given (tracked Fresh c m a old.holding old.disk is f) r.reaps (replied ∙ ap reaped_or r.answered)
    ]

pub reaped_fault : (Fresh : Type 0) (c : Content) (m : Play) (a : Attachment) (tag : ℕ) (old : Reach) (answer : Result (Option (List ℕ)) Refusal) (new : Reach) (offset : ℕ) → old.holding ≡ IsAttached a → Follows Fresh c m old.holding old.disk → ReapRow tag a old answer new
    → answers.Refused (refusals.Integrity offset) ≡ reaped_or answer → ReadsAsAsked tag (Err offset) a.keying c m
reaped_fault Fresh c m a tag old answer new offset is f row replied =
    elim (reap_asks tag a old answer new row) [
      | inl none ↦ absurd (let said = replied ∙ ap reaped_or none.is in let differ : ⊥ = cc said in differ)
      | inr r ↦ fault_given Fresh c m a.keying a.queue r.queue old.disk tag offset r.before r.after r.given (tracked Fresh c m a old.holding old.disk is f) r.reaps (replied ∙ ap reaped_or r.answered)
    ]

pub reaped_done : (Fresh : Type 0) (c : Content) (m : Play) (a : Attachment) (tag : ℕ) (old : Reach) (answer : Result (Option (List ℕ)) Refusal) (new : Reach) → old.holding ≡ IsAttached a → Follows Fresh c m old.holding old.disk → ReapRow tag a old answer new
    → answers.Done ≡ reaped_or answer → IsDoneAsAsked tag a.keying c m
reaped_done Fresh c m a tag old answer new is f row replied =
    elim (reap_asks tag a old answer new row) [
      | inl none ↦ absurd (let said = replied ∙ ap reaped_or none.is in let differ : ⊥ = cc said in differ)
      | inr r ↦ done_given Fresh c m a.keying a.queue r.queue old.disk tag r.before r.after r.given (tracked Fresh c m a old.holding old.disk is f) r.reaps (replied ∙ ap reaped_or r.answered)
    ]
