-- The rows of `submit`, `step` and `reap`.
use Rattle.std.proofs.Common.{◌≡◌, ◌∙◌, ℕ, ◌*◌, ◌/◌, ◌%◌, ◌<◌, ◌≤◌, List, [], length, refl, ap, sym, subst, Option, Result, Ok, Err}
use Rattle.bio_queue.specs.declared.job.Job.TheVariants as jobs
use Rattle.bio_queue.specs.declared.job.Reaped.TheVariants as reaped
use Rattle.command_rows.specs.Rows.{HasRequest, IsAttached, NeedsRequest, NeedsWhole, bytes_given, bytes_spelled, or_refusal, whole_sectors}
use Rattle.command_rows.specs.Vocabulary.{Attached, CabinetState, DiskState, EntropyState, IsKept, Job, ReapAnswers, ReapFault, Reaped, Refusal, Request, Span, StepAnswers, StepFault, SubmitAnswers, SubmitFault, bytes_at}
use Rattle.command_words.specs.declared.commands.JobWords.TheVariants as words
use Rattle.eli_base.specs.declared.refusals.Refusal.TheVariants as refusals
use Rattle.command_rows.specs.verbs.Reap.{ReapRow, reap_answer}
use Rattle.command_rows.specs.verbs.Step.{StepRow, step_refusal}
use Rattle.command_rows.specs.verbs.Submit.{SubmitRow, Submits, submit_refusal}
use Rattle.shelf.specs.Queueing.{count_given}
use Rattle.shelf.specs.Shelved.{attachment_of}
use Rattle.shelf.proofs.Rows.{Then-goes_on, Then-refused}
use Rattle.shelf.proofs.Sectors.{at, whole_is, whole_sectors-count}

-- ---- `submit`

-- the queue answered so
submits : {D : Type 0} (state : D → DiskState) (cabinet : CabinetState) (entropy : EntropyState) (old new : Attached D) (queue left : List Request) (job : Job) (from : List ℕ) (result : Result ℕ SubmitFault) → new ≡ old
    → SubmitAnswers old.keying old.readonly (state old.disk) job from queue left result
    → Submits (attachment_of queue old) job from (at state queue cabinet entropy old) (or_refusal submit_refusal result) (at state left cabinet entropy new)
submits state cabinet entropy old new queue left job from result same h =
    record { queue = left; tag = result; submits = h; answered = refl; left = ap (at state left cabinet entropy) same }

-- the length of a read was refused
pub read_refused : {D : Type 0} (state : D → DiskState) (cabinet : CabinetState) (entropy : EntropyState) (p : Attached D) (queue : List Request) (line : List ℕ) (sector count : ℕ) (refusal : Refusal)
    → whole_sectors p.keying.sectorsize (count * p.keying.sectorsize) ≡ Err refusal → SubmitRow line (words.Read sector count) (attachment_of queue p) (at state queue cabinet entropy p) (Err refusal) (at state queue cabinet entropy p)
read_refused state cabinet entropy p queue line sector count refusal bad =
    Then-refused (NeedsWhole (attachment_of queue p) (count * p.keying.sectorsize)) _ _ _ _ (sym bad, refl)

-- a read was submitted
pub read_submitted : {D : Type 0} (state : D → DiskState) (cabinet : CabinetState) (entropy : EntropyState) (old new : Attached D) (queue left : List Request) (line : List ℕ) (sector count : ℕ) (result : Result ℕ SubmitFault)
    → 0 < old.keying.sectorsize → 1 ≤ count * old.keying.sectorsize → count * old.keying.sectorsize ≤ 131072 → new ≡ old → SubmitAnswers old.keying old.readonly (state old.disk) (jobs.Read sector count) [] queue left result
    → SubmitRow line (words.Read sector count) (attachment_of queue old) (at state queue cabinet entropy old) (or_refusal submit_refusal result) (at state left cabinet entropy new)
read_submitted state cabinet entropy old new queue left line sector count result positive some small same h =
    Then-goes_on (NeedsWhole (attachment_of queue old) (count * old.keying.sectorsize)) _ (at state queue cabinet entropy old) (at state queue cabinet entropy old) count _ _ (sym (whole_sectors-count old.keying.sectorsize count positive some small), refl)
    (submits state cabinet entropy old new queue left (jobs.Read sector count) [] result same h)

-- the length of a write was refused
pub write_refused : {D : Type 0} (state : D → DiskState) (cabinet : CabinetState) (entropy : EntropyState) (p : Attached D) (queue : List Request) (line : List ℕ) (sector : ℕ) (hex : Span) (refusal : Refusal)
    → whole_sectors p.keying.sectorsize (length (bytes_spelled (bytes_at line hex))) ≡ Err refusal → SubmitRow line (words.Write sector hex) (attachment_of queue p) (at state queue cabinet entropy p) (Err refusal) (at state queue cabinet entropy p)
write_refused state cabinet entropy p queue line sector hex refusal bad =
    Then-refused (NeedsWhole (attachment_of queue p) (length (bytes_spelled (bytes_at line hex)))) _ _ _ _ (sym bad, refl)

-- a write of these bytes, which are those that are spelled, was submitted
pub write_submitted : {D : Type 0} (state : D → DiskState) (cabinet : CabinetState) (entropy : EntropyState) (old new : Attached D) (queue left : List Request) (line : List ℕ) (sector : ℕ) (hex : Span) (bytes : List ℕ) (result : Result ℕ SubmitFault)
    → bytes ≡ bytes_spelled (bytes_at line hex) → 1 ≤ length bytes → length bytes ≤ 131072 → length bytes % old.keying.sectorsize ≡ 0 → new ≡ old
    → SubmitAnswers old.keying old.readonly (state old.disk) (jobs.Write sector (length bytes / old.keying.sectorsize)) bytes queue left result
    → SubmitRow line (words.Write sector hex) (attachment_of queue old) (at state queue cabinet entropy old) (or_refusal submit_refusal result) (at state left cabinet entropy new)
write_submitted state cabinet entropy old new queue left line sector hex bytes result spelled some small even same h =
    let size = old.keying.sectorsize in
    let whole : Ok (length bytes / size) ≡ whole_sectors size (length (bytes_spelled (bytes_at line hex))) =
    sym (whole_is size (length bytes) some small even) ∙ ap (λ (b : List ℕ). whole_sectors size (length b)) spelled in
    let answered : SubmitAnswers old.keying old.readonly (state old.disk) (jobs.Write sector (length bytes / size)) (bytes_spelled (bytes_at line hex)) queue left result =
    subst (λ (b : List ℕ). SubmitAnswers old.keying old.readonly (state old.disk) (jobs.Write sector (length bytes / size)) b queue left result) spelled h in
    Then-goes_on (NeedsWhole (attachment_of queue old) (length (bytes_spelled (bytes_at line hex)))) _ (at state queue cabinet entropy old) (at state queue cabinet entropy old) (length bytes / size) _ _ (whole, refl)
    (submits state cabinet entropy old new queue left (jobs.Write sector (length bytes / size)) (bytes_spelled (bytes_at line hex)) result same answered)

-- ---- `step` and `reap`

-- there is no such request
pub step_lacks : {D : Type 0} (state : D → DiskState) (cabinet : CabinetState) (entropy : EntropyState) (p : Attached D) (queue : List Request) (tag : ℕ) → (¬ HasRequest (attachment_of queue p) tag (state p.disk))
    → StepRow tag (attachment_of queue p) (at state queue cabinet entropy p) (Err (refusals.NoRequest tag)) (at state queue cabinet entropy p)
step_lacks state cabinet entropy p queue tag lacks = Then-refused (NeedsRequest (attachment_of queue p) tag) _ _ _ _ (refl, lacks, refl)

pub reap_lacks : {D : Type 0} (state : D → DiskState) (cabinet : CabinetState) (entropy : EntropyState) (p : Attached D) (queue : List Request) (tag : ℕ) → (¬ HasRequest (attachment_of queue p) tag (state p.disk))
    → ReapRow tag (attachment_of queue p) (at state queue cabinet entropy p) (Err (refusals.NoRequest tag)) (at state queue cabinet entropy p)
reap_lacks state cabinet entropy p queue tag lacks = Then-refused (NeedsRequest (attachment_of queue p) tag) _ _ _ _ (refl, lacks, refl)

same_holding : {D : Type 0} (queue : List Request) (old new : Attached D) → IsKept old new → IsAttached (attachment_of queue new) ≡ IsAttached (attachment_of queue old)
same_holding queue old new kept = cc (kept.slot, kept.keying, kept.readonly)

pub steps : {D : Type 0} (state : D → DiskState) (cabinet : CabinetState) (entropy : EntropyState) (old new : Attached D) (queue left : List Request) (tag : ℕ) (result : Result ℕ StepFault) → HasRequest (attachment_of queue old) tag (state old.disk)
    → IsKept old new → StepAnswers tag queue left (state old.disk) (state new.disk) result
    → StepRow tag (attachment_of queue old) (at state queue cabinet entropy old) (or_refusal (step_refusal tag) result) (at state left cabinet entropy new)
steps state cabinet entropy old new queue left tag result has kept h =
    Then-goes_on (NeedsRequest (attachment_of queue old) tag) _ (at state queue cabinet entropy old) (at state queue cabinet entropy old) tt _ _ (has, refl)
    (record { queue = left; left = result; steps = h; answered = refl; holding = same_holding left old new kept; outside = record { cabinet = refl; entropy = refl } })

pub reaps : {D : Type 0} (state : D → DiskState) (cabinet : CabinetState) (entropy : EntropyState) (old new : Attached D) (queue left : List Request) (tag : ℕ) (before after : List ℕ) (result : Result Reaped ReapFault) (answer : Result (Option (List ℕ)) Refusal)
    → HasRequest (attachment_of queue old) tag (state old.disk) → new ≡ old → ReapAnswers old.keying tag queue left before after result → answer ≡ reap_answer tag after result
    → ReapRow tag (attachment_of queue old) (at state queue cabinet entropy old) answer (at state left cabinet entropy new)
reaps state cabinet entropy old new queue left tag before after result answer has same h said =
    Then-goes_on (NeedsRequest (attachment_of queue old) tag) _ (at state queue cabinet entropy old) (at state queue cabinet entropy old) tt _ _ (has, refl)
    (record { queue = left; before = before; after = after; given = result; reaps = h; answered = said; left = ap (at state left cabinet entropy) same })

-- what is answered, by the number of bytes at the front of the buffer
pub given_is : (tag : ℕ) (buffer : List ℕ) (result : Result Reaped ReapFault) (given : Result (Option ℕ) Refusal) → given ≡ count_given tag result → bytes_given buffer given ≡ reap_answer tag buffer result
given_is tag buffer (Ok (reaped.Bytes count)) given is = ap (bytes_given buffer) is
given_is tag buffer (Ok reaped.Written) given is = ap (bytes_given buffer) is
given_is tag buffer (Ok reaped.Flushed) given is = ap (bytes_given buffer) is
given_is tag buffer (Err fault) given is = ap (bytes_given buffer) is
