-- That `submit` is lawful.
use Rattle.std.proofs.Common.{Err, List, None, Ok, Result, [], ap, arith, length, refl, subst, sym, true, ℕ, ◌*◌, ◌+◌, ◌<◌, ◌∙◌, ◌≡◌, ◌≤◌, IsTrue}
use Rattle.bio_queue.specs.declared.faults.SubmitFault.TheVariants as submit
use Rattle.bio_queue.specs.declared.job.Job.TheVariants as jobs
use Rattle.command_words.specs.declared.commands.Command.TheVariants as commands
use Rattle.command_words.specs.declared.commands.JobWords.TheVariants as words
use Rattle.eli_base.specs.declared.refusals.Refusal.TheVariants as refusals
use Rattle.command_rows.specs.Rows.{AsksBytesAtOnce, AsksSectorsFrom, AsksToOpen, AttachedWith, Attachment, IsAttached, QueueRefuses, Reach, bytes_spelled, or_refusal, tag_or, whole_sectors}
use Rattle.command_rows.specs.Vocabulary.{Command, DiskState, IsWrite, Job, JobPassesEnd, JobWords, Refusal, Request, Span, SubmitAnswers, SubmitFault, bytes_at, media}
use Rattle.command_rows.specs.verbs.Submit.{FitsBytes, FitsJob, FitsSubmit, SubmitRow, Submits, job_sectors, submit_refusal}
use Rattle.command_rows.proofs.VerbLaws.{Becomes, Counts, HoldsSame, IsLawful, Quiet, RulesOut, SoundReply, StoresNone, UncountedAnswer, Unstored, Why, attached_quiet, attached_reply, attached_why, false_is_true, holds_next, holds_same, job_writes, needs, never_both, never_holds, nothing_changed, queue_holds, quiet_then, refused_by, same_files, same_quiet, same_then_why, tag_replying, then_counts, uncounted_step, unstored_reply, unstored_then, whole_still, whole_why, with_attached}

submit_uncounted : (tag : Result ℕ SubmitFault) → UncountedAnswer (or_refusal submit_refusal tag)
submit_uncounted (Ok tag) = tt
submit_uncounted (Err submit.ReadOnly) = tt
submit_uncounted (Err (submit.OutOfRange sector count there)) = tt
submit_uncounted (Err submit.QueueFull) = tt
submit_uncounted (Err submit.NoMemory) = tt

submits_count : (a : Attachment) (job : Job) (from : List ℕ) → Counts (Submits a job from)
submits_count a job from old answer new h =
    uncounted_step old answer new (subst (λ (r : Result ℕ Refusal). UncountedAnswer r) (sym h.answered) (submit_uncounted h.tag)) (ap (λ (r : Reach). r.cabinet) h.left) (ap (λ (r : Reach). r.entropy) h.left)

submit_counts : (line : List ℕ) (asked : JobWords) (a : Attachment) → Counts (SubmitRow line asked a)
submit_counts line (words.Read sector count) a = then_counts (whole_still a (count * a.keying.sectorsize)).counts (λ whole. submits_count a (jobs.Read sector whole) [])
submit_counts line (words.Write sector hex) a =
    let bytes : List ℕ = bytes_spelled (bytes_at line hex) in
    then_counts (whole_still a (length bytes)).counts (λ whole. submits_count a (jobs.Write sector whole) bytes)
submit_counts line words.Flush a = submits_count a jobs.Flush []

submits_hold : (a : Attachment) (job : Job) (from : List ℕ) (old : Reach) (answer : Result ℕ Refusal) (new : Reach) → Submits a job from old answer new → HoldsSame a new.holding
submits_hold a job from old answer new h = queue_holds a new h.queue (ap (λ (r : Reach). r.holding) h.left)

submit_holds : (line : List ℕ) (asked : JobWords) (a : Attachment) (old : Reach) (answer : Result ℕ Refusal) (new : Reach) → old.holding ≡ IsAttached a → SubmitRow line asked a old answer new → HoldsSame a new.holding
submit_holds line (words.Read sector count) a old answer new is h =
    holds_next a (λ whole. Submits a (jobs.Read sector whole) []) h.given h.middle answer new (ap (λ (r : Reach). r.holding) h.first.1 ∙ is) (λ whole next. submits_hold a (jobs.Read sector whole) [] h.middle answer new next) h.next
submit_holds line (words.Write sector hex) a old answer new is h =
    let bytes : List ℕ = bytes_spelled (bytes_at line hex) in
    holds_next a (λ whole. Submits a (jobs.Write sector whole) bytes) h.given h.middle answer new (ap (λ (r : Reach). r.holding) h.first.1 ∙ is) (λ whole next. submits_hold a (jobs.Write sector whole) bytes h.middle answer new next) h.next
submit_holds line words.Flush a old answer new is h = submits_hold a jobs.Flush [] old answer new h

quiet_submit : (a : Attachment) (job : Job) (from : List ℕ) → Quiet (Submits a job from)
quiet_submit a job from old answer new h = same_quiet _ new h.left

quiet_submit_row : (line : List ℕ) (asked : JobWords) (a : Attachment) → Quiet (SubmitRow line asked a)
quiet_submit_row line (words.Read sector count) a =
    quiet_then (λ old answer new h. same_quiet old new h.1)
    (λ whole. quiet_submit a (jobs.Read sector whole) [])
quiet_submit_row line (words.Write sector hex) a =
    quiet_then (λ old answer new h. same_quiet old new h.1)
    (λ whole. quiet_submit a (jobs.Write sector whole) (bytes_spelled (bytes_at line hex)))
quiet_submit_row line words.Flush a = quiet_submit a jobs.Flush []

-- the numbers of sectors that pass the end
passed : (job : Job) (end first many there : ℕ) → JobPassesEnd end job first many there → (there ≡ end) × (there < first + many)
passed (jobs.Read sector count) end first many there h = (h.3, omega arith)
passed (jobs.Write sector count) end first many there h = (h.3, omega arith)
passed jobs.Flush end first many there h = absurd h

-- the job is that of the words
record IsWorded (line : List ℕ) (asked : JobWords) (a : Attachment) (job : Job) : Type 0 where
  writes : IsWrite job → job_writes asked ≡ true
  sectors : (end first many there : ℕ) → JobPassesEnd end job first many there → AsksSectorsFrom (AsksToOpen (job_sectors line asked)) first many a

tag_why : (line : List ℕ) (prov : Span) (asked : JobWords) (a : Attachment) (job : Job) (from : List ℕ) (queue : List Request) (old : Reach) (tag : Result ℕ SubmitFault) (new : Reach) → old.holding ≡ IsAttached a → IsWorded line asked a job
    → SubmitAnswers a.keying a.readonly old.disk job from a.queue queue tag → Why line (commands.Submit prov asked) old (or_refusal submit_refusal tag) new
tag_why line prov asked a job from queue old (Ok tag) new is worded h = tt
tag_why line prov asked a job from queue old (Err submit.ReadOnly) new is worded h = rw is (worded.writes h.0.0, h.0.1)
tag_why line prov asked a job from queue old (Err (submit.OutOfRange sector count there)) new is worded h =
    let over = passed job (media a.keying old.disk) sector count there h.0.1 in
    rw is (record { asked = worded.sectors (media a.keying old.disk) sector count there h.0.1; has = over.0; passes = over.1 })
tag_why line prov asked a job from queue old (Err submit.QueueFull) new is worded h = rw is h.0.1
tag_why line prov asked a job from queue old (Err submit.NoMemory) new is worded h = refl

submits_why : (line : List ℕ) (prov : Span) (asked : JobWords) (a : Attachment) (job : Job) (from : List ℕ) (old : Reach) (answer : Result ℕ Refusal) (new : Reach) → old.holding ≡ IsAttached a → IsWorded line asked a job
    → Submits a job from old answer new → Why line (commands.Submit prov asked) old answer new
submits_why line prov asked a job from old answer new is worded h =
    subst (λ (r : Result ℕ Refusal). Why line (commands.Submit prov asked) old r new) (sym h.answered) (tag_why line prov asked a job from h.queue old h.tag new is worded h.submits)

read_worded : (line : List ℕ) (sector count whole : ℕ) (a : Attachment) → whole_sectors a.keying.sectorsize (count * a.keying.sectorsize) ≡ Ok whole → IsWorded line (words.Read sector count) a (jobs.Read sector whole)
read_worded line sector count whole a wholly = record { writes = λ none. absurd none; sectors = λ end first many there h. (h.1, wholly ∙ ap Ok (sym h.2)) }

write_worded : (line : List ℕ) (sector : ℕ) (hex : Span) (whole : ℕ) (a : Attachment) → whole_sectors a.keying.sectorsize (length (bytes_spelled (bytes_at line hex))) ≡ Ok whole → IsWorded line (words.Write sector hex) a (jobs.Write sector whole)
write_worded line sector hex whole a wholly = record { writes = λ done. refl; sectors = λ end first many there h. (h.1, wholly ∙ ap Ok (sym h.2)) }

submit_why : (line : List ℕ) (prov : Span) (asked : JobWords) (a : Attachment) (old : Reach) (answer : Result ℕ Refusal) (new : Reach) → old.holding ≡ IsAttached a → SubmitRow line asked a old answer new
    → Why line (commands.Submit prov asked) old answer new
submit_why line prov (words.Read sector count) a old answer new is h =
    let command : Command = commands.Submit prov (words.Read sector count) in
    same_then_why line command old answer new h (λ whole middle first. first.1) (λ given middle. whole_why line command a (count * a.keying.sectorsize) old given middle is refl)
    (λ whole first next. submits_why line prov (words.Read sector count) a (jobs.Read sector whole) [] old answer new is (read_worded line sector count whole a (sym first.0)) next)
submit_why line prov (words.Write sector hex) a old answer new is h =
    let command : Command = commands.Submit prov (words.Write sector hex) in
    let bytes : List ℕ = bytes_spelled (bytes_at line hex) in
    same_then_why line command old answer new h (λ whole middle first. first.1) (λ given middle. whole_why line command a (length bytes) old given middle is refl)
    (λ whole first next. submits_why line prov (words.Write sector hex) a (jobs.Write sector whole) bytes old answer new is (write_worded line sector hex whole a (sym first.0)) next)
submit_why line prov words.Flush a old answer new is h =
    submits_why line prov words.Flush a jobs.Flush [] old answer new is (record { writes = λ none. absurd none; sectors = λ end first many there none. none }) h

job_writable : (line : List ℕ) (asked : JobWords) (disk : DiskState) (a : Attachment) → FitsJob line asked disk a → IsTrue (job_writes asked) → a.readonly ≡ true → ⊥
job_writable line (words.Read sector count) disk a f writes only = let none : ⊥ = cc writes in none
job_writable line (words.Write sector hex) disk a f writes only = let none : ⊥ = cc (f.0, only) in none
job_writable line words.Flush disk a f writes only = let none : ⊥ = cc writes in none

within_end : (sector sectors first many there end : ℕ) → first ≡ sector → many ≡ sectors → there ≡ end → there < first + many → sector + sectors ≤ end → ⊥
within_end sector sectors first many there end first_is many_is there_is over within = omega arith

bytes_within : (sector bytes : ℕ) (disk : DiskState) (a : Attachment) (f : FitsBytes sector bytes disk a) (first many there : ℕ) → first ≡ sector → whole_sectors a.keying.sectorsize bytes ≡ Ok many → there ≡ media a.keying disk → there < first + many → ⊥
bytes_within sector bytes disk a f first many there first_is whole there_is over =
    let same : many ≡ f.sectors = cc (whole, f.whole) in
    within_end sector f.sectors first many there (media a.keying disk) first_is same there_is over f.within

job_within : (line : List ℕ) (asked : JobWords) (disk : DiskState) (a : Attachment) → FitsJob line asked disk a → (first many there : ℕ) → AsksSectorsFrom (AsksToOpen (job_sectors line asked)) first many a → there ≡ media a.keying disk → there < first + many → ⊥
job_within line (words.Read sector count) disk a f first many there asks is over = bytes_within sector _ disk a f first many there asks.0 asks.1 is over
job_within line (words.Write sector hex) disk a f first many there asks is over = bytes_within sector _ disk a f.1 first many there asks.0 asks.1 is over
job_within line words.Flush disk a f first many there asks is over = absurd asks

bytes_whole : (sector bytes : ℕ) (disk : DiskState) (a : Attachment) (f : FitsBytes sector bytes disk a) (given : ℕ) (refusal : Refusal) → given ≡ bytes → whole_sectors a.keying.sectorsize given ≡ Err refusal → ⊥
bytes_whole sector bytes disk a f given refusal is bad =
    let same : whole_sectors a.keying.sectorsize bytes ≡ Err refusal = subst (λ (n : ℕ). whole_sectors a.keying.sectorsize n ≡ Err refusal) is bad in
    let none : ⊥ = cc (same, f.whole) in
    none

job_whole : (line : List ℕ) (asked : JobWords) (disk : DiskState) (a : Attachment) → FitsJob line asked disk a → (given : ℕ) (refusal : Refusal) → AsksBytesAtOnce (AsksToOpen (job_sectors line asked)) given a → whole_sectors a.keying.sectorsize given ≡ Err refusal → ⊥
job_whole line (words.Read sector count) disk a f given refusal asks bad = bytes_whole sector _ disk a f given refusal asks bad
job_whole line (words.Write sector hex) disk a f given refusal asks bad = bytes_whole sector _ disk a f.1 given refusal asks bad
job_whole line words.Flush disk a f given refusal asks bad = absurd asks

room_left : (line : List ℕ) (asked : JobWords) (disk : DiskState) (refusal : Refusal) (a : Attachment) → length a.queue < 32 → QueueRefuses (AsksToOpen (job_sectors line asked)) disk refusal a → ⊥
room_left line asked disk refusals.QueueFull a room h = omega arith
room_left line asked disk refusal a room h = absurd h

submit_out : (line : List ℕ) (prov : Span) (job : JobWords) (old : Reach) → refused_by (needs (commands.Submit prov job)) old.holding ≡ None → AttachedWith old.holding (FitsSubmit line job old.disk) → RulesOut line (commands.Submit prov job) old
submit_out line prov job old gate f = record {
  gate = gate;
  readonly = λ writes h. never_both _ _ old.holding f (λ a fits only. job_writable line job old.disk a fits.fits writes only) h;
  range = λ first many there h. never_both _ _ old.holding f (λ a fits over. job_within line job old.disk a fits.fits first many there over.asked over.has over.passes) h;
  bytes = λ given size h. never_both _ _ old.holding f (λ a fits bad. job_whole line job old.disk a fits.fits given (refusals.BadLength given size) bad.asked bad.bad) h;
  faults = λ offset h. never_holds _ old.holding (λ a fault. fault) h;
  requests = λ refusal h. never_both _ _ old.holding f (λ a fits found. room_left line job old.disk refusal a fits.room found) h;
  files = λ refusal cabinet h. h;
  ground = λ refusal h. h;
}

submitting_unstored : (a : Attachment) (job : Job) (from : List ℕ) → Unstored (Submits a job from)
submitting_unstored a job from old answer new h = same_files old.cabinet new.cabinet (ap (λ (r : Reach). r.cabinet) h.left)

submit_row : (line : List ℕ) (asked : JobWords) (a : Attachment) → Unstored (SubmitRow line asked a)
submit_row line (words.Read sector count) a = unstored_then (whole_still a (count * a.keying.sectorsize)).unstored (λ whole. submitting_unstored a (jobs.Read sector whole) [])
submit_row line (words.Write sector hex) a =
    let bytes : List ℕ = bytes_spelled (bytes_at line hex) in
    unstored_then (whole_still a (length bytes)).unstored (λ whole. submitting_unstored a (jobs.Write sector whole) bytes)
submit_row line words.Flush a = submitting_unstored a jobs.Flush []

pub submit_lawful : (prov : Span) (job : JobWords) → IsLawful (commands.Submit prov job)
submit_lawful prov job = record {
  why = λ line old refusal new h. attached_why line (commands.Submit prov job) tag_or (SubmitRow line job) old refusal new tag_replying (λ a answer is row. submit_why line prov job a old answer new is row) h;
  did = λ line old said new h. attached_quiet tag_or (SubmitRow line job) old said new tag_replying (quiet_submit_row line job) h;
  sound = λ line old reply new h.
      with_attached old.holding _ (SoundReply old reply new)
      (λ a is row. attached_reply tag_or _ a old reply new tag_replying (submit_counts line job a) is row (submit_holds line job a old row.answer new is row.row)) h;
  out = λ line old gate f. submit_out line prov job old gate f;
  tags = λ line old f needs h. false_is_true needs;
  becomes = λ line old said new gate h.
      with_attached old.holding _ (Becomes line (commands.Submit prov job) old said new)
      (λ a is row. holds_same line (commands.Submit prov job) refl a old said new is (submit_holds line job a old row.answer new is row.row)) h;
  keeps = λ line old reply new gate other h. absurd (let none : ⊥ = cc other in none);
  left = λ line old said new h. nothing_changed line old.cabinet.files old.holding said old.disk new.disk;
  stores = λ line old reply new h. with_attached old.holding _ (StoresNone old.cabinet new.cabinet) (λ a is row. unstored_reply _ _ old reply new (submit_row line job a) row) h;
}
