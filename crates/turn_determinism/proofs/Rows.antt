-- Rows of which more than their steps has to be said, or that share some, do one thing.
use Rattle.std.proofs.Common.{ℕ, List, [], subst, Bool, Option, None, Some, Result}
use Rattle.std.specs.Prelude.{ℤ, MatchOption, unwrap_or}
use Rattle.std.specs.Option.{option_or}
use Rattle.bio_queue.specs.declared.job.Job.TheVariants as jobs
use Rattle.command_rows.specs.Rows.{Attachment, Holding, Kept, Reach, TryRow, attachment_in, bytes_spelled}
use Rattle.command_rows.specs.Vocabulary.{JobWords, KeyWords, Refusal, Span, bytes_at, le64}
use Rattle.command_words.specs.declared.commands.JobWords.TheVariants as words
use Rattle.command_rows.specs.Turn.{AttachRow}
use Rattle.command_rows.specs.verbs.Backup.{BackupRow}
use Rattle.command_rows.specs.verbs.Delkey.{DeletesRow, DelkeyRow, slot_of}
use Rattle.command_rows.specs.verbs.Resume.{ResumeRow}
use Rattle.command_rows.specs.verbs.Setkey.{SetkeyAttachedRow, SetkeyIdleRow, SetkeyRow}
use Rattle.command_rows.specs.verbs.Submit.{SubmitRow}
use Rattle.command_rows.specs.verbs.Verify.{VerifyRow}
use Rattle.turn_determinism.proofs.Deciding.{attaches_sure, decides_sure, size_sure, unless_sure}
use Rattle.turn_determinism.proofs.Disks.{reads_device_sector_sure, reads_last_sure}
use Rattle.turn_determinism.proofs.Files.{components_sure, finds_place_sure, stores_sure}
use Rattle.turn_determinism.proofs.Keys.{stores_key_sure, takes_keys_out_sure}
use Rattle.turn_determinism.proofs.Places.{sweeps_sure}
use Rattle.turn_determinism.proofs.Queues.{submits_sure}
use Rattle.turn_determinism.proofs.Steps.{Both, HasMemory, Later, Settled, Step, Sure, then_sure}

-- ---- keys

try_row_sure : (line : List ℕ) (slot : Option ℕ) (readonly : Bool) (words : KeyWords) → Sure (TryRow line slot readonly words)
try_row_sure line slot readonly words =
    then_sure reads_last_sure (λ m. then_sure (size_sure _) (λ settings. then_sure (components_sure line words) (λ parts. decides_sure _)))

pub attach_row_sure : (line : List ℕ) (only_check readonly : Bool) (slot : Option ℕ) (words : KeyWords) → Sure (AttachRow line only_check readonly slot words)
attach_row_sure line only_check readonly slot words = then_sure (try_row_sure line slot readonly words) (λ a. unless_sure only_check a)

pub resume_row_sure : (line : List ℕ) (words : KeyWords) (kept : Kept) → Sure (ResumeRow line words kept)
resume_row_sure line words kept = then_sure (try_row_sure line None kept.readonly words) (λ a. then_sure (decides_sure _) (λ _. attaches_sure a))

setkey_idle_sure : (line : List ℕ) (iterations : Option ℤ) (slot : Option ℕ) (words fresh : KeyWords) → Sure (SetkeyIdleRow line iterations slot words fresh)
setkey_idle_sure line iterations slot words fresh =
    then_sure reads_last_sure (λ m. then_sure (size_sure _) (λ _. then_sure (decides_sure _) (λ _. then_sure (components_sure line words)
    (λ parts. then_sure (components_sure line fresh) (λ next. then_sure (decides_sure _) (λ found. stores_key_sure _))))))

setkey_attached_sure : (line : List ℕ) (iterations : Option ℤ) (slot : ℕ) (master : List ℕ) (fresh : KeyWords) → Sure (SetkeyAttachedRow line iterations slot master fresh)
setkey_attached_sure line iterations slot master fresh =
    then_sure reads_last_sure (λ m. then_sure (size_sure _) (λ _. then_sure (decides_sure _) (λ _. then_sure (components_sure line fresh) (λ parts. stores_key_sure _))))

attachment_goes : {A : Type 0} (Idly : Step A) (With : Attachment → Step A) → Sure Idly → ((a : Attachment) → Sure (With a)) → (found : Option Attachment) (old : Reach) (answer : Result A Refusal) (new : Reach)
    → MatchOption found (Idly old answer new) (λ a. With a old answer new) → Later old new
attachment_goes Idly With idly with None old answer new h = idly.goes old answer new h
attachment_goes Idly With idly with (Some a) old answer new h = (with a).goes old answer new h

attachment_settles : {A : Type 0} (Idly : Step A) (With : Attachment → Step A) → Sure Idly → ((a : Attachment) → Sure (With a)) → (found : Option Attachment) (old old' : Reach) (answer answer' : Result A Refusal) (new new' : Reach)
    → (both : Both old old' new new') → HasMemory answer → HasMemory answer' → MatchOption found (Idly old answer new) (λ a. With a old answer new) → MatchOption found (Idly old' answer' new') (λ a. With a old' answer' new') → Settled both.counts answer answer' new new'
attachment_settles Idly With idly with None old old' answer answer' new new' both memory memory' h h' = idly.settles old old' answer answer' new new' both memory memory' h h'
attachment_settles Idly With idly with (Some a) old old' answer answer' new new' both memory memory' h h' = (with a).settles old old' answer answer' new new' both memory memory' h h'

-- a step that depends on what is attached does one thing
by_attachment_sure : {A : Type 0} (Idly : Step A) (With : Attachment → Step A) → Sure Idly → ((a : Attachment) → Sure (With a)) → Sure (λ old answer new. MatchOption (attachment_in old.holding) (Idly old answer new) (λ a. With a old answer new))
by_attachment_sure {A} Idly With idly with =
    let Is : Option Attachment → Reach → Result A Refusal → Reach → Type 0 = λ o old answer new. MatchOption o (Idly old answer new) (λ a. With a old answer new) in
    record {
      goes = λ old answer new h. attachment_goes Idly With idly with (attachment_in old.holding) old answer new h;
      settles = λ old old' answer answer' new new' both memory memory' h h'.
          let P : Holding → Type 0 = λ x. Is (attachment_in x) old' answer' new' in
          attachment_settles Idly With idly with (attachment_in old.holding) old old' answer answer' new new' both memory memory' h (subst P both.same.holding h');
    }

pub setkey_row_sure : (line : List ℕ) (iterations : Option ℤ) (slot : Option ℕ) (words fresh : KeyWords) → Sure (SetkeyRow line iterations slot words fresh)
setkey_row_sure line iterations slot words fresh =
    by_attachment_sure (SetkeyIdleRow line iterations slot words fresh) (λ a. SetkeyAttachedRow line iterations (unwrap_or slot a.slot) a.keying.master fresh)
    (setkey_idle_sure line iterations slot words fresh)
    (λ a. setkey_attached_sure line iterations (unwrap_or slot a.slot) a.keying.master fresh)

deletes_row_sure : (all force : Bool) (slot : Option ℕ) → Sure (DeletesRow all force slot)
deletes_row_sure all force slot = then_sure reads_last_sure (λ m. then_sure (decides_sure _) (λ which. takes_keys_out_sure _))

pub delkey_row_sure : (all force : Bool) (slot : Option ℕ) → Sure (DelkeyRow all force slot)
delkey_row_sure all force slot = record {
  goes = λ old answer new h. (deletes_row_sure all force (option_or slot (slot_of old.holding))).goes old answer new h;
  settles = λ old old' answer answer' new new' both memory memory' h h'.
      let P : Holding → Type 0 = λ x. DeletesRow all force (option_or slot (slot_of x)) old' answer' new' in
      (deletes_row_sure all force (option_or slot (slot_of old.holding))).settles old old' answer answer' new new' both memory memory' h (subst P both.same.holding h');
}

-- ---- backups, sweeps and requests

pub backup_row_sure : (line : List ℕ) (file : Span) → Sure (BackupRow line file)
backup_row_sure line file =
    then_sure (size_sure _) (λ place. then_sure (reads_device_sector_sure place) (λ bytes. then_sure (decides_sure _) (λ _. stores_sure line file bytes)))

pub verify_row_sure : (line : List ℕ) (file : Span) (count : ℕ) (restart : Bool) (a : Attachment) → Sure (VerifyRow line file count restart a)
verify_row_sure line file count restart a =
    then_sure (decides_sure _) (λ _. then_sure (finds_place_sure restart line file) (λ place. then_sure (then_sure (size_sure _) (λ _. sweeps_sure a place count))
    (λ part. then_sure (stores_sure line file (le64 part.next)) (λ _. decides_sure _))))

pub submit_row_sure : (line : List ℕ) (job : JobWords) (a : Attachment) → Sure (SubmitRow line job a)
submit_row_sure line (words.Read sector count) a = then_sure (decides_sure _) (λ whole. submits_sure a (jobs.Read sector whole) [])
submit_row_sure line (words.Write sector hex) a = then_sure (decides_sure _) (λ whole. submits_sure a (jobs.Write sector whole) (bytes_spelled (bytes_at line hex)))
submit_row_sure line words.Flush a = submits_sure a jobs.Flush []
