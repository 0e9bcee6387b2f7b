-- How many bytes of what was reaped stand at the front of the buffer.
use Rattle.std.specs.Prelude.{ℕ, Option, Some, None, Result, Ok, Err}
use Rattle.bio_queue.specs.declared.job.Reaped.TheVariants.{Bytes, Written, Flushed}
use Rattle.command_rows.specs.Vocabulary.{ReapFault, Reaped, Refusal}
use Rattle.command_rows.specs.verbs.Reap.{reap_refusal}

-- how many bytes a read gave; other requests have none
abbrev pub count_given : ℕ → Result Reaped ReapFault → Result (Option ℕ) Refusal
count_given tag (Ok (Bytes count)) = Ok (Some count)
count_given tag (Ok Written) = Ok None
count_given tag (Ok Flushed) = Ok None
count_given tag (Err fault) = Err (reap_refusal tag fault)
