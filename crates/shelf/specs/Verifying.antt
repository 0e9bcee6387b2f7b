-- What a sweep listed at the front of the buffer of requests, and where one begins without a file.
use Rattle.std.specs.Prelude.{List, ℕ, Result, Ok, Err}
use Rattle.command_rows.specs.Vocabulary.{Refusal}
use Rattle.eli_base.specs.declared.refusals.Refusal.TheVariants as refusals
use Rattle.reply_text.specs.Text.{numbers_in}
use Rattle.verify_sweep.specs.declared.sweeping.Swept.{Swept}
use Rattle.command_rows.specs.verbs.Verify.{SweptPart}

-- the offsets at the front of the buffer, and where the next part begins; or the refusal
abbrev pub swept_part : List ℕ → Result Swept Refusal → Result SweptPart Refusal
swept_part buffer (Ok swept) = Ok (record { offsets = numbers_in swept.bad buffer; next = swept.next })
swept_part buffer (Err refusal) = Err refusal

-- the first sector if there is no file, or why it wasn't loaded
abbrev pub without_file : Refusal → Result ℕ Refusal
without_file (refusals.FileAbsent word) = Ok 0
without_file refusal = Err refusal
