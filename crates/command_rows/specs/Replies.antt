-- The reply to a line, by the answer of its row.
use Rattle.std.specs.Prelude.{Err, List, None, Ok, Option, Result, Some, ℕ, ◌≡◌}
use Rattle.reply_text.specs.Answer.{Answer}
use Rattle.reply_text.specs.Answer as answers
use Rattle.command_rows.specs.Vocabulary.{Metadata, Refusal}
use Rattle.command_rows.specs.World.{Reach}

abbrev pub done_or : Result (Unit {0}) Refusal → Answer
done_or (Ok done) = answers.Done
done_or (Err refusal) = answers.Refused refusal

abbrev pub dump_or : Result Metadata Refusal → Answer
dump_or (Ok m) = answers.Dump m
dump_or (Err refusal) = answers.Refused refusal

abbrev pub payload_or : Result (List ℕ) Refusal → Answer
payload_or (Ok bytes) = answers.Payload bytes
payload_or (Err refusal) = answers.Refused refusal

abbrev pub digest_or : Result (List ℕ) Refusal → Answer
digest_or (Ok digest) = answers.Digest digest
digest_or (Err refusal) = answers.Refused refusal

abbrev pub tag_or : Result ℕ Refusal → Answer
tag_or (Ok tag) = answers.Tag tag
tag_or (Err refusal) = answers.Refused refusal

abbrev pub left_or : Result ℕ Refusal → Answer
left_or (Ok left) = answers.Left left
left_or (Err refusal) = answers.Refused refusal

-- the bytes of a read that was reaped, or that it was done
abbrev pub reaped_or : Result (Option (List ℕ)) Refusal → Answer
reaped_or (Ok (Some bytes)) = answers.Payload bytes
reaped_or (Ok None) = answers.Done
reaped_or (Err refusal) = answers.Refused refusal

-- the row was gone through, and the reply is made of its answer
pub record Replies {A : Type 0} (answer_to : Result A Refusal → Answer) (Row : Reach → Result A Refusal → Reach → Type 0) (old : Reach) (reply : Answer) (new : Reach) : Type 0 where
  pub answer : Result A Refusal
  pub row : Row old answer new
  pub replied : reply ≡ answer_to answer
