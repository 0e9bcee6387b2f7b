-- The text of a reply is that of its answer.
use Rattle.std.proofs.Common.{◌≡◌, ℕ, List, refl, ap}
use Rattle.reply_text.specs.Answer.{answer_of, answer_text}
use Rattle.reply_text.specs.Text.{numbers_in, reply_text, verified_text}
use Rattle.reply_text.specs.declared.reply.Reply.{Reply}
use Rattle.reply_text.specs.declared.reply.Reply.TheVariants as replies
use Rattle.reply_text.proofs.Offsets.{length-numbers_in}

-- what is printed of a reply is the text of the answer that it is
pub text_of_reply : (bytes : List ℕ) (reply : Reply) → answer_text (answer_of bytes reply) ≡ reply_text reply bytes
text_of_reply bytes replies.Done = refl
text_of_reply bytes (replies.Payload count) = refl
text_of_reply bytes (replies.Digest digest) = refl
text_of_reply bytes (replies.Rows rows) = refl
text_of_reply bytes (replies.Dump meta) = refl
text_of_reply bytes (replies.Tag tag) = refl
text_of_reply bytes (replies.Left left) = refl
text_of_reply bytes (replies.Verified bad next) = ap (verified_text (numbers_in bad bytes) next) (length-numbers_in bad bytes)
text_of_reply bytes (replies.Refused refusal) = refl
