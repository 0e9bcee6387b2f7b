-- A whole reply: what one command reports, as data.
use Rattle.std.specs.Prelude.{ℕ, [], ◌∷◌, List, codes, length, take}
use Rattle.eli_base.specs.declared.refusals.Refusal.{Refusal}
use Rattle.eli_metadata.specs.declared.metadata.Metadata.{Metadata}
use Rattle.reply_text.specs.Text.{bytes_text, dump_text, list_text, numbers_in, numbers_line, refusal_text, verified_text}
use Rattle.reply_text.specs.declared.reply.Reply.{Reply}
use Rattle.reply_text.specs.declared.reply.Reply.TheVariants as replies
use Rattle.reply_text.specs.declared.rows.Row.{Row}

-- the command was done; bytes that were read; a digest; the drawers; the metadata; the tag of a request; the units that
-- are left of one; the offsets of the units that fail, and where the next sweep begins; or the command was refused
pub data Answer : Type 0 where
  Done : Answer
  Payload : List ℕ → Answer
  Digest : List ℕ → Answer
  Rows : List Row → Answer
  Dump : Metadata → Answer
  Tag : ℕ → Answer
  Left : ℕ → Answer
  Verified : List ℕ → ℕ → Answer
  Refused : Refusal → Answer

-- a reply, whose payload stands at the front of some bytes
abbrev pub answer_of : List ℕ → Reply → Answer
answer_of bytes replies.Done = Done
answer_of bytes (replies.Payload count) = Payload (take count bytes)
answer_of bytes (replies.Digest digest) = Digest digest
answer_of bytes (replies.Rows rows) = Rows rows
answer_of bytes (replies.Dump meta) = Dump meta
answer_of bytes (replies.Tag tag) = Tag tag
answer_of bytes (replies.Left left) = Left left
answer_of bytes (replies.Verified bad next) = Verified (numbers_in bad bytes) next
answer_of bytes (replies.Refused refusal) = Refused refusal

-- the text of an answer
abbrev pub answer_text : Answer → List ℕ
answer_text Done = codes "ok\n"
answer_text (Payload bytes) = bytes_text bytes
answer_text (Digest digest) = bytes_text digest
answer_text (Rows rows) = list_text rows
answer_text (Dump meta) = dump_text meta
answer_text (Tag tag) = numbers_line (codes "ok") (tag ∷ [])
answer_text (Left left) = numbers_line (codes "ok") (left ∷ [])
answer_text (Verified offsets next) = verified_text offsets next (length offsets)
answer_text (Refused refusal) = refusal_text refusal
