-- That `dump` is lawful.
use Rattle.std.proofs.Common.{List, Result, false, refl, ℕ}
use Rattle.command_words.specs.declared.commands.Command.TheVariants as commands
use Rattle.command_rows.specs.Rows.{Reach, dump_or}
use Rattle.command_rows.specs.Vocabulary.{Metadata, Refusal, Span}
use Rattle.command_rows.specs.verbs.Dump.{DumpRow}
use Rattle.command_rows.proofs.VerbLaws.{IsLawful, Why, apart_out, dump_replying, false_is_true, has_metadata, nothing_changed, quiet_did, quiet_reading, reading_still, reading_why, reply_line, row_keeps, row_refused, sound_reply, stays_quiet, still_sound, unstored_reply}

dump_why : (line : List ℕ) (prov : Span) (old : Reach) (answer : Result Metadata Refusal) (new : Reach) → DumpRow old answer new → Why line (commands.Dump prov) old answer new
dump_why line prov old answer new h = reading_why line (commands.Dump prov) old answer new (λ refusal lacks. lacks) h

pub dump_lawful : (prov : Span) → IsLawful (commands.Dump prov)
dump_lawful prov = record {
  why = λ line old refusal new h. row_refused line (commands.Dump prov) dump_or old h.answer new refusal dump_replying h.replied (dump_why line prov old h.answer new h.row);
  did = λ line old said new h. reply_line dump_or _ false h.answer said old.disk new.disk dump_replying h.replied (quiet_did false old.disk h.answer new.disk (quiet_reading old h.answer new h.row));
  sound = λ line old reply new h. sound_reply dump_or DumpRow old reply new dump_replying (still_sound reading_still) h;
  out = λ line old gate f. apart_out line (commands.Dump prov) old refl refl gate (λ refusal cabinet x. x) (λ refusal x. has_metadata old.disk f.m refusal f.shows x);
  tags = λ line old f needs h. false_is_true needs;
  becomes = λ line old said new gate h. stays_quiet line (commands.Dump prov) old said new h.row.holding (quiet_reading old h.answer new h.row);
  keeps = λ line old reply new gate other h. row_keeps dump_or _ old reply new reading_still.stays h;
  left = λ line old said new h. nothing_changed line old.cabinet.files old.holding said old.disk new.disk;
  stores = λ line old reply new h. unstored_reply _ _ old reply new reading_still.unstored h;
}
