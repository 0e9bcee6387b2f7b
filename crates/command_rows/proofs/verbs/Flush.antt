-- That `flush` is lawful.
use Rattle.std.proofs.Common.{List, Result, [], false, refl, ℕ, ◌∷◌, ◌≡◌}
use Rattle.block_traits.specs.declared.disk.Event.TheVariants.{Flush}
use Rattle.command_words.specs.declared.commands.Command.TheVariants as commands
use Rattle.command_rows.specs.Rows.{Reach, done_or}
use Rattle.command_rows.specs.Vocabulary.{Command, Refusal, Span}
use Rattle.command_rows.specs.verbs.Flush.{FlushRow}
use Rattle.command_rows.proofs.VerbLaws.{Did, IsLawful, Still, Why, apart_out, does_did, doing_still, done_replying, events_why, false_is_true, nothing_changed, reply_line, row_keeps, row_refused, sound_reply, stays_so, still_sound, unstored_reply}

flush_why : (line : List ℕ) (command : Command) (old : Reach) (answer : Result (Unit {0}) Refusal) (new : Reach) → FlushRow old answer new → Why line command old answer new
flush_why line command old answer new h = events_why line command (Flush ∷ []) old answer new h.does

flushes_did : (old : Reach) (answer : Result (Unit {0}) Refusal) (new : Reach) → FlushRow old answer new → Did (λ events. events ≡ Flush ∷ []) false old.disk answer new.disk
flushes_did old answer new h = does_did (Flush ∷ []) false old.disk answer new.disk h.does

flush_still : Still FlushRow
flush_still = doing_still (Flush ∷ [])

pub flush_lawful : (prov : Span) → IsLawful (commands.Flush prov)
flush_lawful prov = record {
  why = λ line old refusal new h. row_refused line (commands.Flush prov) done_or old h.answer new refusal done_replying h.replied (flush_why line (commands.Flush prov) old h.answer new h.row);
  did = λ line old said new h. reply_line done_or _ false h.answer said old.disk new.disk done_replying h.replied (flushes_did old h.answer new h.row);
  sound = λ line old reply new h. sound_reply done_or FlushRow old reply new done_replying (still_sound flush_still) h;
  out = λ line old gate f. apart_out line (commands.Flush prov) old refl refl gate (λ refusal cabinet x. x) (λ refusal x. x);
  tags = λ line old f needs h. false_is_true needs;
  becomes = λ line old said new gate h. stays_so line (commands.Flush prov) old said new gate refl h.row.holding;
  keeps = λ line old reply new gate other h. row_keeps done_or _ old reply new flush_still.stays h;
  left = λ line old said new h. nothing_changed line old.cabinet.files old.holding said old.disk new.disk;
  stores = λ line old reply new h. unstored_reply _ _ old reply new flush_still.unstored h;
}
