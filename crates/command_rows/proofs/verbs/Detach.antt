-- That `detach` is lawful.
use Rattle.std.proofs.Common.{List, Result, [], ap, false, inl, inr, refl, ℕ, ◌∷◌, ◌≡◌}
use Rattle.block_traits.specs.declared.disk.Event.TheVariants.{Flush}
use Rattle.command_words.specs.declared.commands.Command.TheVariants as commands
use Rattle.command_rows.specs.Rows.{Detaches, Idle, Reach, attachment_in, done_or}
use Rattle.command_rows.specs.Vocabulary.{Command, Refusal, Span}
use Rattle.command_rows.specs.verbs.Detach.{DetachRow}
use Rattle.command_rows.proofs.VerbLaws.{Counts, Did, IsLawful, Sound, Unstored, Why, apart_out, becomes_as, does_did, does_uncounted, done_replying, events_why, false_is_true, idles, nothing_changed, reply_line, row_refused, same_files, sound_reply, uncounted_step, unstored_reply}

detach_why : (line : List ℕ) (command : Command) (old : Reach) (answer : Result (Unit {0}) Refusal) (new : Reach) → DetachRow old answer new → Why line command old answer new
detach_why line command old answer new h = events_why line command (Flush ∷ []) old answer new h.flushes

detaches_did : (old : Reach) (answer : Result (Unit {0}) Refusal) (new : Reach) → DetachRow old answer new → Did (λ events. events ≡ Flush ∷ []) false old.disk answer new.disk
detaches_did old answer new h = does_did (Flush ∷ []) false old.disk answer new.disk h.flushes

detaching_counts : Counts Detaches
detaching_counts old answer new h = uncounted_step old answer new (does_uncounted (Flush ∷ []) old.disk answer new.disk h.flushes) h.outside.cabinet h.outside.entropy

detaching_sound : Sound Detaches
detaching_sound = record { counts = detaching_counts; keeps = λ old answer new h had. idles new.holding h.holding }

detach_sound : Sound DetachRow
detach_sound = detaching_sound

detaching_unstored : Unstored Detaches
detaching_unstored old answer new h = same_files old.cabinet new.cabinet h.outside.cabinet

pub detach_lawful : (prov : Span) → IsLawful (commands.Detach prov)
detach_lawful prov = record {
  why = λ line old refusal new h. row_refused line (commands.Detach prov) done_or old h.answer new refusal done_replying h.replied (detach_why line (commands.Detach prov) old h.answer new h.row);
  did = λ line old said new h. reply_line done_or _ false h.answer said old.disk new.disk done_replying h.replied (detaches_did old h.answer new h.row);
  sound = λ line old reply new h. sound_reply done_or DetachRow old reply new done_replying detach_sound h;
  out = λ line old gate f. apart_out line (commands.Detach prov) old refl refl gate (λ refusal cabinet x. x) (λ refusal x. x);
  tags = λ line old f needs h. false_is_true needs;
  becomes = λ line old said new gate h. becomes_as line (commands.Detach prov) old said new Idle h.row.holding (inr refl);
  keeps = λ line old reply new gate other h. inr (inl (ap attachment_in h.row.holding));
  left = λ line old said new h. nothing_changed line old.cabinet.files old.holding said old.disk new.disk;
  stores = λ line old reply new h. unstored_reply _ _ old reply new detaching_unstored h;
}
