-- That `kill` is lawful.
use Rattle.std.proofs.Common.{Err, List, Ok, Result, ap, arith, false, inl, inr, refl, subst, sym, ℕ, ◌-◌, ◌∙◌, ◌≡◌}
use Rattle.command_words.specs.declared.commands.Command.TheVariants as commands
use Rattle.eli_base.specs.declared.refusals.Refusal.TheVariants as refusals
use Rattle.resize_kill.proofs.Destroyed.{gone-FailsIn, gone-Logs}
use Rattle.command_rows.specs.Rows.{Idle, Reach, attachment_in, done_or}
use Rattle.command_rows.specs.Vocabulary.{DiskState, EntropyState, HoldsNoMetadata, Kills, Refusal, Span, kill_events, overwrite_events, trash_sectors}
use Rattle.command_rows.specs.verbs.Kill.{LeavesNoMetadata, DestroysMetadata, KillRow, OverwritesLast, Withdraws}
use Rattle.command_rows.proofs.VerbLaws.{ChangesMetadata, Counts, CountsResult, Did, DoesFrom, Early, IsLawful, Later, Left, Quiet, Same, Sound, Still, UncountedAnswer, Unstored, Why, after_quiet, apart_out, becomes_as, before_all, beside, done_left, done_replying, false_is_true, idles, left_then, moments_from, nothing_done, part_did, reply_line, row_refused, same_disk, same_files, same_quiet, same_reach, sound_reply, sound_then, stays_next, still_sound, then_why, uncounted_step, unstored_reply, unstored_then}

same_killing : (disk start : DiskState) (random : List ℕ) → disk.size ≡ start.size → kill_events disk random ≡ kill_events start random
same_killing disk start random size = ap (λ (n : ℕ). overwrite_events (n - 1) (trash_sectors random)) size

killed_did : (start disk : DiskState) (entropy : EntropyState) (answer : Result (Unit {0}) Refusal) (disk' : DiskState) (entropy' : EntropyState) → disk.size ≡ start.size → Kills disk entropy answer disk' entropy'
    → Did (OverwritesLast start) false disk answer disk'
killed_did start disk entropy (Ok done) disk' entropy' size h =
    record { events = kill_events disk h.random; logs = h.logs; are = record { random = h.random; size = h.takes.size; are = same_killing disk start h.random size } }
killed_did start disk entropy (Err refusals.DeviceFault) disk' entropy' size h =
    part_did (OverwritesLast start) false (kill_events disk h.random) disk disk' h.fails (record { random = h.random; size = h.takes.size; are = same_killing disk start h.random size })
killed_did start disk entropy (Err refusals.EntropyFault) disk' entropy' size h = nothing_done (OverwritesLast start) false refusals.EntropyFault disk disk' (same_disk disk disk' h.unchanged)
killed_did start disk entropy (Err (refusals.TooSmall bytes)) disk' entropy' size h = nothing_done (OverwritesLast start) false (refusals.TooSmall bytes) disk disk' (same_disk disk disk' h.disk_unchanged)
killed_did start disk entropy (Err refusal) disk' entropy' size h = absurd h

kills_did : (start : DiskState) → DoesFrom (OverwritesLast start) start DestroysMetadata
kills_did start old answer new size h = killed_did start old.disk old.entropy answer new.disk new.entropy size h.kills

quiet_withdrawal : Quiet Withdraws
quiet_withdrawal old answer new h = same_quiet _ new h.1

kill_did : (old : Reach) (answer : Result (Unit {0}) Refusal) (new : Reach) → KillRow old answer new → Did (OverwritesLast old.disk) false old.disk answer new.disk
kill_did old answer new h = after_quiet (OverwritesLast old.disk) old.disk quiet_withdrawal (λ done. kills_did old.disk) old answer new refl h

withdrawing_counts : Counts Withdraws
withdrawing_counts old answer new h =
    uncounted_step old answer new (subst (λ (r : Result (Unit {0}) Refusal). UncountedAnswer r) (sym h.0) tt) (ap (λ (r : Reach). r.cabinet) h.1) (ap (λ (r : Reach). r.entropy) h.1)

killed_counts : (old new : Reach) (answer : Result (Unit {0}) Refusal) → Kills old.disk old.entropy answer new.disk new.entropy → new.cabinet ≡ old.cabinet → CountsResult old answer new × Later old new
killed_counts old new (Ok done) h same = (tt, beside old new same h.takes.taken.later)
killed_counts old new (Err refusals.DeviceFault) h same = (tt, beside old new same h.takes.taken.later)
killed_counts old new (Err refusals.EntropyFault) h same = (h.none.rose, beside old new same h.none.later)
killed_counts old new (Err (refusals.TooSmall size)) h same = uncounted_step {A = Unit {0}} old (Err (refusals.TooSmall size)) new tt same h.entropy_unchanged
killed_counts old new (Err refusal) h same = absurd h

killing_counts : Counts DestroysMetadata
killing_counts old answer new h = killed_counts old new answer h.kills h.cabinet

kills_why : (line : List ℕ) (prov : Span) (old : Reach) (answer : Result (Unit {0}) Refusal) (new : Reach) → Kills old.disk old.entropy answer new.disk new.entropy → Why line (commands.Kill prov) old answer new
kills_why line prov old (Ok done) new h = tt
kills_why line prov old (Err refusals.DeviceFault) new h = h.fails.rose
kills_why line prov old (Err refusals.EntropyFault) new h = h.none.rose
kills_why line prov old (Err (refusals.TooSmall size)) new h = (tt, (h.small, ap (λ (n : ℕ). refusals.TooSmall n) h.bytes))
kills_why line prov old (Err refusal) new h = absurd h

-- detaching first leaves the disk and the entropy as they are
kill_why : (line : List ℕ) (prov : Span) (old : Reach) (answer : Result (Unit {0}) Refusal) (new : Reach) → KillRow old answer new → Why line (commands.Kill prov) old answer new
kill_why line prov old answer new h =
    then_why line (commands.Kill prov) old answer new h
    (λ given middle first. rw first.0 tt)
    (λ done middle first next. kills_why line prov old answer new (subst (λ (r : Reach). Kills r.disk r.entropy answer new.disk new.entropy) first.1 next.kills))

killing_still : Still DestroysMetadata
killing_still = record { counts = killing_counts; stays = λ old answer new h. h.holding; unstored = λ old answer new h. same_files old.cabinet new.cabinet h.cabinet }

withdrawing_sound : Sound Withdraws
withdrawing_sound = record { counts = withdrawing_counts; keeps = λ old answer new h had. idles new.holding (ap (λ (r : Reach). r.holding) h.1) }

kill_sound : Sound KillRow
kill_sound = sound_then withdrawing_sound (λ done. still_sound killing_still)

kill_idles : (old : Reach) (answer : Result (Unit {0}) Refusal) (new : Reach) → KillRow old answer new → new.holding ≡ Idle
kill_idles old answer new h = stays_next (λ _. DestroysMetadata) h.given h.middle answer new (λ done old answer new d. d.holding) h.next ∙ same_reach _ h.middle h.first.1

killed_left : (start disk : DiskState) (entropy : EntropyState) (answer : Result (Unit {0}) Refusal) (disk' : DiskState) (entropy' : EntropyState) → Same start disk → Kills disk entropy answer disk' entropy' → Left LeavesNoMetadata start answer disk'
killed_left start disk entropy (Ok done) disk' entropy' same h = moments_from (λ n. HoldsNoMetadata n) start disk disk'.content same (gone-Logs h.random disk disk' h.logs)
killed_left start disk entropy (Err refusals.DeviceFault) disk' entropy' same h = inr (moments_from (λ n. HoldsNoMetadata n) start disk disk'.content same (gone-FailsIn h.random disk disk' h.fails))
killed_left start disk entropy (Err refusals.EntropyFault) disk' entropy' same h = inl (ap (λ (d : DiskState). d.content) h.unchanged ∙ same.content)
killed_left start disk entropy (Err (refusals.TooSmall bytes)) disk' entropy' same h = inl (ap (λ (d : DiskState). d.content) h.disk_unchanged ∙ same.content)
killed_left start disk entropy (Err refusal) disk' entropy' same h = absurd h

early_withdrawal : Early Withdraws
early_withdrawal old answer new h = record { quiet = same_quiet _ new h.1; files = ap (λ (r : Reach). r.cabinet.files) h.1 }

kill_left : (old : Reach) (answer : Result (Unit {0}) Refusal) (new : Reach) → KillRow old answer new → Left LeavesNoMetadata old.disk answer new.disk
kill_left old answer new h =
    left_then LeavesNoMetadata old old answer new h (before_all old) early_withdrawal
    (λ done r1 b1 f1 n1. killed_left old.disk r1.disk r1.entropy answer new.disk new.entropy b1.same n1.kills)

withdrawing_unstored : Unstored Withdraws
withdrawing_unstored old answer new h = same_files old.cabinet new.cabinet (ap (λ (r : Reach). r.cabinet) h.1)

kill_row : Unstored KillRow
kill_row = unstored_then withdrawing_unstored (λ done. killing_still.unstored)

pub kill_lawful : (prov : Span) → IsLawful (commands.Kill prov)
kill_lawful prov = record {
  why = λ line old refusal new h. row_refused line (commands.Kill prov) done_or old h.answer new refusal done_replying h.replied (kill_why line prov old h.answer new h.row);
  did = λ line old said new h. reply_line done_or _ false h.answer said old.disk new.disk done_replying h.replied (kill_did old h.answer new h.row);
  sound = λ line old reply new h. sound_reply done_or KillRow old reply new done_replying kill_sound h;
  out = λ line old gate f. apart_out line (commands.Kill prov) old refl refl gate (λ refusal cabinet x. x) (λ refusal x. omega (arith, f, x.0));
  tags = λ line old f needs h. false_is_true needs;
  becomes = λ line old said new gate h. becomes_as line (commands.Kill prov) old said new Idle (kill_idles old h.answer new h.row) (inr refl);
  keeps = λ line old reply new gate other h. inr (inl (ap attachment_in (kill_idles old h.answer new h.row)));
  left = λ line old said new h. done_left (ChangesMetadata line (commands.Kill prov) old.cabinet.files old.holding) old.disk h.answer said new.disk h.replied (kill_left old h.answer new h.row);
  stores = λ line old reply new h. unstored_reply _ _ old reply new kill_row h;
}
