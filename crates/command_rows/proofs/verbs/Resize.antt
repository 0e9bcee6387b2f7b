-- That `resize` is lawful.
use Rattle.std.proofs.Common.{◌==◌, Bool, Err, List, None, Ok, Option, Result, Some, [], ap, cond, false, inl, inr, nat_le, nat_lt, refl, subst, sym, true, ℕ, ◌*◌, ◌++◌, ◌-◌, ◌∙◌, ◌≡◌, ◌⊎◌}
use Rattle.command_words.specs.declared.commands.Command.TheVariants as commands
use Rattle.eli_base.specs.declared.refusals.Refusal.TheVariants as refusals
use Rattle.resize_kill.proofs.Moved.{KeepsAlone-Moves, KeepsOneOf-Moves, KeepsOneOf-MovesPart}
use Rattle.command_rows.specs.Rows.{Reach, done_or}
use Rattle.command_rows.specs.Vocabulary.{Command, Content, DiskState, EntropyState, Event, GivesFrom, HoldsOldOr, HoldsOneOf, IsSectorOf, KeepsAlone, KeepsOneOf, Logs, MetaFault, Metadata, Refusal, RefusesOld, RefusesSizes, Resizes, Span, WaitsForFlush, encoded, grown, move_events, old_place, old_refusal, overwrite_events, size_refusal, trash_sectors}
use Rattle.command_rows.specs.verbs.Resize.{FindsOldPlace, MovesLast, MovesMetadata, MovesToEnd, RefusesOldPlace, ResizeRow}
use Rattle.command_rows.proofs.VerbLaws.{ChangesMetadata, Counts, CountsResult, Did, DoesFrom, IsLawful, Later, Left, LineHasCause, PlainOption, Same, Still, Why, apart_out, before_all, beside, done_left, done_replying, false_is_true, meta_plain, moments_from, not_done, not_some, nothing_done, part_did, plain_cause, plain_some, quiet_failure, reads_same, reply_line, row_keeps, row_refused, same_content, same_disk, same_files, same_replacing, some_uncounted, sound_reply, stays_so, still_sound, uncounted_step, unstored_reply}

same_moving : (oldsize : ℕ) (disk start : DiskState) (m : Metadata) (random : List ℕ) → disk.size ≡ start.size → move_events disk (old_place oldsize) m random ≡ move_events start (old_place oldsize) m random
same_moving oldsize disk start m random size = ap (λ (events : List Event). events ++ overwrite_events (old_place oldsize) (trash_sectors random)) (same_replacing disk start m size)

refused_logs : (oldsize : ℕ) (disk : DiskState) (entropy : EntropyState) (refusal : Refusal) (disk' : DiskState) (entropy' : EntropyState)
    → RefusesSizes oldsize disk entropy refusal disk' entropy' ⊎ RefusesOld oldsize disk entropy refusal disk' entropy' → Logs [] disk disk'
refused_logs oldsize disk entropy refusal disk' entropy' (inl h) = same_disk disk disk' h.disk_unchanged
refused_logs oldsize disk entropy refusal disk' entropy' (inr h) = h.finds.finds.logs

moved_did : (oldsize : ℕ) (start disk : DiskState) (entropy : EntropyState) (answer : Result (Unit {0}) Refusal) (disk' : DiskState) (entropy' : EntropyState) → disk.size ≡ start.size
    → Resizes oldsize disk entropy answer disk' entropy' → Did (MovesLast oldsize start) false disk answer disk'
moved_did oldsize start disk entropy (Ok done) disk' entropy' size h =
    record {
      events = move_events disk (old_place oldsize) (grown h.old disk.size) h.random;
      logs = h.logs;
      are = record { m = grown h.old disk.size; random = h.random; size = h.prepares.takes.size; are = same_moving oldsize disk start (grown h.old disk.size) h.random size };
    }
moved_did oldsize start disk entropy (Err refusals.DeviceFault) disk' entropy' size (inl h) = nothing_done (MovesLast oldsize start) false refusals.DeviceFault disk disk' (quiet_failure disk disk' h.fails)
moved_did oldsize start disk entropy (Err refusals.DeviceFault) disk' entropy' size (inr h) =
    part_did (MovesLast oldsize start) false (move_events disk (old_place oldsize) (grown h.old disk.size) h.random) disk disk' h.fails
    (record { m = grown h.old disk.size; random = h.random; size = h.prepares.takes.size; are = same_moving oldsize disk start (grown h.old disk.size) h.random size })
moved_did oldsize start disk entropy (Err refusals.EntropyFault) disk' entropy' size h = nothing_done (MovesLast oldsize start) false refusals.EntropyFault disk disk' h.finds.finds.logs
moved_did oldsize start disk entropy (Err refusal) disk' entropy' size h = nothing_done (MovesLast oldsize start) false refusal disk disk' (refused_logs oldsize disk entropy refusal disk' entropy' h)

moves_did : (start : DiskState) (oldsize : ℕ) → DoesFrom (MovesLast oldsize start) start (MovesMetadata oldsize)
moves_did start oldsize old answer new size h = moved_did oldsize start old.disk old.entropy answer new.disk new.entropy size h.resizes

resize_did : (oldsize : ℕ) (old : Reach) (answer : Result (Unit {0}) Refusal) (new : Reach) → ResizeRow oldsize old answer new → Did (MovesLast oldsize old.disk) false old.disk answer new.disk
resize_did oldsize old answer new h = moves_did old.disk oldsize old answer new refl h

sizes_by : (small grown : Bool) (size given : ℕ) → PlainOption (cond small (Some (refusals.TooSmall size)) (cond grown (Some (refusals.NotGrown size given)) None))
sizes_by true grown size given = tt
sizes_by false true size given = tt
sizes_by false false size given = tt

sizes_plain : (sectors oldsize : ℕ) → PlainOption (size_refusal sectors oldsize)
sizes_plain sectors oldsize = sizes_by (nat_lt sectors 2) (nat_le (512 * sectors) oldsize) (512 * sectors) oldsize

other_plain : (same : Bool) (kept given : ℕ) → PlainOption (cond same None (Some (refusals.OldSizeMismatch kept given)))
other_plain true kept given = tt
other_plain false kept given = tt

old_plain : (found : Result Metadata MetaFault) (oldsize : ℕ) → PlainOption (old_refusal found oldsize)
old_plain (Err fault) oldsize = meta_plain fault
old_plain (Ok m) oldsize = other_plain (m.provsize == oldsize) m.provsize oldsize

unmoved_counts : (oldsize : ℕ) (old new : Reach) (refusal : Refusal) → RefusesSizes oldsize old.disk old.entropy refusal new.disk new.entropy ⊎ RefusesOld oldsize old.disk old.entropy refusal new.disk new.entropy → new.cabinet ≡ old.cabinet
    → CountsResult {A = Unit {0}} old (Err refusal) new × Later old new
unmoved_counts oldsize old new refusal (inl h) same =
    uncounted_step {A = Unit {0}} old (Err refusal) new
    (some_uncounted (size_refusal old.disk.size oldsize) refusal (sizes_plain old.disk.size oldsize) h.cause) same h.entropy_unchanged
unmoved_counts oldsize old new refusal (inr h) same =
    uncounted_step {A = Unit {0}} old (Err refusal) new (some_uncounted (old_refusal h.finds.found oldsize) refusal (old_plain h.finds.found oldsize) h.finds.cause) same h.unchanged

moved_counts : (oldsize : ℕ) (old new : Reach) (answer : Result (Unit {0}) Refusal) → Resizes oldsize old.disk old.entropy answer new.disk new.entropy → new.cabinet ≡ old.cabinet → CountsResult old answer new × Later old new
moved_counts oldsize old new (Ok done) h same = (tt, beside old new same h.prepares.takes.taken.later)
moved_counts oldsize old new (Err refusals.DeviceFault) (inl h) same = uncounted_step {A = Unit {0}} old (Err refusals.DeviceFault) new tt same h.unchanged
moved_counts oldsize old new (Err refusals.DeviceFault) (inr h) same = (tt, beside old new same h.prepares.takes.taken.later)
moved_counts oldsize old new (Err refusals.EntropyFault) h same = (h.none.rose, beside old new same h.none.later)
moved_counts oldsize old new (Err refusal) h same = unmoved_counts oldsize old new refusal h same

moving_counts : (oldsize : ℕ) → Counts (MovesMetadata oldsize)
moving_counts oldsize old answer new h = moved_counts oldsize old new answer h.resizes h.cabinet

unmoved_why : (line : List ℕ) (prov : Span) (oldsize : ℕ) (old : Reach) (refusal : Refusal) (new : Reach)
    → RefusesSizes oldsize old.disk old.entropy refusal new.disk new.entropy ⊎ RefusesOld oldsize old.disk old.entropy refusal new.disk new.entropy → LineHasCause line (commands.Resize prov oldsize) old refusal new
unmoved_why line prov oldsize old refusal new (inl h) =
    plain_cause line (commands.Resize prov oldsize) old refusal new (plain_some (size_refusal old.disk.size oldsize) refusal (sizes_plain old.disk.size oldsize) h.cause) (inl h.cause)
unmoved_why line prov oldsize old refusal new (inr h) =
    let finds = h.finds.finds in
    plain_cause line (commands.Resize prov oldsize) old refusal new (plain_some (old_refusal h.finds.found oldsize) refusal (old_plain h.finds.found oldsize) h.finds.cause)
    (inr (record {
      sizes = h.sizes;
      found = h.finds.found;
      read = record { bytes = finds.bytes; whole = finds.whole; told = finds.told; read = sym finds.answered };
      refused = h.finds.cause;
    }))

moves_why : (line : List ℕ) (prov : Span) (oldsize : ℕ) (old : Reach) (answer : Result (Unit {0}) Refusal) (new : Reach) → Resizes oldsize old.disk old.entropy answer new.disk new.entropy → Why line (commands.Resize prov oldsize) old answer new
moves_why line prov oldsize old (Ok done) new h = tt
moves_why line prov oldsize old (Err refusals.DeviceFault) new (inl h) = h.fails.rose
moves_why line prov oldsize old (Err refusals.DeviceFault) new (inr h) = h.fails.rose
moves_why line prov oldsize old (Err refusals.EntropyFault) new h = h.none.rose
moves_why line prov oldsize old (Err refusal) new h = unmoved_why line prov oldsize old refusal new h

resize_why : (line : List ℕ) (prov : Span) (oldsize : ℕ) (old : Reach) (answer : Result (Unit {0}) Refusal) (new : Reach) → ResizeRow oldsize old answer new → Why line (commands.Resize prov oldsize) old answer new
resize_why line prov oldsize old answer new h = moves_why line prov oldsize old answer new h.resizes

resize_still : (oldsize : ℕ) → Still (ResizeRow oldsize)
resize_still oldsize = record { counts = moving_counts oldsize; stays = λ old answer new h. h.holding; unstored = λ old answer new h. same_files old.cabinet new.cabinet h.cabinet }

resize_fits : (oldsize : ℕ) (old : Reach) (f : FindsOldPlace oldsize old) (refusal : Refusal) → (size_refusal old.disk.size oldsize ≡ Some refusal) ⊎ RefusesOldPlace oldsize old refusal → ⊥
resize_fits oldsize old f refusal (inl h) = not_some _ refusal f.sizes h
resize_fits oldsize old f refusal (inr h) =
    let found : h.found ≡ Ok f.m = reads_same old.disk (old_place oldsize) f.m h.found f.shows h.read in
    not_some _ refusal f.served (subst (λ (r : Result Metadata MetaFault). old_refusal r oldsize ≡ Some refusal) found h.refused)

one_from : (m m' old : Metadata) (place : ℕ) (start disk disk' : DiskState) → Same start disk → m ≡ m' → KeepsOneOf m place old disk disk' → KeepsOneOf m' place old start disk'
one_from m m' old place start disk disk' same is h =
    subst (λ (x : Metadata). KeepsOneOf x place old start disk') is (record {
      waits = moments_from (λ n. WaitsForFlush) start disk disk'.content same h.waits;
      last = moments_from (λ n. HoldsOldOr (IsSectorOf m) n) start disk disk'.content same h.last;
      one = moments_from (λ n. HoldsOneOf n m place old) start disk disk'.content same h.one;
    })

gives_from : (place : ℕ) (bytes : List ℕ) (start disk : DiskState) → Same start disk → GivesFrom disk.content place bytes → GivesFrom start.content place bytes
gives_from place bytes start disk same h = subst (λ (told : Option Content). GivesFrom told place bytes) same.content h

refused_left : (oldsize : ℕ) (disk : DiskState) (entropy : EntropyState) (refusal : Refusal) (disk' : DiskState) (entropy' : EntropyState)
    → RefusesSizes oldsize disk entropy refusal disk' entropy' ⊎ RefusesOld oldsize disk entropy refusal disk' entropy' → disk'.content ≡ disk.content
refused_left oldsize disk entropy refusal disk' entropy' (inl h) = ap (λ (d : DiskState). d.content) h.disk_unchanged
refused_left oldsize disk entropy refusal disk' entropy' (inr h) = same_content disk disk' h.finds.finds.logs

moved_left : (oldsize : ℕ) (start disk : DiskState) (entropy : EntropyState) (answer : Result (Unit {0}) Refusal) (disk' : DiskState) (entropy' : EntropyState) → Same start disk → Resizes oldsize disk entropy answer disk' entropy'
    → Left (MovesToEnd oldsize) start answer disk'
moved_left oldsize start disk entropy (Ok done) disk' entropy' same h =
    record {
      m = h.old;
      found = record { bytes = h.prepares.bytes; whole = h.prepares.whole; told = gives_from (old_place oldsize) h.prepares.bytes start disk same h.prepares.told; read = h.prepares.found };
      size = h.prepares.size;
      keeps = one_from (grown h.old disk.size) (grown h.old start.size) h.old (old_place oldsize) start disk disk' same (ap (λ (n : ℕ). grown h.old n) same.size)
          (KeepsOneOf-Moves oldsize disk disk' entropy entropy' h);
      alone = λ yes. subst (λ (n : ℕ). KeepsAlone (encoded (grown h.old n)) (n - 1) disk'.content) same.size (KeepsAlone-Moves oldsize disk disk' entropy entropy' h);
    }
moved_left oldsize start disk entropy (Err refusals.DeviceFault) disk' entropy' same (inl h) = inl (same_content disk disk' (quiet_failure disk disk' h.fails) ∙ same.content)
moved_left oldsize start disk entropy (Err refusals.DeviceFault) disk' entropy' same (inr h) =
    inr (record {
      m = h.old;
      found = record { bytes = h.prepares.bytes; whole = h.prepares.whole; told = gives_from (old_place oldsize) h.prepares.bytes start disk same h.prepares.told; read = h.prepares.found };
      size = h.prepares.size;
      keeps = one_from (grown h.old disk.size) (grown h.old start.size) h.old (old_place oldsize) start disk disk' same (ap (λ (n : ℕ). grown h.old n) same.size)
          (KeepsOneOf-MovesPart oldsize disk disk' entropy entropy' h);
      alone = λ yes. not_done yes;
    })
moved_left oldsize start disk entropy (Err refusals.EntropyFault) disk' entropy' same h = inl (same_content disk disk' h.finds.finds.logs ∙ same.content)
moved_left oldsize start disk entropy (Err refusal) disk' entropy' same h = inl (refused_left oldsize disk entropy refusal disk' entropy' h ∙ same.content)

resize_left : (oldsize : ℕ) (old : Reach) (answer : Result (Unit {0}) Refusal) (new : Reach) → ResizeRow oldsize old answer new → Left (MovesToEnd oldsize) old.disk answer new.disk
resize_left oldsize old answer new h = moved_left oldsize old.disk old.disk old.entropy answer new.disk new.entropy (before_all old).same h.resizes

pub resize_lawful : (prov : Span) (oldsize : ℕ) → IsLawful (commands.Resize prov oldsize)
resize_lawful prov oldsize = record {
  why = λ line old refusal new h.
      let command : Command = commands.Resize prov oldsize in
      row_refused line command done_or old h.answer new refusal done_replying h.replied (resize_why line prov oldsize old h.answer new h.row);
  did = λ line old said new h. reply_line done_or _ false h.answer said old.disk new.disk done_replying h.replied (resize_did oldsize old h.answer new h.row);
  sound = λ line old reply new h. sound_reply done_or _ old reply new done_replying (still_sound (resize_still oldsize)) h;
  out = λ line old gate f.
      apart_out line (commands.Resize prov oldsize) old refl refl gate (λ refusal cabinet x. x)
      (λ refusal x. resize_fits oldsize old f refusal x);
  tags = λ line old f needs h. false_is_true needs;
  becomes = λ line old said new gate h. stays_so line (commands.Resize prov oldsize) old said new gate refl ((resize_still oldsize).stays old h.answer new h.row);
  keeps = λ line old reply new gate other h. row_keeps done_or _ old reply new (resize_still oldsize).stays h;
  left = λ line old said new h. done_left (ChangesMetadata line (commands.Resize prov oldsize) old.cabinet.files old.holding) old.disk h.answer said new.disk h.replied (resize_left oldsize old h.answer new h.row);
  stores = λ line old reply new h. unstored_reply _ _ old reply new (resize_still oldsize).unstored h;
}
