-- That `delkey` is lawful.
use Rattle.std.proofs.Common.{Bool, Err, List, None, Ok, Option, Result, Some, ap, cond, false, inl, inr, refl, subst, sym, true, ℕ, ◌-◌, ◌∙◌, ◌≡◌, ◌⊎◌}
use Rattle.std.specs.Option.{option_or}
use Rattle.block_traits.proofs.Causes.{Rose-earlier}
use Rattle.command_words.specs.declared.commands.Command.TheVariants as commands
use Rattle.eli_base.specs.declared.refusals.Refusal.TheVariants as refusals
use Rattle.key_commands.proofs.Passes.{HasOtherKeys-Deletes, KeepsAlone-Deletes, Overwrites-Deletes, Overwrites-DeletesPart}
use Rattle.key_commands.specs.declared.overwriting.Which.{Which}
use Rattle.key_commands.specs.declared.overwriting.Which.TheVariants as slots
use Rattle.command_rows.specs.Rows.{HasMetadata, Holding, LacksMetadata, Reach, done_or, without_value}
use Rattle.command_rows.specs.Vocabulary.{Command, DeletesKeys, Deletion, DiskState, EntropyState, HasNoKey, HoldsOldOr, HoldsOnceFlushed, Metadata, Overwrites, Refusal, Span, deletion_refusal, encoded, overwrite_events, pass_events, pass_sectors}
use Rattle.command_rows.specs.verbs.Delkey.{ClearsKeys, DeletesRow, DelkeyRow, FindsSlots, NamesSlots, OverwritesKeys, RefusesDelkey, RefusesSlots, TakesKeysOut, named_slots, slot_of}
use Rattle.command_rows.proofs.VerbLaws.{Change, ChangesMetadata, Counts, CountsResult, Did, DoesFrom, Grounds, IsLawful, Later, Left, PlainAnswer, PlainOption, Same, Since, Still, Why, after_quiet, alone_from, apart_out, before_all, beside, by_plain, decides_why, done_left, done_replying, early_decision, early_reading, false_is_true, has_metadata, has_same, left_then, moments_from, not_both, not_done, not_some, nothing_done, part_did, plain_cause, plain_some, quiet_reading, reading_has, reading_since, reading_still, reading_why, reply_line, row_keeps, row_refused, same_disk, same_files, same_quiet, since_same, some_uncounted, sound_reply, stays_so, still_decision, still_sound, still_then, then_since, then_why, uncounted_step, unstored_reply}

same_passes : (disk start : DiskState) (asked : Deletion) (random : List ℕ) → disk.size ≡ start.size → pass_events disk asked.meta asked.which random ≡ pass_events start asked.meta asked.which random
same_passes disk start asked random size = ap (λ (n : ℕ). overwrite_events (n - 1) (pass_sectors asked.meta asked.which random)) size

deleted_did : (asked : Deletion) (start disk : DiskState) (entropy : EntropyState) (made : Result Metadata Refusal) (disk' : DiskState) (entropy' : EntropyState) (answer : Result (Unit {0}) Refusal) → disk.size ≡ start.size
    → DeletesKeys asked disk entropy made disk' entropy' → answer ≡ without_value made → Did (OverwritesKeys start) false disk answer disk'
deleted_did asked start disk entropy (Ok m) disk' entropy' answer size h is =
    rw is (record {
      events = pass_events disk asked.meta asked.which h.random;
      logs = h.logs;
      are = record { m = asked.meta; which = asked.which; random = h.random; size = h.draws.size; are = same_passes disk start asked h.random size };
    })
deleted_did asked start disk entropy (Err refusals.DeviceFault) disk' entropy' answer size h is =
    rw is (part_did (OverwritesKeys start) false (pass_events disk asked.meta asked.which h.random) disk disk' h.fails
    (record { m = asked.meta; which = asked.which; random = h.random; size = h.draws.size; are = same_passes disk start asked h.random size }))
deleted_did asked start disk entropy (Err refusals.EntropyFault) disk' entropy' answer size h is =
    rw is (nothing_done (OverwritesKeys start) false refusals.EntropyFault disk disk' (same_disk disk disk' h.unchanged))
deleted_did asked start disk entropy (Err refusal) disk' entropy' answer size h is = rw is (nothing_done (OverwritesKeys start) false refusal disk disk' (same_disk disk disk' h.disk_unchanged))

deletes_did : (start : DiskState) (asked : Deletion) → DoesFrom (OverwritesKeys start) start (TakesKeysOut asked)
deletes_did start asked old answer new size h = deleted_did asked start old.disk old.entropy h.made new.disk new.entropy answer size h.deletes h.answered

deletes_row_did : (start : DiskState) (all force : Bool) (slot : Option ℕ) → DoesFrom (OverwritesKeys start) start (DeletesRow all force slot)
deletes_row_did start all force slot =
    after_quiet (OverwritesKeys start) start quiet_reading
    (λ m. after_quiet (OverwritesKeys start) start (λ old answer new h. same_quiet old new h.1)
    (λ which. deletes_did start (record { meta = m; which = which; force = force })))

delkey_did : (all force : Bool) (slot : Option ℕ) (old : Reach) (answer : Result (Unit {0}) Refusal) (new : Reach) → DelkeyRow all force slot old answer new → Did (OverwritesKeys old.disk) false old.disk answer new.disk
delkey_did all force slot old answer new h = deletes_row_did old.disk all force (option_or slot (slot_of old.holding)) old answer new refl h

named_plain : (all : Bool) (slot : Option ℕ) → PlainAnswer (named_slots all slot)
named_plain true slot = tt
named_plain false (Some slot) = tt
named_plain false None = tt

deletion_by : (one two three : Bool) (slot : ℕ) → PlainOption (cond one (Some (refusals.KeyNumberOutOfRange slot)) (cond two (Some (refusals.KeyNotSet slot)) (cond three (Some (refusals.LastKey slot)) None)))
deletion_by true two three slot = tt
deletion_by false true three slot = tt
deletion_by false false true slot = tt
deletion_by false false false slot = tt

deletion_plain : (m : Metadata) (which : Which) (force : Bool) → PlainOption (deletion_refusal m which force)
deletion_plain m slots.All force = tt
deletion_plain m (slots.One slot) force = deletion_by _ _ _ slot

delete_counts : (asked : Deletion) (old new : Reach) (made : Result Metadata Refusal) → DeletesKeys asked old.disk old.entropy made new.disk new.entropy → new.cabinet ≡ old.cabinet → CountsResult old (without_value made) new × Later old new
delete_counts asked old new (Ok m) h same = (tt, beside old new same h.draws.taken.later)
delete_counts asked old new (Err refusals.DeviceFault) h same = (tt, beside old new same h.draws.taken.later)
delete_counts asked old new (Err refusals.EntropyFault) h same = (h.none.rose, beside old new same h.none.later)
delete_counts asked old new (Err refusal) h same =
    uncounted_step {A = Unit {0}} old (Err refusal) new (some_uncounted (deletion_refusal asked.meta asked.which asked.force) refusal (deletion_plain asked.meta asked.which asked.force) h.cause) same h.entropy_unchanged

deleting_counts : (asked : Deletion) → Counts (TakesKeysOut asked)
deleting_counts asked old answer new h =
    subst (λ (r : Result (Unit {0}) Refusal). CountsResult old r new × Later old new) (sym h.answered) (delete_counts asked old new h.made h.deletes h.cabinet)

naming_still : (all : Bool) (slot : Option ℕ) → Still (NamesSlots all slot)
naming_still all slot = still_decision (λ r. named_slots all slot) (λ r. by_plain (named_slots all slot) (named_plain all slot))

deleting_still : (asked : Deletion) → Still (TakesKeysOut asked)
deleting_still asked = record { counts = deleting_counts asked; stays = λ old answer new h. h.holding; unstored = λ old answer new h. same_files old.cabinet new.cabinet h.cabinet }

deletes_still : (all force : Bool) (slot : Option ℕ) → Still (DeletesRow all force slot)
deletes_still all force slot =
    still_then reading_still (λ m. still_then (naming_still all slot)
    (λ which. deleting_still (record { meta = m; which = which; force = force })))

delkey_still : (all force : Bool) (slot : Option ℕ) → Still (DelkeyRow all force slot)
delkey_still all force slot = record {
  counts = λ old answer new h. (deletes_still all force (option_or slot (slot_of old.holding))).counts old answer new h;
  stays = λ old answer new h. (deletes_still all force (option_or slot (slot_of old.holding))).stays old answer new h;
  unstored = λ old answer new h. (deletes_still all force (option_or slot (slot_of old.holding))).unstored old answer new h;
}

deletes_why : (line : List ℕ) (command : Command) (asked : Deletion) (start old : Reach) (made : Result Metadata Refusal) (new : Reach) → Grounds line command start (λ refusal. deletion_refusal asked.meta asked.which asked.force ≡ Some refusal) → Since start old
    → DeletesKeys asked old.disk old.entropy made new.disk new.entropy → Why line command start (without_value made) new
deletes_why line command asked start old (Ok m) new ground since h = tt
deletes_why line command asked start old (Err refusals.DeviceFault) new ground since h = Rose-earlier start.disk.faults old.disk.faults new.disk.faults since.disk h.fails.rose
deletes_why line command asked start old (Err refusals.EntropyFault) new ground since h = Rose-earlier start.entropy.faults old.entropy.faults new.entropy.faults since.entropy h.none.rose
deletes_why line command asked start old (Err refusal) new ground since h =
    plain_cause line command start refusal new (plain_some (deletion_refusal asked.meta asked.which asked.force) refusal (deletion_plain asked.meta asked.which asked.force) h.cause) (ground refusal h.cause)

takes_why : (line : List ℕ) (command : Command) (asked : Deletion) (start old : Reach) (answer : Result (Unit {0}) Refusal) (new : Reach) → Grounds line command start (λ refusal. deletion_refusal asked.meta asked.which asked.force ≡ Some refusal) → Since start old
    → TakesKeysOut asked old answer new → Why line command start answer new
takes_why line command asked start old answer new ground since h =
    subst (λ (r : Result (Unit {0}) Refusal). Why line command start r new) (sym h.answered) (deletes_why line command asked start old h.made new ground since h.deletes)

delkey_why : (line : List ℕ) (prov : Span) (all force : Bool) (slot : Option ℕ) (old : Reach) (answer : Result (Unit {0}) Refusal) (new : Reach) → DelkeyRow all force slot old answer new → Why line (commands.Delkey prov all force slot) old answer new
delkey_why line prov all force slot old answer new h =
    let command : Command = commands.Delkey prov all force slot in
    let named : Option ℕ = option_or slot (slot_of old.holding) in
    then_why line command old answer new h (λ given middle. reading_why line command old given middle (λ refusal lacks. inl lacks))
    (λ m r1 f1 n1. let s1 : Since old r1 = reading_since old m r1 f1 in
    let ground : Grounds line command old (λ refusal. (named_slots all named ≡ Err refusal) ⊎ RefusesSlots all force named m refusal) =
    λ refusal refused. inr (record { m = m; found = reading_has old m r1 f1; refused = refused }) in
    then_since line command old r1 answer new n1
    (λ given middle. decides_why line command old (named_slots all named) r1 given middle (named_plain all named) (λ refusal is. ground refusal (inl is)))
    (λ which r2 f2 n2. takes_why line command _ old r2 answer new (λ refusal is. ground refusal (inr (record { which = which; names = sym f2.0; refused = is }))) (since_same old r1 r2 s1 f2.1) n2))

slots_by : (all force : Bool) (slot : Option ℕ) (old : Reach) (f : FindsSlots all force slot old) (refusal : Refusal) → (named_slots all slot ≡ Err refusal) ⊎ RefusesSlots all force slot f.m refusal → ⊥
slots_by all force slot old f refusal (inl h) = not_both _ f.which refusal f.names h
slots_by all force slot old f refusal (inr h) =
    let which : h.which ≡ f.which = cc (h.names, f.names) in
    not_some _ refusal f.served (subst (λ (w : Which). deletion_refusal f.m w force ≡ Some refusal) which h.refused)

delkey_fits : (all force : Bool) (slot : Option ℕ) (old : Reach) (f : FindsSlots all force (option_or slot (slot_of old.holding)) old) (refusal : Refusal) → LacksMetadata old.disk refusal ⊎ RefusesDelkey all force slot old refusal → ⊥
delkey_fits all force slot old f refusal (inl h) = has_metadata old.disk f.m refusal f.shows h
delkey_fits all force slot old f refusal (inr h) =
    let named : Option ℕ = option_or slot (slot_of old.holding) in
    slots_by all force named old f refusal
    (subst (λ (m : Metadata). (named_slots all named ≡ Err refusal) ⊎ RefusesSlots all force named m refusal) (has_same old.disk f.m h.m f.shows h.found) h.refused)

deleted_left : (holding : Holding) (all force : Bool) (slot : Option ℕ) (asked : Deletion) (start disk : DiskState) (entropy : EntropyState) (made : Result Metadata Refusal) (disk' : DiskState) (entropy' : EntropyState)
    (answer : Result (Unit {0}) Refusal) → Same start disk → HasMetadata start asked.meta → named_slots all (option_or slot (slot_of holding)) ≡ Ok asked.which → asked.force ≡ force
    → DeletesKeys asked disk entropy made disk' entropy' → answer ≡ without_value made → Left (ClearsKeys holding all force slot) start answer disk'
deleted_left holding all force slot asked start disk entropy (Ok m) disk' entropy' answer same found named forced h is =
    let overwrites : Overwrites asked disk disk' = Overwrites-Deletes asked disk entropy m disk' entropy' h in
    rw is (record {
      asked = asked;
      found = found;
      named = named;
      forced = forced;
      kept = moments_from (λ n. HoldsOldOr (HasNoKey asked.meta asked.which) n) start disk disk'.content same overwrites.kept;
      flushed = moments_from (λ n. HoldsOnceFlushed (HasNoKey asked.meta asked.which) n) start disk disk'.content same overwrites.flushed;
      cleared = λ done. record {
        m = m;
        without = h.without;
        usable = HasOtherKeys-Deletes asked disk entropy m disk' entropy' h;
        alone = alone_from (encoded m) start disk disk'.content same (KeepsAlone-Deletes asked disk entropy m disk' entropy' h);
      };
    })
deleted_left holding all force slot asked start disk entropy (Err refusals.DeviceFault) disk' entropy' answer same found named forced h is =
    let overwrites : Overwrites asked disk disk' = Overwrites-DeletesPart asked disk entropy disk' entropy' h in
    rw is (inr (record {
      asked = asked;
      found = found;
      named = named;
      forced = forced;
      kept = moments_from (λ n. HoldsOldOr (HasNoKey asked.meta asked.which) n) start disk disk'.content same overwrites.kept;
      flushed = moments_from (λ n. HoldsOnceFlushed (HasNoKey asked.meta asked.which) n) start disk disk'.content same overwrites.flushed;
      cleared = λ done. not_done done;
    }))
deleted_left holding all force slot asked start disk entropy (Err refusals.EntropyFault) disk' entropy' answer same found named forced h is =
    rw is (inl (ap (λ (d : DiskState). d.content) h.unchanged ∙ same.content))
deleted_left holding all force slot asked start disk entropy (Err refusal) disk' entropy' answer same found named forced h is =
    rw is (inl (ap (λ (d : DiskState). d.content) h.disk_unchanged ∙ same.content))

deletes_left : (holding : Holding) (all force : Bool) (slot : Option ℕ) (asked : Deletion) (start : DiskState) (old : Reach) (answer : Result (Unit {0}) Refusal) (new : Reach) → Same start old.disk
    → HasMetadata start asked.meta → named_slots all (option_or slot (slot_of holding)) ≡ Ok asked.which → asked.force ≡ force
    → TakesKeysOut asked old answer new → Left (ClearsKeys holding all force slot) start answer new.disk
deletes_left holding all force slot asked start old answer new same found named forced h =
    deleted_left holding all force slot asked start old.disk old.entropy h.made new.disk new.entropy answer same found named forced h.deletes h.answered

delkey_by_left : (holding : Holding) (all force : Bool) (slot : Option ℕ) (old : Reach) (answer : Result (Unit {0}) Refusal) (new : Reach) → DeletesRow all force (option_or slot (slot_of holding)) old answer new
    → Left (ClearsKeys holding all force slot) old.disk answer new.disk
delkey_by_left holding all force slot old answer new h =
    let Changes : Change = ClearsKeys holding all force slot in
    left_then Changes old old answer new h (before_all old) early_reading
    (λ m r1 b1 f1 n1. left_then Changes old r1 answer new n1 b1 (λ o a n q. early_decision o _ a n q)
    (λ which r2 b2 f2 n2.
    let asked : Deletion = record { meta = m; which = which; force = force } in
    deletes_left holding all force slot asked old.disk r2 answer new b2.same (reading_has old m r1 f1) (sym f2.0) refl n2))

delkey_left : (all force : Bool) (slot : Option ℕ) (old : Reach) (answer : Result (Unit {0}) Refusal) (new : Reach) → DelkeyRow all force slot old answer new → Left (ClearsKeys old.holding all force slot) old.disk answer new.disk
delkey_left all force slot old answer new h = delkey_by_left old.holding all force slot old answer new h

pub delkey_lawful : (prov : Span) (all : Bool) (force : Bool) (slot : Option ℕ) → IsLawful (commands.Delkey prov all force slot)
delkey_lawful prov all force slot = record {
  why = λ line old refusal new h.
      let command : Command = commands.Delkey prov all force slot in
      row_refused line command done_or old h.answer new refusal done_replying h.replied (delkey_why line prov all force slot old h.answer new h.row);
  did = λ line old said new h. reply_line done_or _ false h.answer said old.disk new.disk done_replying h.replied (delkey_did all force slot old h.answer new h.row);
  sound = λ line old reply new h. sound_reply done_or _ old reply new done_replying (still_sound (delkey_still all force slot)) h;
  out = λ line old gate f.
      apart_out line (commands.Delkey prov all force slot) old refl refl gate (λ refusal cabinet x. x)
      (λ refusal x. delkey_fits all force slot old f refusal x);
  tags = λ line old f needs h. false_is_true needs;
  becomes = λ line old said new gate h. stays_so line (commands.Delkey prov all force slot) old said new gate refl ((delkey_still all force slot).stays old h.answer new h.row);
  keeps = λ line old reply new gate other h. row_keeps done_or _ old reply new (delkey_still all force slot).stays h;
  left = λ line old said new h. done_left (ChangesMetadata line (commands.Delkey prov all force slot) old.cabinet.files old.holding) old.disk h.answer said new.disk h.replied (delkey_left all force slot old h.answer new h.row);
  stores = λ line old reply new h. unstored_reply _ _ old reply new (delkey_still all force slot).unstored h;
}
