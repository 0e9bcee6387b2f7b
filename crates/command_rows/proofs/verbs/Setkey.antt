-- That `setkey` is lawful.
use Rattle.std.proofs.Common.{Bool, Err, List, None, Ok, Option, Result, Some, [], ap, cond, false, inl, inr, nat_le, refl, subst, sym, true, ℕ, ◌-◌, ◌∙◌, ◌∷◌, ◌≡◌, ◌⊎◌, MatchOption, unwrap_or, ℤ}
use Rattle.block_traits.proofs.Causes.{Rose-earlier}
use Rattle.block_traits.specs.declared.disk.Event.TheVariants.{Flush, Write}
use Rattle.command_words.specs.declared.commands.Command.TheVariants as commands
use Rattle.eli_base.specs.declared.refusals.Refusal.TheVariants as refusals
use Rattle.eli_metadata.proofs.Replaced.{KeepsAlone-store, KeepsOldOr-store, KeepsOldOr-store_part}
use Rattle.key_commands.proofs.Changing.{HasNewKey-makes}
use Rattle.command_rows.specs.Rows.{AreComponents, Attachment, HasMetadata, Holding, IsAttached, LacksMetadata, Reach, RefusesFiles, Then, admitted, attachment_in, done_or, without_value}
use Rattle.command_rows.specs.Vocabulary.{CabinetState, Command, Components, DiskState, Files, HoldsOldOr, IsSectorOf, KeyChange, KeyFault, KeyWords, MasterKey, Metadata, Refusal, SetsKey, Span, UserKey, change_refusal, encoded, key_refusal, store_events, user_key}
use Rattle.command_rows.specs.verbs.Setkey.{FindsAttached, FindsNewKey, FindsOldKey, FindsSetkey, IsUsed, NeedsSlot, OpensSlot, PutsKey, RefusesChange, RefusesNewKey, RefusesNext, RefusesOldKey, RefusesSetkey, SetkeyAttachedRow, SetkeyIdleRow, SetkeyRow, SetsOpened, StoresKey, StoresMetadata, WrapsKey, WrapsOpened, if_there, slot_opened_by, or_wrong, usable}
use Rattle.command_rows.proofs.VerbLaws.{BadFiles, Change, ChangesMetadata, Counts, CountsResult, Did, DoesFrom, Grounds, IsLawful, Later, Left, PlainAnswer, PlainOption, Same, Since, Still, StoresNone, UncountedAnswer, Why, admitting_still, after_quiet, alone_from, apart_out, attached, before_all, by_attachment, by_plain, components_still, decides_why, done_left, done_replying, early_decision, early_loading, early_reading, false_is_true, has_metadata, has_same, key_option, key_plain, left_then, loading_parts, loading_since, loading_why, may_lack_memory, moments_from, no_bad_file, not_both, not_done, not_some, nothing_done, or_plain, part_did, parts_same, plain_cause, plain_some, quiet_loading, quiet_reading, reading_has, reading_since, reading_still, reading_why, reply_line, row_keeps, row_refused, same_disk, same_files, same_quiet, since_same, some_uncounted, sound_reply, stays_so, still_decision, still_sound, still_then, then_since, then_why, unattached, uncounted_step, unstored_reply}

same_store : (disk start : DiskState) (bytes : List ℕ) → disk.size ≡ start.size → store_events disk bytes ≡ store_events start bytes
same_store disk start bytes size = ap (λ (n : ℕ). Write (n - 1) bytes ∷ Flush ∷ []) size

stored_did : (asked : KeyChange) (start disk : DiskState) (made : Result Metadata Refusal) (disk' : DiskState) (answer : Result (Unit {0}) Refusal) → disk.size ≡ start.size → SetsKey asked disk made disk' → answer ≡ without_value made
    → Did (StoresMetadata start) false disk answer disk'
stored_did asked start disk (Ok m) disk' answer size h is =
    rw is (record { events = store_events disk (encoded m); logs = h.logs; are = record { m = m; are = same_store disk start (encoded m) size } })
stored_did asked start disk (Err refusals.DeviceFault) disk' answer size h is =
    rw is (part_did (StoresMetadata start) false (store_events disk (encoded h.m)) disk disk' h.fails (record { m = h.m; are = same_store disk start (encoded h.m) size }))
stored_did asked start disk (Err refusal) disk' answer size h is = rw is (nothing_done (StoresMetadata start) false refusal disk disk' (same_disk disk disk' h.unchanged))

stores_did : (start : DiskState) (asked : KeyChange) → DoesFrom (StoresMetadata start) start (StoresKey asked)
stores_did start asked old answer new size h = stored_did asked start old.disk h.made new.disk answer size h.sets h.answered

setkey_idle_did : (start : DiskState) (line : List ℕ) (iterations : Option ℤ) (slot : Option ℕ) (words fresh : KeyWords) → DoesFrom (StoresMetadata start) start (SetkeyIdleRow line iterations slot words fresh)
setkey_idle_did start line iterations slot words fresh =
    after_quiet (StoresMetadata start) start quiet_reading
    (λ m. after_quiet (StoresMetadata start) start (λ old answer new h. same_quiet old new h.1)
    (λ settings. after_quiet (StoresMetadata start) start (λ old answer new h. same_quiet old new h.1)
    (λ done. after_quiet (StoresMetadata start) start (quiet_loading line words)
    (λ parts. after_quiet (StoresMetadata start) start (quiet_loading line fresh)
    (λ next. after_quiet (StoresMetadata start) start (λ old answer new h. same_quiet old new h.1)
    (λ found. stores_did start (record { meta = m; master = found.0.bytes; slot = unwrap_or slot found.1; iterations = iterations; parts = next })))))))

setkey_attached_did : (start : DiskState) (line : List ℕ) (iterations : Option ℤ) (slot : ℕ) (master : List ℕ) (fresh : KeyWords) → DoesFrom (StoresMetadata start) start (SetkeyAttachedRow line iterations slot master fresh)
setkey_attached_did start line iterations slot master fresh =
    after_quiet (StoresMetadata start) start quiet_reading
    (λ m. after_quiet (StoresMetadata start) start (λ old answer new h. same_quiet old new h.1)
    (λ settings. after_quiet (StoresMetadata start) start (λ old answer new h. same_quiet old new h.1)
    (λ done. after_quiet (StoresMetadata start) start (quiet_loading line fresh)
    (λ parts. stores_did start (record { meta = m; master = master; slot = slot; iterations = iterations; parts = parts })))))

setkey_did : (line : List ℕ) (iterations : Option ℤ) (slot : Option ℕ) (words fresh : KeyWords) (old : Reach) (answer : Result (Unit {0}) Refusal) (new : Reach)
    → SetkeyRow line iterations slot words fresh old answer new → Did (StoresMetadata old.disk) false old.disk answer new.disk
setkey_did line iterations slot words fresh old answer new h =
    by_attachment old.holding _ _ (Did (StoresMetadata old.disk) false old.disk answer new.disk) (λ is row. setkey_idle_did old.disk line iterations slot words fresh old answer new refl row)
    (λ a is row. setkey_attached_did old.disk line iterations (unwrap_or slot a.slot) a.keying.master fresh old answer new refl row) h

there_by : (slot : ℕ) (there : Bool) → PlainAnswer {A = Unit {0}} (cond there (Ok tt) (Err (refusals.KeyNumberOutOfRange slot)))
there_by slot true = tt
there_by slot false = tt

there_plain : (slot : Option ℕ) → PlainAnswer (if_there slot)
there_plain None = tt
there_plain (Some slot) = there_by slot (nat_le slot 1)

wrong_plain : (found : Option (MasterKey × ℕ)) → PlainAnswer (or_wrong found)
wrong_plain None = tt
wrong_plain (Some found) = tt

opened_plain : (m : Metadata) (key : Result UserKey KeyFault) → PlainAnswer (slot_opened_by m key)
opened_plain m (Err fault) = key_plain fault
opened_plain m (Ok key) = wrong_plain _

change_by : (given : Bool) (key : Result UserKey KeyFault) → PlainOption (cond given (Some refusals.IterationsNeedOneKey) (key_refusal key))
change_by true key = tt
change_by false key = key_option key

change_plain : (asked : KeyChange) → PlainOption (change_refusal asked)
change_plain asked = change_by _ _

set_uncounted : (asked : KeyChange) (disk : DiskState) (made : Result Metadata Refusal) (disk' : DiskState) → SetsKey asked disk made disk' → UncountedAnswer (without_value made)
set_uncounted asked disk (Ok m) disk' h = tt
set_uncounted asked disk (Err refusals.DeviceFault) disk' h = tt
set_uncounted asked disk (Err refusal) disk' h = some_uncounted (change_refusal asked) refusal (change_plain asked) h.cause

setting_counts : (asked : KeyChange) → Counts (StoresKey asked)
setting_counts asked old answer new h =
    uncounted_step old answer new (subst (λ (r : Result (Unit {0}) Refusal). UncountedAnswer r) (sym h.answered) (set_uncounted asked old.disk h.made new.disk h.sets)) h.cabinet h.entropy

using_still : (m : Metadata) → Still (IsUsed m)
using_still m = still_decision (λ r. usable m r.disk.size) (λ r. by_plain _ (or_plain _))

slot_still : (slot : Option ℕ) → Still (NeedsSlot slot)
slot_still slot = still_decision (λ r. if_there slot) (λ r. by_plain (if_there slot) (there_plain slot))

opening_still : (m : Metadata) (parts : Components) → Still (OpensSlot m parts)
opening_still m parts = still_decision (λ r. slot_opened_by m (user_key parts m.salt m.iterations)) (λ r. by_plain _ (opened_plain m (user_key parts m.salt m.iterations)))

setting_still : (asked : KeyChange) → Still (StoresKey asked)
setting_still asked = record { counts = setting_counts asked; stays = λ old answer new h. h.holding; unstored = λ old answer new h. same_files old.cabinet new.cabinet h.cabinet }

setkey_idle_still : (line : List ℕ) (iterations : Option ℤ) (slot : Option ℕ) (words fresh : KeyWords) → Still (SetkeyIdleRow line iterations slot words fresh)
setkey_idle_still line iterations slot words fresh =
    still_then reading_still (λ m. still_then (admitting_still m None)
    (λ settings. still_then (slot_still slot) (λ done. still_then (components_still line words)
    (λ parts. still_then (components_still line fresh) (λ next. still_then (opening_still m parts)
    (λ found. setting_still (record { meta = m; master = found.0.bytes; slot = unwrap_or slot found.1; iterations = iterations; parts = next })))))))

setkey_attached_still : (line : List ℕ) (iterations : Option ℤ) (slot : ℕ) (master : List ℕ) (fresh : KeyWords) → Still (SetkeyAttachedRow line iterations slot master fresh)
setkey_attached_still line iterations slot master fresh =
    still_then reading_still (λ m. still_then (using_still m)
    (λ settings. still_then (slot_still (Some slot)) (λ done. still_then (components_still line fresh)
    (λ parts. setting_still (record { meta = m; master = master; slot = slot; iterations = iterations; parts = parts })))))

setkey_still : (line : List ℕ) (iterations : Option ℤ) (slot : Option ℕ) (words fresh : KeyWords) → Still (SetkeyRow line iterations slot words fresh)
setkey_still line iterations slot words fresh = record {
  counts = λ old answer new h. by_attachment old.holding _ _ (CountsResult old answer new × Later old new) (λ is row. (setkey_idle_still line iterations slot words fresh).counts old answer new row)
      (λ a is row. (setkey_attached_still line iterations (unwrap_or slot a.slot) a.keying.master fresh).counts old answer new row) h;
  stays = λ old answer new h. by_attachment old.holding _ _ (new.holding ≡ old.holding) (λ is row. (setkey_idle_still line iterations slot words fresh).stays old answer new row)
      (λ a is row. (setkey_attached_still line iterations (unwrap_or slot a.slot) a.keying.master fresh).stays old answer new row) h;
  unstored = λ old answer new h. by_attachment old.holding _ _ (StoresNone old.cabinet new.cabinet) (λ is row. (setkey_idle_still line iterations slot words fresh).unstored old answer new row)
      (λ a is row. (setkey_attached_still line iterations (unwrap_or slot a.slot) a.keying.master fresh).unstored old answer new row) h;
}

sets_why : (line : List ℕ) (command : Command) (asked : KeyChange) (start old : Reach) (made : Result Metadata Refusal) (new : Reach) → Grounds line command start (λ refusal. change_refusal asked ≡ Some refusal) → Since start old
    → SetsKey asked old.disk made new.disk → Why line command start (without_value made) new
sets_why line command asked start old (Ok m) new ground since h = tt
sets_why line command asked start old (Err refusals.DeviceFault) new ground since h = Rose-earlier start.disk.faults old.disk.faults new.disk.faults since.disk h.fails.rose
sets_why line command asked start old (Err refusal) new ground since h =
    plain_cause line command start refusal new (plain_some (change_refusal asked) refusal (change_plain asked) h.cause) (ground refusal h.cause)

stores_why : (line : List ℕ) (command : Command) (asked : KeyChange) (start old : Reach) (answer : Result (Unit {0}) Refusal) (new : Reach) → Grounds line command start (λ refusal. change_refusal asked ≡ Some refusal) → Since start old
    → StoresKey asked old answer new → Why line command start answer new
stores_why line command asked start old answer new ground since h =
    subst (λ (r : Result (Unit {0}) Refusal). Why line command start r new) (sym h.answered) (sets_why line command asked start old h.made new ground since h.sets)

-- what is refused of an idle drawer, and which files
abbrev ChangesIdle : List ℕ → Option ℤ → Option ℕ → KeyWords → KeyWords → Metadata → Reach → Refusal → Type 0
ChangesIdle line iterations slot words fresh m old refusal =
    (admitted m old.disk.size None ≡ Err refusal) ⊎ (if_there slot ≡ Err refusal) ⊎ RefusesOldKey line words m old refusal ⊎ RefusesNext line iterations slot words fresh m old refusal

abbrev EitherFiles : List ℕ → KeyWords → KeyWords → CabinetState → Refusal → CabinetState → Type 0
EitherFiles line words fresh old refusal new = RefusesFiles line words old refusal new ⊎ RefusesFiles line fresh old refusal new

-- the files of both keys are loaded
opens_why : (line : List ℕ) (command : Command) (iterations : Option ℤ) (slot : Option ℕ) (words fresh : KeyWords) (m : Metadata) (parts next_parts : Components) (start old : Reach) (answer : Result (Unit {0}) Refusal) (new : Reach)
    → Grounds line command start (ChangesIdle line iterations slot words fresh m start) → AreComponents start.cabinet.files line words parts → AreComponents start.cabinet.files line fresh next_parts → Since start old
    → Then (OpensSlot m parts) (λ found. SetsOpened line iterations slot m next_parts found) old answer new → Why line command start answer new
opens_why line command iterations slot words fresh m parts next_parts start old answer new ground named next_named since h =
    then_since line command start old answer new h
    (λ given middle first. decides_why line command start (slot_opened_by m (user_key parts m.salt m.iterations)) old given middle (opened_plain m _)
    (λ refusal is. ground refusal (inr (inr (inl (record { parts = parts; named = named; refused = is }))))) first)
    (λ found middle first next. stores_why line command _ start middle answer new
    (λ refusal is. ground refusal (inr (inr (inr (record {
      parts = parts;
      named = named;
      found = found;
      opens = sym first.0;
      refuses = record { parts = next_parts; named = next_named; refused = is };
    }))))) (since_same start old middle since first.1) next)

setkey_idle_why : (line : List ℕ) (command : Command) (iterations : Option ℤ) (slot : Option ℕ) (words fresh : KeyWords) (old : Reach) (answer : Result (Unit {0}) Refusal) (new : Reach) → may_lack_memory command ≡ true
    → BadFiles line command old (EitherFiles line words fresh old.cabinet) → Grounds line command old (LacksMetadata old.disk) → ((m : Metadata) → HasMetadata old.disk m → Grounds line command old (ChangesIdle line iterations slot words fresh m old))
    → SetkeyIdleRow line iterations slot words fresh old answer new → Why line command old answer new
setkey_idle_why line command iterations slot words fresh old answer new memory bad lacks grounds h =
    then_why line command old answer new h (λ given middle. reading_why line command old given middle lacks)
    (λ m r1 f1 n1. let s1 : Since old r1 = reading_since old m r1 f1 in
    let ground : Grounds line command old (ChangesIdle line iterations slot words fresh m old) = grounds m (reading_has old m r1 f1) in
    then_since line command old r1 answer new n1
    (λ given middle. decides_why line command old (admitted m r1.disk.size None) r1 given middle (or_plain _) (λ refusal is. ground refusal (inl (subst (λ (n : ℕ). admitted m n None ≡ Err refusal) s1.size is))))
    (λ settings r2 f2 n2. let s2 : Since old r2 = since_same old r1 r2 s1 f2.1 in
    then_since line command old r2 answer new n2
    (λ given middle. decides_why line command old (if_there slot) r2 given middle (there_plain slot) (λ refusal is. ground refusal (inr (inl is))))
    (λ done r3 f3 n3. let s3 : Since old r3 = since_same old r2 r3 s2 f3.1 in
    then_since line command old r3 answer new n3
    (λ given middle. loading_why line command words old r3 given middle memory (λ refusal cabinet refuses. bad refusal cabinet (inl refuses)) s3)
    (λ parts r4 f4 n4. let s4 : Since old r4 = loading_since line words old r3 (Ok parts) r4 s3 f4 in
    then_since line command old r4 answer new n4
    (λ given middle. loading_why line command fresh old r4 given middle memory (λ refusal cabinet refuses. bad refusal cabinet (inr refuses)) s4)
    (λ next r5 f5 n5. opens_why line command iterations slot words fresh m parts next old r5 answer new ground
    (loading_parts line words old r3 parts r4 s3.files f4) (loading_parts line fresh old r4 next r5 s4.files f5) (loading_since line fresh old r4 (Ok next) r5 s4 f5) n5)))))

-- what is refused of an attached drawer, for this slot and master key
abbrev ChangesAttached : List ℕ → Option ℤ → ℕ → List ℕ → KeyWords → Metadata → Reach → Refusal → Type 0
ChangesAttached line iterations slot master fresh m old refusal = (usable m old.disk.size ≡ Err refusal) ⊎ (if_there (Some slot) ≡ Err refusal) ⊎ RefusesNewKey line iterations slot master fresh m old refusal

setkey_attached_why : (line : List ℕ) (command : Command) (iterations : Option ℤ) (slot : ℕ) (master : List ℕ) (fresh : KeyWords) (old : Reach) (answer : Result (Unit {0}) Refusal) (new : Reach) → may_lack_memory command ≡ true
    → BadFiles line command old (RefusesFiles line fresh old.cabinet) → Grounds line command old (LacksMetadata old.disk) → ((m : Metadata) → HasMetadata old.disk m → Grounds line command old (ChangesAttached line iterations slot master fresh m old))
    → SetkeyAttachedRow line iterations slot master fresh old answer new → Why line command old answer new
setkey_attached_why line command iterations slot master fresh old answer new memory bad lacks grounds h =
    then_why line command old answer new h (λ given middle. reading_why line command old given middle lacks)
    (λ m r1 f1 n1. let s1 : Since old r1 = reading_since old m r1 f1 in
    let ground : Grounds line command old (ChangesAttached line iterations slot master fresh m old) = grounds m (reading_has old m r1 f1) in
    then_since line command old r1 answer new n1
    (λ given middle. decides_why line command old (usable m r1.disk.size) r1 given middle (or_plain _) (λ refusal is. ground refusal (inl (subst (λ (n : ℕ). usable m n ≡ Err refusal) s1.size is))))
    (λ settings r2 f2 n2. let s2 : Since old r2 = since_same old r1 r2 s1 f2.1 in
    then_since line command old r2 answer new n2
    (λ given middle. decides_why line command old (if_there (Some slot)) r2 given middle (there_plain (Some slot)) (λ refusal is. ground refusal (inr (inl is))))
    (λ done r3 f3 n3. let s3 : Since old r3 = since_same old r2 r3 s2 f3.1 in
    then_since line command old r3 answer new n3 (λ given middle. loading_why line command fresh old r3 given middle memory bad s3)
    (λ parts r4 f4 n4. stores_why line command _ old r4 answer new
    (λ refusal is. ground refusal (inr (inr (record { parts = parts; named = loading_parts line fresh old r3 parts r4 s3.files f4; refused = is })))) (loading_since line fresh old r3 (Ok parts) r4 s3 f4) n4))))

setkey_why : (line : List ℕ) (prov : Span) (iterations : Option ℤ) (slot : Option ℕ) (words fresh : KeyWords) (old : Reach) (answer : Result (Unit {0}) Refusal) (new : Reach) → SetkeyRow line iterations slot words fresh old answer new
    → Why line (commands.Setkey prov iterations slot words fresh) old answer new
setkey_why line prov iterations slot words fresh old answer new h =
    let command : Command = commands.Setkey prov iterations slot words fresh in
    by_attachment old.holding _ _ (Why line command old answer new)
    (λ is row. setkey_idle_why line command iterations slot words fresh old answer new refl
    (λ refusal cabinet bad. unattached old.holding _ _ is bad) (λ refusal lacks. inl lacks)
    (λ m has refusal refused. inr (record { m = m; found = has; refused = unattached old.holding _ _ is refused })) row)
    (λ a is row. setkey_attached_why line command iterations (unwrap_or slot a.slot) a.keying.master fresh old answer new refl
    (λ refusal cabinet bad. attached old.holding _ _ a is bad) (λ refusal lacks. inl lacks)
    (λ m has refusal refused. inr (record { m = m; found = has; refused = attached old.holding _ _ a is refused })) row) h

new_key_fits : (line : List ℕ) (iterations : Option ℤ) (slot : ℕ) (master : List ℕ) (fresh : KeyWords) (m : Metadata) (old : Reach) (f : FindsNewKey line iterations slot master fresh m old) (refusal : Refusal)
    → RefusesNewKey line iterations slot master fresh m old refusal → ⊥
new_key_fits line iterations slot master fresh m old f refusal h =
    let parts : h.parts ≡ f.parts = parts_same line fresh old.cabinet f.parts h.parts f.names h.named in
    not_some _ refusal f.served (subst (λ (p : Components). change_refusal (record { meta = m; master = master; slot = slot; iterations = iterations; parts = p }) ≡ Some refusal) parts h.refused)

old_key_fits : (line : List ℕ) (iterations : Option ℤ) (slot : Option ℕ) (words fresh : KeyWords) (m : Metadata) (old : Reach) (f : FindsOldKey line iterations slot words fresh m old) (refusal : Refusal)
    → (admitted m old.disk.size None ≡ Err refusal) ⊎ (if_there slot ≡ Err refusal) ⊎ RefusesOldKey line words m old refusal ⊎ RefusesNext line iterations slot words fresh m old refusal → ⊥
old_key_fits line iterations slot words fresh m old f refusal (inl h) = not_both _ f.settings refusal f.admits h
old_key_fits line iterations slot words fresh m old f refusal (inr (inl h)) = not_both _ tt refusal f.there h
old_key_fits line iterations slot words fresh m old f refusal (inr (inr (inl h))) =
    let parts : h.parts ≡ f.parts = parts_same line words old.cabinet f.parts h.parts f.names h.named in
    not_both _ f.found refusal f.opens (subst (λ (p : Components). slot_opened_by m (user_key p m.salt m.iterations) ≡ Err refusal) parts h.refused)
old_key_fits line iterations slot words fresh m old f refusal (inr (inr (inr h))) =
    let parts : h.parts ≡ f.parts = parts_same line words old.cabinet f.parts h.parts f.names h.named in
    let opens : slot_opened_by m (user_key f.parts m.salt m.iterations) ≡ Ok h.found = subst (λ (p : Components). slot_opened_by m (user_key p m.salt m.iterations) ≡ Ok h.found) parts h.opens in
    let found : h.found ≡ f.found = cc (f.opens, opens) in
    new_key_fits line iterations (unwrap_or slot f.found.1) f.found.0.bytes fresh m old f.next refusal
    (subst (λ (k : MasterKey × ℕ). RefusesNewKey line iterations (unwrap_or slot k.1) k.0.bytes fresh m old refusal) found h.refuses)

attached_fits : (line : List ℕ) (iterations : Option ℤ) (slot : Option ℕ) (words fresh : KeyWords) (a : Attachment) (m : Metadata) (old : Reach)
    → FindsAttached line iterations (unwrap_or slot a.slot) a.keying.master fresh m old → (refusal : Refusal) → RefusesChange (IsAttached a) line iterations slot words fresh m old refusal → ⊥
attached_fits line iterations slot words fresh a m old f refusal (inl h) = not_both _ f.settings refusal f.uses h
attached_fits line iterations slot words fresh a m old f refusal (inr (inl h)) = not_both _ tt refusal f.there h
attached_fits line iterations slot words fresh a m old f refusal (inr (inr h)) = new_key_fits line iterations (unwrap_or slot a.slot) a.keying.master fresh m old f.next refusal h

-- by what is attached
change_fits : (found : Option Attachment) (line : List ℕ) (iterations : Option ℤ) (slot : Option ℕ) (words fresh : KeyWords) (m : Metadata) (old : Reach)
    → MatchOption found (FindsOldKey line iterations slot words fresh m old) (λ a. FindsAttached line iterations (unwrap_or slot a.slot) a.keying.master fresh m old) → (refusal : Refusal)
    → MatchOption found
    ((admitted m old.disk.size None ≡ Err refusal) ⊎ (if_there slot ≡ Err refusal) ⊎ RefusesOldKey line words m old refusal ⊎ RefusesNext line iterations slot words fresh m old refusal)
    (λ a. (usable m old.disk.size ≡ Err refusal) ⊎ (if_there (Some (unwrap_or slot a.slot)) ≡ Err refusal) ⊎ RefusesNewKey line iterations (unwrap_or slot a.slot) a.keying.master fresh m old refusal) → ⊥
change_fits None line iterations slot words fresh m old f refusal h = old_key_fits line iterations slot words fresh m old f refusal h
change_fits (Some a) line iterations slot words fresh m old f refusal h = attached_fits line iterations slot words fresh a m old f refusal h

setkey_fits : (line : List ℕ) (iterations : Option ℤ) (slot : Option ℕ) (words fresh : KeyWords) (old : Reach) (f : FindsSetkey line iterations slot words fresh old) (refusal : Refusal)
    → LacksMetadata old.disk refusal ⊎ RefusesSetkey line iterations slot words fresh old refusal → ⊥
setkey_fits line iterations slot words fresh old f refusal (inl h) = has_metadata old.disk f.m refusal f.shows h
setkey_fits line iterations slot words fresh old f refusal (inr h) =
    change_fits (attachment_in old.holding) line iterations slot words fresh f.m old f.change refusal
    (subst (λ (m : Metadata). RefusesChange old.holding line iterations slot words fresh m old refusal) (has_same old.disk f.m h.m f.shows h.found) h.refused)

both_load : (found : Option Attachment) (line : List ℕ) (iterations : Option ℤ) (slot : Option ℕ) (words fresh : KeyWords) (m : Metadata) (old : Reach)
    → MatchOption found (FindsOldKey line iterations slot words fresh m old) (λ a. FindsAttached line iterations (unwrap_or slot a.slot) a.keying.master fresh m old) → (refusal : Refusal) (new : CabinetState)
    → MatchOption found (RefusesFiles line words old.cabinet refusal new ⊎ RefusesFiles line fresh old.cabinet refusal new) (λ a. RefusesFiles line fresh old.cabinet refusal new) → ⊥
both_load None line iterations slot words fresh m old f refusal new (inl h) = no_bad_file line words f.parts old.cabinet refusal new f.names h
both_load None line iterations slot words fresh m old f refusal new (inr h) = no_bad_file line fresh f.next.parts old.cabinet refusal new f.next.names h
both_load (Some a) line iterations slot words fresh m old f refusal new h = no_bad_file line fresh f.next.parts old.cabinet refusal new f.next.names h

-- what a change of a key stands on
record Begins (holding : Holding) (told : Option Files) (line : List ℕ) (iterations : Option ℤ) (slot : Option ℕ) (words fresh : KeyWords) (start : DiskState) (asked : KeyChange) : Type 0 where
  found : HasMetadata start asked.meta
  wraps : WrapsKey holding told line words slot asked
  named : AreComponents told line fresh asked.parts
  given : asked.iterations ≡ iterations

stored_left : (holding : Holding) (told : Option Files) (line : List ℕ) (iterations : Option ℤ) (slot : Option ℕ) (words fresh : KeyWords) (asked : KeyChange) (start disk : DiskState) (made : Result Metadata Refusal) (disk' : DiskState)
    (answer : Result (Unit {0}) Refusal) → Same start disk → Begins holding told line iterations slot words fresh start asked → SetsKey asked disk made disk' → answer ≡ without_value made
    → Left (PutsKey holding told line iterations slot words fresh) start answer disk'
stored_left holding told line iterations slot words fresh asked start disk (Ok m) disk' answer same begins h is =
    rw is (record {
      asked = asked;
      found = begins.found;
      wraps = begins.wraps;
      named = begins.named;
      given = begins.given;
      m = m;
      makes = h.makes;
      usable = HasNewKey-makes asked m h.makes;
      kept = moments_from (λ n. HoldsOldOr (IsSectorOf m) n) start disk disk'.content same (KeepsOldOr-store disk disk' m h.logs);
      alone = λ done. alone_from (encoded m) start disk disk'.content same (KeepsAlone-store disk disk' m h.logs);
    })
stored_left holding told line iterations slot words fresh asked start disk (Err refusals.DeviceFault) disk' answer same begins h is =
    rw is (inr (record {
      asked = asked;
      found = begins.found;
      wraps = begins.wraps;
      named = begins.named;
      given = begins.given;
      m = h.m;
      makes = h.makes;
      usable = HasNewKey-makes asked h.m h.makes;
      kept = moments_from (λ n. HoldsOldOr (IsSectorOf h.m) n) start disk disk'.content same (KeepsOldOr-store_part disk disk' h.m h.fails);
      alone = λ done. not_done done;
    }))
stored_left holding told line iterations slot words fresh asked start disk (Err refusal) disk' answer same begins h is =
    rw is (inl (ap (λ (d : DiskState). d.content) h.unchanged ∙ same.content))

opened_as : (found : MasterKey × ℕ) (o : Option (MasterKey × ℕ)) → Ok found ≡ or_wrong o → o ≡ Some found
opened_as found None h = absurd (let no : ⊥ = cc h in no)
opened_as found (Some other) h = cc h

wraps_opened : (told : Option Files) (line : List ℕ) (words : KeyWords) (slot : Option ℕ) (asked : KeyChange) (parts : Components) (found : MasterKey × ℕ) (derived : Result UserKey KeyFault) → AreComponents told line words parts
    → user_key parts asked.meta.salt asked.meta.iterations ≡ derived → Ok found ≡ slot_opened_by asked.meta derived → asked.master ≡ found.0.bytes → asked.slot ≡ unwrap_or slot found.1
    → WrapsOpened told line words slot asked
wraps_opened told line words slot asked parts found (Err fault) named is h master target = absurd (let no : ⊥ = cc h in no)
wraps_opened told line words slot asked parts found (Ok key) named is h master target =
    record { parts = parts; named = named; key = key; derived = is; found = found; opens = opened_as found _ h; master = master; target = target }

setkey_idle_left : (line : List ℕ) (iterations : Option ℤ) (slot : Option ℕ) (holding : Holding) (words fresh : KeyWords) (old : Reach) (answer : Result (Unit {0}) Refusal) (new : Reach) → attachment_in holding ≡ None
    → SetkeyIdleRow line iterations slot words fresh old answer new → Left (PutsKey holding old.cabinet.files line iterations slot words fresh) old.disk answer new.disk
setkey_idle_left line iterations slot holding words fresh old answer new is h =
    let Changes : Change = PutsKey holding old.cabinet.files line iterations slot words fresh in
    left_then Changes old old answer new h (before_all old) early_reading
    (λ m r1 b1 f1 n1. left_then Changes old r1 answer new n1 b1 (λ o a n q. early_decision o _ a n q)
    (λ settings r2 b2 f2 n2. left_then Changes old r2 answer new n2 b2 (λ o a n q. early_decision o _ a n q)
    (λ done r3 b3 f3 n3. left_then Changes old r3 answer new n3 b3 (early_loading line words)
    (λ parts r4 b4 f4 n4. left_then Changes old r4 answer new n4 b4 (early_loading line fresh)
    (λ next r5 b5 f5 n5. left_then Changes old r5 answer new n5 b5 (λ o a n q. early_decision o _ a n q)
    (λ found r6 b6 f6 n6.
    let asked : KeyChange = record { meta = m; master = found.0.bytes; slot = unwrap_or slot found.1; iterations = iterations; parts = next } in
    let begins : Begins holding old.cabinet.files line iterations slot words fresh old.disk asked = record {
      found = reading_has old m r1 f1;
      wraps = unattached holding _ _ is (wraps_opened old.cabinet.files line words slot asked parts found (user_key parts m.salt m.iterations) (loading_parts line words old r3 parts r4 b3.files f4) refl f6.0 refl refl);
      named = loading_parts line fresh old r4 next r5 b4.files f5;
      given = refl;
    } in
    stored_left holding old.cabinet.files line iterations slot words fresh asked old.disk r6.disk n6.made new.disk answer b6.same begins n6.sets n6.answered))))))

setkey_attached_left : (line : List ℕ) (iterations : Option ℤ) (slot : Option ℕ) (holding : Holding) (target : ℕ) (master : List ℕ) (words fresh : KeyWords) (old : Reach) (answer : Result (Unit {0}) Refusal) (new : Reach)
    → ((asked : KeyChange) → asked.master ≡ master → asked.slot ≡ target → WrapsKey holding old.cabinet.files line words slot asked)
    → SetkeyAttachedRow line iterations target master fresh old answer new → Left (PutsKey holding old.cabinet.files line iterations slot words fresh) old.disk answer new.disk
setkey_attached_left line iterations slot holding target master words fresh old answer new wraps h =
    let Changes : Change = PutsKey holding old.cabinet.files line iterations slot words fresh in
    left_then Changes old old answer new h (before_all old) early_reading
    (λ m r1 b1 f1 n1. left_then Changes old r1 answer new n1 b1 (λ o a n q. early_decision o _ a n q)
    (λ settings r2 b2 f2 n2. left_then Changes old r2 answer new n2 b2 (λ o a n q. early_decision o _ a n q)
    (λ done r3 b3 f3 n3. left_then Changes old r3 answer new n3 b3 (early_loading line fresh)
    (λ parts r4 b4 f4 n4.
    let asked : KeyChange = record { meta = m; master = master; slot = target; iterations = iterations; parts = parts } in
    let begins : Begins holding old.cabinet.files line iterations slot words fresh old.disk asked =
    record { found = reading_has old m r1 f1; wraps = wraps asked refl refl; named = loading_parts line fresh old r3 parts r4 b3.files f4; given = refl } in
    stored_left holding old.cabinet.files line iterations slot words fresh asked old.disk r4.disk n4.made new.disk answer b4.same begins n4.sets n4.answered))))

setkey_left : (line : List ℕ) (iterations : Option ℤ) (slot : Option ℕ) (words fresh : KeyWords) (old : Reach) (answer : Result (Unit {0}) Refusal) (new : Reach)
    → SetkeyRow line iterations slot words fresh old answer new → Left (PutsKey old.holding old.cabinet.files line iterations slot words fresh) old.disk answer new.disk
setkey_left line iterations slot words fresh old answer new h =
    by_attachment old.holding _ _ (Left (PutsKey old.holding old.cabinet.files line iterations slot words fresh) old.disk answer new.disk)
    (λ is row. setkey_idle_left line iterations slot old.holding words fresh old answer new is row)
    (λ a is row. setkey_attached_left line iterations slot old.holding (unwrap_or slot a.slot) a.keying.master words fresh old answer new (λ asked master target. attached old.holding _ _ a is (master, target)) row) h

pub setkey_lawful : (prov : Span) (iterations : Option ℤ) (slot : Option ℕ) (words : KeyWords) (fresh : KeyWords) → IsLawful (commands.Setkey prov iterations slot words fresh)
setkey_lawful prov iterations slot words fresh = record {
  why = λ line old refusal new h.
      let command : Command = commands.Setkey prov iterations slot words fresh in
      row_refused line command done_or old h.answer new refusal done_replying h.replied (setkey_why line prov iterations slot words fresh old h.answer new h.row);
  did = λ line old said new h. reply_line done_or _ false h.answer said old.disk new.disk done_replying h.replied (setkey_did line iterations slot words fresh old h.answer new h.row);
  sound = λ line old reply new h. sound_reply done_or _ old reply new done_replying (still_sound (setkey_still line iterations slot words fresh)) h;
  out = λ line old gate f.
      apart_out line (commands.Setkey prov iterations slot words fresh) old refl refl gate
      (λ refusal cabinet x. both_load (attachment_in old.holding) line iterations slot words fresh f.m old f.change refusal cabinet x) (λ refusal x. setkey_fits line iterations slot words fresh old f refusal x);
  tags = λ line old f needs h. false_is_true needs;
  becomes = λ line old said new gate h. stays_so line (commands.Setkey prov iterations slot words fresh) old said new gate refl ((setkey_still line iterations slot words fresh).stays old h.answer new h.row);
  keeps = λ line old reply new gate other h. row_keeps done_or _ old reply new (setkey_still line iterations slot words fresh).stays h;
  left = λ line old said new h. done_left (ChangesMetadata line (commands.Setkey prov iterations slot words fresh) old.cabinet.files old.holding) old.disk h.answer said new.disk h.replied (setkey_left line iterations slot words fresh old h.answer new h.row);
  stores = λ line old reply new h. unstored_reply _ _ old reply new (setkey_still line iterations slot words fresh).unstored h;
}
