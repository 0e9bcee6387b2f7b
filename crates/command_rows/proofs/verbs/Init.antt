-- That `init` is lawful.
use Rattle.std.proofs.Common.{Bool, Err, List, None, Ok, Option, Result, Some, [], ap, arith, cond, false, inl, inr, refl, subst, sym, true, ℕ, ◌*◌, ◌∙◌, ◌≡◌, ◌≤◌, is_some, ℤ}
use Rattle.block_traits.proofs.Causes.{Rose-earlier}
use Rattle.command_words.specs.declared.commands.Command.TheVariants as commands
use Rattle.eli_base.specs.declared.algorithms.Cipher.{Cipher}
use Rattle.eli_base.specs.declared.refusals.Refusal.TheVariants as refusals
use Rattle.eli_metadata.proofs.Replaced.{KeepsOldOr-replace, KeepsOldOr-replace_part}
use Rattle.key_commands.proofs.Making.{IsUsable-makes, KeepsAlone-replace}
use Rattle.command_rows.specs.Rows.{AreComponents, BacksUp, GoesOn, MakesProvider, Reach, RefusesFiles, WritesMetadata, done_or}
use Rattle.command_rows.specs.Vocabulary.{Auth, CabinetState, Command, Components, DiskState, Files, HoldsOldOr, InitOptions, Inits, IsSectorOf, IsUsable, KeyFault, KeyWords, Logs, Metadata, Refusal, Span, UserKey, early_refusal, encoded, key_refusal, master_key_in, replace_events, user_key}
use Rattle.command_rows.specs.verbs.Init.{FindsNew, InitRow, PutsNew, RefusesNew}
use Rattle.command_rows.proofs.VerbLaws.{BadFiles, Change, ChangesMetadata, Counts, CountsResult, Did, Grounds, IsLawful, Later, Left, PlainOption, Same, Since, Still, StillBut, Stored, Why, alone_from, apart_out, before_all, beside, bytes_stored, components_still, decision_counts, did_then, done_left, done_replying, early_loading, false_is_true, key_option, left_then, loading_parts, loading_since, loading_why, may_lack_memory, moments_from, no_bad_file, not_done, not_some, nothing_done, part_did, parts_same, plain_cause, plain_some, quiet_loading, reply_line, row_keeps, row_refused, same_disk, same_files, some_uncounted, sound_reply, stays_so, still_but_sound, still_but_then, storing_counts, storing_why, then_since, then_why, uncounted_step}

-- the metadata were written, and then the backup was stored or refused
stored_did : (line : List ℕ) (backup : Option Span) (m : Metadata) (start : DiskState) (old : Reach) (answer : Result (Unit {0}) Refusal) (new : Reach) → Logs (replace_events start m) start old.disk → BacksUp line backup m old answer new
    → Did (WritesMetadata start) (is_some backup) start answer new.disk
stored_did line None m start old answer new logs h =
    rw (h.0, ap (λ (r : Reach). r.disk) h.1) (record { events = replace_events start m; logs = logs; are = record { m = m; are = refl } })
stored_did line (Some span) m start old (Ok done) new logs h =
    record { events = replace_events start m; logs = rw h.disk logs; are = record { m = m; are = refl } }
stored_did line (Some span) m start old (Err (refusals.CabinetFault word)) new logs h =
    record { events = replace_events start m; logs = rw h.disk logs; are = inr (record { m = m; are = refl }) }
stored_did line (Some span) m start old (Err refusals.NoMemory) new logs h =
    record { events = replace_events start m; logs = rw h.disk logs; are = inr (record { m = m; are = refl }) }
stored_did line (Some span) m start old (Err refusal) new logs h = absurd h.stores

-- the provider was made, or it was refused
made_did : (line : List ℕ) (options : InitOptions) (parts : Components) (backup : Option Span) (old : Reach) (made : Result Metadata Refusal) (middle : Reach) (answer : Result (Unit {0}) Refusal) (new : Reach)
    → Inits options parts old.disk old.entropy made middle.disk middle.entropy → GoesOn (λ m. BacksUp line backup m) made middle answer new → Did (WritesMetadata old.disk) (is_some backup) old.disk answer new.disk
made_did line options parts backup old (Ok m) middle answer new inits next = stored_did line backup m old.disk middle answer new inits.logs next
made_did line options parts backup old (Err refusals.DeviceFault) middle answer new inits next =
    rw (next.0, ap (λ (r : Reach). r.disk) next.1) (part_did _ (is_some backup) (replace_events old.disk inits.m) old.disk middle.disk inits.fails (record { m = inits.m; are = refl }))
made_did line options parts backup old (Err refusals.EntropyFault) middle answer new inits next =
    rw (next.0, ap (λ (r : Reach). r.disk) next.1) (nothing_done _ (is_some backup) refusals.EntropyFault old.disk middle.disk (same_disk old.disk middle.disk inits.unchanged))
made_did line options parts backup old (Err refusal) middle answer new inits next =
    rw (next.0, ap (λ (r : Reach). r.disk) next.1) (nothing_done _ (is_some backup) refusal old.disk middle.disk (same_disk old.disk middle.disk inits.disk_unchanged))

init_did : (line : List ℕ) (options : InitOptions) (fresh : KeyWords) (backup : Option Span) (old : Reach) (answer : Result (Unit {0}) Refusal) (new : Reach) → InitRow line options fresh backup old answer new
    → Did (WritesMetadata old.disk) (is_some backup) old.disk answer new.disk
init_did line options fresh backup old answer new h =
    did_then (WritesMetadata old.disk) (is_some backup) old answer new h (quiet_loading line fresh)
    (λ parts middle loads then.
    subst (λ (d : DiskState). Did (WritesMetadata d) (is_some backup) middle.disk answer new.disk) loads.disk (made_did line options parts backup middle then.given then.middle answer new then.first.inits then.next))

early_by : (one two three : Bool) (keylen sectorsize size : ℕ) (key : Result UserKey KeyFault)
    → PlainOption (cond one (Some (refusals.BadKeyLength keylen)) (cond two (Some (refusals.BadSectorSize sectorsize)) (cond three (Some (refusals.TooSmall size)) (key_refusal key))))
early_by true two three keylen sectorsize size key = tt
early_by false true three keylen sectorsize size key = tt
early_by false false true keylen sectorsize size key = tt
early_by false false false keylen sectorsize size key = key_option key

early_plain : (options : InitOptions) (parts : Components) (sectors : ℕ) → PlainOption (early_refusal options parts sectors)
early_plain options parts sectors = early_by _ _ _ options.keylen options.sectorsize (512 * sectors) (user_key parts [] options.iterations)

backing_counts : (line : List ℕ) (backup : Option Span) (m : Metadata) → Counts (BacksUp line backup m)
backing_counts line None m old answer new h = decision_counts {A = Unit {0}} (Ok tt) old answer new tt h
backing_counts line (Some span) m old answer new h = storing_counts line span _ old answer new h

made_counts : (options : InitOptions) (parts : Components) (old new : Reach) (made : Result Metadata Refusal) → Inits options parts old.disk old.entropy made new.disk new.entropy → new.cabinet ≡ old.cabinet → CountsResult old made new × Later old new
made_counts options parts old new (Ok m) h same = (tt, beside old new same h.makes.taken.later)
made_counts options parts old new (Err refusals.DeviceFault) h same = (tt, beside old new same h.makes.taken.later)
made_counts options parts old new (Err refusals.EntropyFault) h same = (h.none.rose, beside old new same h.none.later)
made_counts options parts old new (Err refusal) h same =
    uncounted_step {A = Metadata} old (Err refusal) new
    (some_uncounted (early_refusal options parts old.disk.size) refusal (early_plain options parts old.disk.size) h.cause) same h.entropy_unchanged

making_counts : (options : InitOptions) (parts : Components) → Counts (MakesProvider options parts)
making_counts options parts old answer new h = made_counts options parts old new answer h.inits h.cabinet

since_here : (old : Reach) → Since old old
since_here old = record { size = refl; files = refl; disk = omega arith; cabinet = omega arith; misses = omega arith; entropy = omega arith }

backing_stays : (line : List ℕ) (backup : Option Span) (m : Metadata) (old : Reach) (answer : Result (Unit {0}) Refusal) (new : Reach) → BacksUp line backup m old answer new → new.holding ≡ old.holding
backing_stays line None m old answer new h = ap (λ (r : Reach). r.holding) h.1
backing_stays line (Some span) m old answer new h = h.holding

backup_stored : (line : List ℕ) (backup : Option Span) (m : Metadata) → Stored line backup (BacksUp line backup m)
backup_stored line None m old answer new h = same_files old.cabinet new.cabinet (ap (λ (r : Reach). r.cabinet) h.1)
backup_stored line (Some span) m old answer new h = bytes_stored line span _ old answer new h

backing_still : (line : List ℕ) (backup : Option Span) (m : Metadata) → StillBut line backup (BacksUp line backup m)
backing_still line backup m = record { counts = backing_counts line backup m; stays = backing_stays line backup m; stored = backup_stored line backup m }

making_still : (options : InitOptions) (parts : Components) → Still (MakesProvider options parts)
making_still options parts = record {
  counts = making_counts options parts;
  stays = λ old answer new h. h.holding;
  unstored = λ old answer new h. same_files old.cabinet new.cabinet h.cabinet;
}

init_still : (line : List ℕ) (options : InitOptions) (fresh : KeyWords) (backup : Option Span) → StillBut line backup (InitRow line options fresh backup)
init_still line options fresh backup = still_but_then (components_still line fresh) (λ parts. still_but_then (making_still options parts) (λ m. backing_still line backup m))

makes_why : (line : List ℕ) (command : Command) (options : InitOptions) (fresh : KeyWords) (parts : Components) (start old : Reach) (made : Result Metadata Refusal) (new : Reach) → Grounds line command start (RefusesNew line options fresh start)
    → AreComponents start.cabinet.files line fresh parts → Since start old → Inits options parts old.disk old.entropy made new.disk new.entropy → Why line command start made new
makes_why line command options fresh parts start old (Ok m) new ground named since h = tt
makes_why line command options fresh parts start old (Err refusals.DeviceFault) new ground named since h = Rose-earlier start.disk.faults old.disk.faults new.disk.faults since.disk h.fails.rose
makes_why line command options fresh parts start old (Err refusals.EntropyFault) new ground named since h = Rose-earlier start.entropy.faults old.entropy.faults new.entropy.faults since.entropy h.none.rose
makes_why line command options fresh parts start old (Err refusal) new ground named since h =
    plain_cause line command start refusal new (plain_some (early_refusal options parts old.disk.size) refusal (early_plain options parts old.disk.size) h.cause)
    (ground refusal (record { parts = parts; named = named; refused = subst (λ (n : ℕ). early_refusal options parts n ≡ Some refusal) since.size h.cause }))

backing_why : (line : List ℕ) (command : Command) (backup : Option Span) (m : Metadata) (start old : Reach) (answer : Result (Unit {0}) Refusal) (new : Reach) → may_lack_memory command ≡ true → start.cabinet.faults ≤ old.cabinet.faults
    → BacksUp line backup m old answer new → Why line command start answer new
backing_why line command None m start old answer new memory later h = rw h.0 tt
backing_why line command (Some file) m start old answer new memory later h = storing_why line command file (encoded m) start old answer new memory later h.stores

init_why : (line : List ℕ) (command : Command) (options : InitOptions) (fresh : KeyWords) (backup : Option Span) (old : Reach) (answer : Result (Unit {0}) Refusal) (new : Reach) → may_lack_memory command ≡ true
    → BadFiles line command old (RefusesFiles line fresh old.cabinet) → Grounds line command old (RefusesNew line options fresh old) → InitRow line options fresh backup old answer new
    → Why line command old answer new
init_why line command options fresh backup old answer new memory bad ground h =
    then_why line command old answer new h (λ given middle. loading_why line command fresh old old given middle memory bad (since_here old))
    (λ parts r1 f1 n1. let s1 : Since old r1 = loading_since line fresh old old (Ok parts) r1 (since_here old) f1 in
    then_since line command old r1 answer new n1
    (λ made middle first. makes_why line command options fresh parts old r1 made middle ground (loading_parts line fresh old old parts r1 refl f1) s1 first.inits)
    (λ m r2 f2 n2. backing_why line command backup m old r2 answer new memory (subst (λ (c : CabinetState). old.cabinet.faults ≤ c.faults) (sym f2.cabinet) s1.cabinet) n2))

init_fits : (line : List ℕ) (options : InitOptions) (fresh : KeyWords) (old : Reach) (f : FindsNew line options fresh old) (refusal : Refusal) → RefusesNew line options fresh old refusal → ⊥
init_fits line options fresh old f refusal h =
    let parts : h.parts ≡ f.parts = parts_same line fresh old.cabinet f.parts h.parts f.names h.named in
    not_some _ refusal f.served (subst (λ (p : Components). early_refusal options p old.disk.size ≡ Some refusal) parts h.refused)

-- the metadata were written, and then the backup was stored or refused
left_backed : (Changes : Change) (line : List ℕ) (backup : Option Span) (m : Metadata) (start : DiskState) (old : Reach) (answer : Result (Unit {0}) Refusal) (new : Reach) → ((done : Bool) → Changes start done old.disk)
    → BacksUp line backup m old answer new → Left Changes start answer new.disk
left_backed Changes line None m start old answer new changes h = rw (h.0, ap (λ (r : Reach). r.disk) h.1) (changes true)
left_backed Changes line (Some span) m start old (Ok done) new changes h = rw h.disk (changes true)
left_backed Changes line (Some span) m start old (Err refusal) new changes h = rw h.disk (inr (changes false))

made_left : (told : Option Files) (line : List ℕ) (options : InitOptions) (fresh : KeyWords) (parts : Components) (backup : Option Span) (start : DiskState) (old : Reach) (made : Result Metadata Refusal) (middle : Reach)
    (answer : Result (Unit {0}) Refusal) (new : Reach) → Same start old.disk → AreComponents told line fresh parts → Inits options parts old.disk old.entropy made middle.disk middle.entropy
    → GoesOn (λ m. BacksUp line backup m) made middle answer new → Left (PutsNew told line options fresh) start answer new.disk
made_left told line options fresh parts backup start old (Ok m) middle answer new same named h next =
    let usable : IsUsable options parts old.disk.size m h.makes.key (master_key_in h.makes.random) =
    IsUsable-makes options parts old.disk.size old.entropy m middle.entropy h.makes old.disk.well_formed.bound in
    left_backed (PutsNew told line options fresh) line backup m start middle answer new
    (λ done. record {
      parts = parts;
      named = named;
      m = m;
      key = h.makes.key;
      master = master_key_in h.makes.random;
      usable = subst (λ (n : ℕ). IsUsable options parts n m h.makes.key (master_key_in h.makes.random)) same.size usable;
      kept = moments_from (λ n. HoldsOldOr (IsSectorOf m) n) start old.disk middle.disk.content same (KeepsOldOr-replace old.disk middle.disk m h.logs);
      alone = λ yes. alone_from (encoded m) start old.disk middle.disk.content same (KeepsAlone-replace old.disk middle.disk m h.logs);
    })
    next
made_left told line options fresh parts backup start old (Err refusals.DeviceFault) middle answer new same named h next =
    let usable : IsUsable options parts old.disk.size h.m h.makes.key (master_key_in h.makes.random) =
    IsUsable-makes options parts old.disk.size old.entropy h.m middle.entropy h.makes old.disk.well_formed.bound in
    rw (next.0, ap (λ (r : Reach). r.disk) next.1) (inr (record {
      parts = parts;
      named = named;
      m = h.m;
      key = h.makes.key;
      master = master_key_in h.makes.random;
      usable = subst (λ (n : ℕ). IsUsable options parts n h.m h.makes.key (master_key_in h.makes.random)) same.size usable;
      kept = moments_from (λ n. HoldsOldOr (IsSectorOf h.m) n) start old.disk middle.disk.content same (KeepsOldOr-replace_part old.disk middle.disk h.m h.fails);
      alone = λ yes. not_done yes;
    }))
made_left told line options fresh parts backup start old (Err refusals.EntropyFault) middle answer new same named h next =
    rw (next.0, ap (λ (r : Reach). r.disk) next.1) (inl (ap (λ (d : DiskState). d.content) h.unchanged ∙ same.content))
made_left told line options fresh parts backup start old (Err refusal) middle answer new same named h next =
    rw (next.0, ap (λ (r : Reach). r.disk) next.1) (inl (ap (λ (d : DiskState). d.content) h.disk_unchanged ∙ same.content))

init_left : (line : List ℕ) (options : InitOptions) (fresh : KeyWords) (backup : Option Span) (old : Reach) (answer : Result (Unit {0}) Refusal) (new : Reach) → InitRow line options fresh backup old answer new
    → Left (PutsNew old.cabinet.files line options fresh) old.disk answer new.disk
init_left line options fresh backup old answer new h =
    let Changes : Change = PutsNew old.cabinet.files line options fresh in
    left_then Changes old old answer new h (before_all old) (early_loading line fresh)
    (λ parts r1 b1 f1 n1. made_left old.cabinet.files line options fresh parts backup old.disk r1 n1.given n1.middle answer new b1.same (loading_parts line fresh old old parts r1 refl f1) n1.first.inits n1.next)

pub init_lawful : (prov : Span) (cipher : Cipher) (auth : Auth) (keylen : ℕ) (sectorsize : ℕ) (iterations : Option ℤ) (autoresize : Bool) (fresh : KeyWords) (backup : Option Span) → IsLawful (commands.Init prov cipher auth keylen sectorsize iterations autoresize fresh backup)
init_lawful prov cipher auth keylen sectorsize iterations autoresize fresh backup = record {
  why = λ line old refusal new h.
      let command : Command = commands.Init prov cipher auth keylen sectorsize iterations autoresize fresh backup in
      row_refused line command done_or old h.answer new refusal done_replying h.replied (init_why line command _ fresh backup old h.answer new refl (λ found cabinet bad. bad) (λ found ground. ground) h.row);
  did = λ line old said new h. reply_line done_or _ (is_some backup) h.answer said old.disk new.disk done_replying h.replied (init_did line _ fresh backup old h.answer new h.row);
  sound = λ line old reply new h. sound_reply done_or _ old reply new done_replying (still_but_sound (init_still line _ fresh backup)) h;
  out = λ line old gate f.
      apart_out line (commands.Init prov cipher auth keylen sectorsize iterations autoresize fresh backup) old refl refl gate
      (λ refusal cabinet x. no_bad_file line fresh f.parts old.cabinet refusal cabinet f.names x) (λ refusal x. init_fits line _ fresh old f refusal x);
  tags = λ line old f needs h. false_is_true needs;
  becomes = λ line old said new gate h. stays_so line (commands.Init prov cipher auth keylen sectorsize iterations autoresize fresh backup) old said new gate refl ((init_still line _ fresh backup).stays old h.answer new h.row);
  keeps = λ line old reply new gate other h. row_keeps done_or _ old reply new (init_still line _ fresh backup).stays h;
  left = λ line old said new h.
      done_left (ChangesMetadata line (commands.Init prov cipher auth keylen sectorsize iterations autoresize fresh backup) old.cabinet.files old.holding) old.disk h.answer said new.disk h.replied
      (init_left line _ fresh backup old h.answer new h.row);
  stores = λ line old reply new h. (init_still line _ fresh backup).stored old h.answer new h.row;
}
