-- That `restore` is lawful.
use Rattle.std.proofs.Common.{Bool, Err, List, Ok, Option, Result, ap, cond, false, inl, inr, length, nat_lt, refl, subst, true, ℕ, ◌*◌, ◌∙◌, ◌≡◌, IfSome}
use Rattle.backup_restore.proofs.Restored.{IsBackedUp-gives}
use Rattle.block_traits.proofs.Causes.{Rose-earlier}
use Rattle.command_words.specs.declared.commands.Command.TheVariants as commands
use Rattle.eli_base.specs.declared.refusals.Refusal.TheVariants as refusals
use Rattle.eli_metadata.proofs.Replaced.{KeepsOldOr-replace, KeepsOldOr-replace_part}
use Rattle.key_commands.proofs.Making.{KeepsAlone-replace}
use Rattle.command_rows.specs.Rows.{Decides, GoesOn, IsFile, LoadsFile, NamesFile, Reach, RefusesFile, Then, WritesMetadata, done_or}
use Rattle.command_rows.specs.Vocabulary.{CabinetState, Command, DiskState, Files, GivesMetadata, HoldsOldOr, IsSectorOf, MetaFault, Metadata, Refusal, Restores, Span, bytes_at, encoded, file_answer, file_limit, fitted, replace_events, restored, unless_fault}
use Rattle.command_rows.specs.verbs.Restore.{FindsBackup, PutsBack, RefusesRestore, RestoreRow, RestoresBackup}
use Rattle.command_rows.proofs.PlaceCauses.{wrong_file}
use Rattle.command_rows.proofs.VerbLaws.{Change, ChangesMetadata, Counts, Did, DoesFrom, Early, Grounds, IsGround, IsLawful, Left, PlainAnswer, Quiet, Same, Since, Still, UncountedAnswer, Why, after_quiet, alone_from, apart_out, before_all, done_left, done_replying, done_still, false_is_true, file_counts, left_then, loading_bytes, meta_plain, moments_from, not_both, not_done, nothing_done, part_did, plain_cause, plain_uncounted, reply_line, row_keeps, row_refused, same_disk, same_files, same_replacing, since_cabinet, sound_reply, stays_so, still_sound, still_then, then_since, then_why, uncounted_step, unstored_reply}

quiet_file : (limit : ℕ) (line : List ℕ) (file : Span) → Quiet (LoadsFile limit line file)
quiet_file limit line file old answer new h = same_disk old.disk new.disk h.disk

written_did : (bytes : List ℕ) (force : Bool) (start : DiskState) (old : Reach) (made : Result Metadata Refusal) (middle : Reach) (answer : Result (Unit {0}) Refusal) (new : Reach) → old.disk.size ≡ start.size
    → Restores bytes force old.disk made middle.disk → GoesOn (λ m. Decides {A = Unit {0}} (Ok tt)) made middle answer new → Did (WritesMetadata start) false old.disk answer new.disk
written_did bytes force start old (Ok m) middle answer new size h next =
    rw (next.0, ap (λ (r : Reach). r.disk) next.1) (record { events = replace_events old.disk m; logs = h.logs; are = record { m = m; are = same_replacing old.disk start m size } })
written_did bytes force start old (Err refusals.DeviceFault) middle answer new size h next =
    rw (next.0, ap (λ (r : Reach). r.disk) next.1) (part_did (WritesMetadata start) false (replace_events old.disk h.m) old.disk middle.disk h.fails (record { m = h.m; are = same_replacing old.disk start h.m size }))
written_did bytes force start old (Err refusal) middle answer new size h next =
    rw (next.0, ap (λ (r : Reach). r.disk) next.1) (nothing_done (WritesMetadata start) false refusal old.disk middle.disk (same_disk old.disk middle.disk h.unchanged))

restores_did : (start : DiskState) (bytes : List ℕ) (force : Bool) → DoesFrom (WritesMetadata start) start (Then (RestoresBackup bytes force) (λ m. Decides {A = Unit {0}} (Ok tt)))
restores_did start bytes force old answer new size h = written_did bytes force start old h.given h.middle answer new size h.first.restores h.next

restore_did : (line : List ℕ) (file : Span) (force : Bool) (old : Reach) (answer : Result (Unit {0}) Refusal) (new : Reach) → RestoreRow line file force old answer new → Did (WritesMetadata old.disk) false old.disk answer new.disk
restore_did line file force old answer new h =
    after_quiet (WritesMetadata old.disk) old.disk (quiet_file file_limit line file) (λ bytes. restores_did old.disk bytes force) old answer new refl h

plain_err : {A : Type 0} (answer : Result A Refusal) (refusal : Refusal) → PlainAnswer answer → answer ≡ Err refusal → IsGround refusal
plain_err {A} answer refusal plain is = subst (λ (r : Result A Refusal). PlainAnswer r) is plain

unless_plain : (found : Result (Unit {0}) MetaFault) (m : Metadata) → PlainAnswer (unless_fault found m)
unless_plain (Ok done) m = tt
unless_plain (Err fault) m = meta_plain fault

fitted_plain : (found : Result Metadata MetaFault) (force : Bool) (sectors : ℕ) → PlainAnswer (fitted found force sectors)
fitted_plain (Err fault) force sectors = meta_plain fault
fitted_plain (Ok m) true sectors = tt
fitted_plain (Ok m) false sectors = unless_plain _ m

restored_by : (small short : Bool) (size count : ℕ) (fit : Result Metadata Refusal) → PlainAnswer fit → PlainAnswer (cond small (Err (refusals.TooSmall size)) (cond short (Err (refusals.BackupTooShort count)) fit))
restored_by true short size count fit h = tt
restored_by false true size count fit h = tt
restored_by false false size count fit h = h

restored_plain : (bytes : List ℕ) (force : Bool) (sectors : ℕ) → PlainAnswer (restored bytes force sectors)
restored_plain bytes force sectors = restored_by (nat_lt sectors 2) (nat_lt (length bytes) 511) (512 * sectors) (length bytes) _ (fitted_plain _ force sectors)

restored_uncounted : (bytes : List ℕ) (force : Bool) (old : DiskState) (made : Result Metadata Refusal) (new : DiskState) → Restores bytes force old made new → UncountedAnswer made
restored_uncounted bytes force old (Ok m) new h = tt
restored_uncounted bytes force old (Err refusals.DeviceFault) new h = tt
restored_uncounted bytes force old (Err refusal) new h = plain_uncounted refusal (plain_err (restored bytes force old.size) refusal (restored_plain bytes force old.size) h.cause)

writing_counts : (bytes : List ℕ) (force : Bool) → Counts (RestoresBackup bytes force)
writing_counts bytes force old answer new h = uncounted_step old answer new (restored_uncounted bytes force old.disk answer new.disk h.restores) h.outside.cabinet h.outside.entropy

file_why : (line : List ℕ) (file prov : Span) (force : Bool) (old : Reach) (answer : Result (List ℕ) Refusal) (new : Reach) → LoadsFile file_limit line file old answer new → Why line (commands.Restore file prov force) old answer new
file_why line file prov force old (Ok bytes) new h = tt
file_why line file prov force old (Err (refusals.CabinetFault word)) new h = h.cause
file_why line file prov force old (Err (refusals.FileAbsent word)) new h = wrong_file file_limit line file old (refusals.FileAbsent word) new h.told h
file_why line file prov force old (Err (refusals.FileTooLong word limit)) new h = wrong_file file_limit line file old (refusals.FileTooLong word limit) new h.told h
file_why line file prov force old (Err refusals.NoMemory) new h = refl
file_why line file prov force old (Err refusal) new h = absurd h.cause

restores_why : (line : List ℕ) (command : Command) (bytes : List ℕ) (force : Bool) (start old : Reach) (made : Result Metadata Refusal) (new : Reach) → Grounds line command start (λ refusal. restored bytes force start.disk.size ≡ Err refusal) → Since start old
    → Restores bytes force old.disk made new.disk → Why line command start made new
restores_why line command bytes force start old (Ok m) new ground since h = tt
restores_why line command bytes force start old (Err refusals.DeviceFault) new ground since h = Rose-earlier start.disk.faults old.disk.faults new.disk.faults since.disk h.fails.rose
restores_why line command bytes force start old (Err refusal) new ground since h =
    plain_cause line command start refusal new (plain_err (restored bytes force old.disk.size) refusal (restored_plain bytes force old.disk.size) h.cause)
    (ground refusal (subst (λ (n : ℕ). restored bytes force n ≡ Err refusal) since.size h.cause))

restore_why : (line : List ℕ) (file prov : Span) (force : Bool) (old : Reach) (answer : Result (Unit {0}) Refusal) (new : Reach)
    → RestoreRow line file force old answer new → Why line (commands.Restore file prov force) old answer new
restore_why line file prov force old answer new h =
    let command : Command = commands.Restore file prov force in
    then_why line command old answer new h (λ given middle. file_why line file prov force old given middle)
    (λ bytes r1 f1 n1. then_since line command old r1 answer new n1
    (λ made middle first. restores_why line command bytes force old r1 made middle
    (λ refusal is. record { bytes = bytes; named = loading_bytes file_limit line file old old bytes r1 refl f1; refused = is })
    (since_cabinet old r1 f1.disk f1.entropy f1.keeps.files f1.keeps.faults f1.keeps.misses) first.restores)
    (λ m r2 f2 n2. rw n2.0 tt))

file_still : (limit : ℕ) (line : List ℕ) (file : Span) → Still (LoadsFile limit line file)
file_still limit line file = record {
  counts = file_counts limit line file;
  stays = λ old answer new h. h.holding;
  unstored = λ old answer new h. record { files = h.keeps.files; stores = h.unstored };
}

writing_still : (bytes : List ℕ) (force : Bool) → Still (RestoresBackup bytes force)
writing_still bytes force = record {
  counts = writing_counts bytes force;
  stays = λ old answer new h. h.holding;
  unstored = λ old answer new h. same_files old.cabinet new.cabinet h.outside.cabinet;
}

restore_still : (line : List ℕ) (file : Span) (force : Bool) → Still (RestoreRow line file force)
restore_still line file force = still_then (file_still file_limit line file) (λ bytes. still_then (writing_still bytes force) (λ m. done_still tt))

-- two readings of one file have the same bytes
bytes_same : (limit : ℕ) (line : List ℕ) (file : Span) (cabinet : CabinetState) (bytes named : List ℕ) → NamesFile limit line file cabinet bytes → IsFile limit cabinet.files line file named → named ≡ bytes
bytes_same limit line file cabinet bytes named names h =
    let other : file_answer file.word limit (names.files (bytes_at line file)) ≡ Ok named = subst (λ (o : Option Files). IsFile limit o line file named) names.told h in
    cc (names.named, other)

no_file_refused : (limit : ℕ) (line : List ℕ) (file : Span) (bytes : List ℕ) (old : CabinetState) (refusal : Refusal) (new : CabinetState) → NamesFile limit line file old bytes → RefusesFile limit line file old refusal new → ⊥
no_file_refused limit line file bytes old refusal new names h =
    let bad : file_answer file.word limit (names.files (bytes_at line file)) ≡ Err refusal = subst (λ (o : Option Files). IfSome o (λ files. file_answer file.word limit (files (bytes_at line file)) ≡ Err refusal)) names.told h.first in
    let none : ⊥ = cc (bad, names.named) in
    none

restore_fits : (line : List ℕ) (file : Span) (force : Bool) (old : Reach) (f : FindsBackup line file force old) (refusal : Refusal) → RefusesRestore line file force old refusal → ⊥
restore_fits line file force old f refusal h =
    let bytes : h.bytes ≡ f.bytes = bytes_same file_limit line file old.cabinet f.bytes h.bytes f.names h.named in
    not_both _ f.m refusal f.served (subst (λ (b : List ℕ). restored b force old.disk.size ≡ Err refusal) bytes h.refused)

written_left : (told : Option Files) (line : List ℕ) (file : Span) (bytes : List ℕ) (force : Bool) (start : DiskState) (old : Reach) (made : Result Metadata Refusal) (middle : Reach) (answer : Result (Unit {0}) Refusal) (new : Reach)
    → Same start old.disk → IsFile file_limit told line file bytes → Restores bytes force old.disk made middle.disk → GoesOn (λ m. Decides {A = Unit {0}} (Ok tt)) made middle answer new
    → Left (PutsBack told line file force) start answer new.disk
written_left told line file bytes force start old (Ok m) middle answer new same named h next =
    rw (next.0, ap (λ (r : Reach). r.disk) next.1) (record {
      bytes = bytes;
      named = named;
      m = m;
      gives = subst (λ (n : ℕ). GivesMetadata bytes force n m) same.size h.gives;
      usable = IsBackedUp-gives bytes force old.disk.size m h.gives;
      kept = moments_from (λ n. HoldsOldOr (IsSectorOf m) n) start old.disk middle.disk.content same (KeepsOldOr-replace old.disk middle.disk m h.logs);
      alone = λ yes. alone_from (encoded m) start old.disk middle.disk.content same (KeepsAlone-replace old.disk middle.disk m h.logs);
    })
written_left told line file bytes force start old (Err refusals.DeviceFault) middle answer new same named h next =
    rw (next.0, ap (λ (r : Reach). r.disk) next.1) (inr (record {
      bytes = bytes;
      named = named;
      m = h.m;
      gives = subst (λ (n : ℕ). GivesMetadata bytes force n h.m) same.size h.gives;
      usable = IsBackedUp-gives bytes force old.disk.size h.m h.gives;
      kept = moments_from (λ n. HoldsOldOr (IsSectorOf h.m) n) start old.disk middle.disk.content same (KeepsOldOr-replace_part old.disk middle.disk h.m h.fails);
      alone = λ yes. not_done yes;
    }))
written_left told line file bytes force start old (Err refusal) middle answer new same named h next =
    rw (next.0, ap (λ (r : Reach). r.disk) next.1) (inl (ap (λ (d : DiskState). d.content) h.unchanged ∙ same.content))

early_file : (limit : ℕ) (line : List ℕ) (file : Span) → Early (LoadsFile limit line file)
early_file limit line file old answer new h = record { quiet = same_disk old.disk new.disk h.disk; files = h.keeps.files }

restore_left : (line : List ℕ) (file : Span) (force : Bool) (old : Reach) (answer : Result (Unit {0}) Refusal) (new : Reach) → RestoreRow line file force old answer new
    → Left (PutsBack old.cabinet.files line file force) old.disk answer new.disk
restore_left line file force old answer new h =
    let Changes : Change = PutsBack old.cabinet.files line file force in
    left_then Changes old old answer new h (before_all old) (early_file file_limit line file)
    (λ bytes r1 b1 f1 n1. written_left old.cabinet.files line file bytes force old.disk r1 n1.given n1.middle answer new b1.same (loading_bytes file_limit line file old old bytes r1 refl f1) n1.first.restores n1.next)

pub restore_lawful : (file : Span) (prov : Span) (force : Bool) → IsLawful (commands.Restore file prov force)
restore_lawful file prov force = record {
  why = λ line old refusal new h.
      let command : Command = commands.Restore file prov force in
      row_refused line command done_or old h.answer new refusal done_replying h.replied (restore_why line file prov force old h.answer new h.row);
  did = λ line old said new h. reply_line done_or _ false h.answer said old.disk new.disk done_replying h.replied (restore_did line file force old h.answer new h.row);
  sound = λ line old reply new h. sound_reply done_or _ old reply new done_replying (still_sound (restore_still line file force)) h;
  out = λ line old gate f.
      apart_out line (commands.Restore file prov force) old refl refl gate (λ refusal cabinet x. no_file_refused file_limit line file f.bytes old.cabinet refusal cabinet f.names x)
      (λ refusal x. restore_fits line file force old f refusal x);
  tags = λ line old f needs h. false_is_true needs;
  becomes = λ line old said new gate h. stays_so line (commands.Restore file prov force) old said new gate refl ((restore_still line file force).stays old h.answer new h.row);
  keeps = λ line old reply new gate other h. row_keeps done_or _ old reply new (restore_still line file force).stays h;
  left = λ line old said new h. done_left (ChangesMetadata line (commands.Restore file prov force) old.cabinet.files old.holding) old.disk h.answer said new.disk h.replied (restore_left line file force old h.answer new h.row);
  stores = λ line old reply new h. unstored_reply _ _ old reply new (restore_still line file force).unstored h;
}
