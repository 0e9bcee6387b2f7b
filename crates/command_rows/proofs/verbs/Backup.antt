-- That `backup` is lawful.
use Rattle.std.proofs.Common.{Bool, Err, List, Ok, Result, Some, ap, arith, cond, false, inl, inr, refl, subst, true, ℕ, ◌*◌, ◌-◌, ◌≡◌, ◌≤◌, nat_le}
use Rattle.std.proofs.lemmas.Bool.Decides.{nat_tests}
use Rattle.command_words.specs.declared.commands.Command.TheVariants as commands
use Rattle.eli_base.specs.declared.refusals.Refusal.TheVariants as refusals
use Rattle.command_rows.specs.Rows.{DeviceSectorAnswer, HoldsNone, LacksRoom, Reach, done_or, or_refusal}
use Rattle.command_rows.specs.Vocabulary.{Command, DiskState, Gives, MetaFault, Metadata, Refusal, Span, last_sector, metadata_in, refusal_of}
use Rattle.command_rows.specs.verbs.Backup.{BackupRow, metadata_place}
use Rattle.command_rows.proofs.VerbLaws.{IsLawful, PlainAnswer, Quiet, StillBut, Why, apart_out, by_plain, decides_why, device_sector_still, device_sector_why, done_replying, false_is_true, has_metadata, nothing_changed, or_plain, quiet_device_sector, quiet_did, quiet_storing, quiet_then, reply_line, row_keeps, row_refused, same_quiet, same_then_why, sound_reply, stays_quiet, still_but_sound, still_but_then, still_decision, storing_still, storing_why, then_since, then_why}

quiet_backup_row : (line : List ℕ) (file : Span) → Quiet (BackupRow line file)
quiet_backup_row line file =
    quiet_then (λ old answer new h. same_quiet old new h.1)
    (λ place. quiet_then (quiet_device_sector place)
    (λ bytes. quiet_then (λ old answer new h. same_quiet old new h.1)
    (λ _. quiet_storing line file bytes)))

room_plain : (size : ℕ) (enough : Bool) → PlainAnswer {A = ℕ} (cond enough (Ok (size - 1)) (Err (refusals.TooSmall (512 * size))))
room_plain size true = tt
room_plain size false = tt

lacks_room : (disk : DiskState) (refusal : Refusal) (enough : Bool) → nat_le 2 disk.size ≡ enough → cond enough (Ok (disk.size - 1)) (Err (refusals.TooSmall (512 * disk.size))) ≡ Err refusal → LacksRoom disk refusal
lacks_room disk refusal true test h = absurd (let none : ⊥ = cc h in none)
lacks_room disk refusal false test h = (grind (arith, nat_tests), cc h)

is_last : (size place : ℕ) (enough : Bool) → nat_le 2 size ≡ enough → Ok place ≡ cond enough (Ok (size - 1)) (Err (refusals.TooSmall (512 * size))) → (2 ≤ size) × (place ≡ size - 1)
is_last size place true test h = (grind (arith, nat_tests), cc h)
is_last size place false test h = absurd (let none : ⊥ = cc h in none)

-- the bytes that were read of the last sector are none
holds_none : (disk : DiskState) (place : ℕ) (bytes : List ℕ) (new : DiskState) (refusal : Refusal) (found : Result Metadata MetaFault) → (2 ≤ disk.size) × (place ≡ last_sector disk) → DeviceSectorAnswer place disk (Ok bytes) new → metadata_in bytes ≡ found
    → or_refusal refusal_of found ≡ Err refusal → HoldsNone disk refusal
holds_none disk place bytes new refusal (Ok m) last read is bad = absurd (let none : ⊥ = cc bad in none)
holds_none disk place bytes new refusal (Err fault) last read is bad =
    record { enough = last.0; fault = fault; found = record { bytes = bytes; whole = read.0; told = subst (λ (n : ℕ). Gives disk n bytes) last.1 read.1; read = is }; refused = cc bad }

backup_why : (line : List ℕ) (prov file : Span) (old : Reach) (answer : Result (Unit {0}) Refusal) (new : Reach) → BackupRow line file old answer new → Why line (commands.Backup prov file) old answer new
backup_why line prov file old answer new h =
    let command : Command = commands.Backup prov file in
    same_then_why line command old answer new h (λ place middle first. first.1)
    (λ given middle first. decides_why line command old (metadata_place old.disk.size) old given middle (room_plain old.disk.size _) (λ refusal bad. inl (lacks_room old.disk refusal _ refl bad)) first)
    (λ place first next. then_why line command old answer new next (λ given middle read. device_sector_why line command place old given middle read)
    (λ bytes middle read follows. then_since line command old middle answer new follows
    (λ given there decided. decides_why line command old (or_refusal refusal_of (metadata_in bytes)) middle given there (or_plain (metadata_in bytes))
    (λ refusal bad. inr (holds_none old.disk place bytes middle.disk refusal (metadata_in bytes) (is_last old.disk.size place _ refl first.0) read.reads refl bad)) decided)
    (λ m there decided last. storing_why line command file bytes old there answer new refl (rw (ap (λ (r : Reach). r.cabinet) decided.1, read.outside.cabinet) (omega arith)) last.stores)))

backup_still : (line : List ℕ) (file : Span) → StillBut line (Some file) (BackupRow line file)
backup_still line file =
    still_but_then (still_decision (λ r. metadata_place r.disk.size) (λ r. by_plain _ (room_plain r.disk.size _)))
    (λ place. still_but_then (device_sector_still place)
    (λ bytes. still_but_then (still_decision (λ r. or_refusal refusal_of (metadata_in bytes)) (λ r. by_plain _ (or_plain (metadata_in bytes))))
    (λ _. storing_still line file bytes)))

pub backup_lawful : (prov : Span) (file : Span) → IsLawful (commands.Backup prov file)
backup_lawful prov file = record {
  why = λ line old refusal new h.
      let command : Command = commands.Backup prov file in
      row_refused line command done_or old h.answer new refusal done_replying h.replied (backup_why line prov file old h.answer new h.row);
  did = λ line old said new h. reply_line done_or _ false h.answer said old.disk new.disk done_replying h.replied (quiet_did false old.disk h.answer new.disk (quiet_backup_row line file old h.answer new h.row));
  sound = λ line old reply new h. sound_reply done_or _ old reply new done_replying (still_but_sound (backup_still line file)) h;
  out = λ line old gate f.
      apart_out line (commands.Backup prov file) old refl refl gate (λ refusal cabinet x. x)
      (λ refusal x. has_metadata old.disk f.m refusal f.shows x);
  tags = λ line old f needs h. false_is_true needs;
  becomes = λ line old said new gate h. stays_quiet line (commands.Backup prov file) old said new ((backup_still line file).stays old h.answer new h.row) (quiet_backup_row line file old h.answer new h.row);
  keeps = λ line old reply new gate other h. row_keeps done_or _ old reply new (backup_still line file).stays h;
  left = λ line old said new h. nothing_changed line old.cabinet.files old.holding said old.disk new.disk;
  stores = λ line old reply new h. (backup_still line file).stored old h.answer new h.row;
}
