-- The row of `backup`, and rows on a drawer that isn't idle.
use Rattle.std.proofs.Common.{◌≡◌, ◌∙◌, List, ℕ, ◌*◌, ◌-◌, ◌<◌, ◌≤◌, sym, subst, Bool, true, false, cond, Result, Ok, Err, ap, arith, refl, nat_le}
use Rattle.std.proofs.lemmas.Bool.Decides.{nat_tests}
use Rattle.backup_restore.specs.Saving.{ReadsSector, SavesMetadata}
use Rattle.eli_base.specs.declared.refusals.Refusal.TheVariants as refusals
use Rattle.command_rows.specs.Rows.{Answer, Decides, Holding, Reach, StoresBytes, Then, or_refusal, reach_of}
use Rattle.command_rows.specs.Turn.{GoesThrough}
use Rattle.command_rows.specs.Vocabulary.{CabinetState, Command, DiskState, EntropyState, Refusal, Saves, Span, metadata_in, refusal_of}
use Rattle.command_rows.specs.verbs.Backup.{BackupRow}
use Rattle.shelf.proofs.Rows.{Then-goes_on, Then-refused}

-- ---- the last sector

room_by : (size : ℕ) (enough : Bool) → 2 ≤ size → nat_le 2 size ≡ enough → cond enough (Ok (size - 1)) (Err (refusals.TooSmall (512 * size))) ≡ Ok (size - 1)
room_by size true enough test = refl
room_by size false enough test = absurd (grind (arith, nat_tests))

no_room_by : (size : ℕ) (enough : Bool) → size < 2 → nat_le 2 size ≡ enough → cond enough (Ok (size - 1)) (Err (refusals.TooSmall (512 * size))) ≡ Err (refusals.TooSmall (512 * size))
no_room_by size true small test = absurd (grind (arith, nat_tests))
no_room_by size false small test = refl

-- the last sector was read, and its bytes are used further
last_read : (line : List ℕ) (file : Span) (holding : Holding) (cabinet : CabinetState) (entropy : EntropyState) (disk : DiskState) (bytes : List ℕ) (disk' : DiskState) (answer : Result (Unit {0}) Refusal) (new : Reach) → ReadsSector disk bytes disk'
    → Then (Decides (or_refusal refusal_of (metadata_in bytes))) (λ _. StoresBytes line file bytes) (reach_of disk' holding cabinet entropy) answer new → BackupRow line file (reach_of disk holding cabinet entropy) answer new
last_read line file holding cabinet entropy disk bytes disk' answer new reads next =
    Then-goes_on _ _ _ _ _ _ _ (sym (room_by disk.size _ reads.enough refl), refl)
    (Then-goes_on _ _ _ (reach_of disk' holding cabinet entropy) _ _ _
    (record { reads = (reads.whole, reads.told, reads.logs, reads.asked); holding = refl; outside = record { cabinet = refl; entropy = refl } }) next)

pub backup_refused : (line : List ℕ) (file : Span) (holding : Holding) (cabinet : CabinetState) (entropy : EntropyState) (disk : DiskState) (before : List ℕ) (refusal : Refusal) (bytes : List ℕ) (disk' : DiskState) → Saves disk before (Err refusal) bytes disk'
    → BackupRow line file (reach_of disk holding cabinet entropy) (Err refusal) (reach_of disk' holding cabinet entropy)
backup_refused line file holding cabinet entropy disk before (refusals.TooSmall size) bytes disk' h =
    Then-refused _ _ _ _ _ (ap (λ (n : ℕ). Err (refusals.TooSmall n)) h.bytes ∙ sym (no_room_by disk.size _ h.small refl), ap (λ (d : DiskState). reach_of d holding cabinet entropy) h.unchanged)
backup_refused line file holding cabinet entropy disk before refusals.DeviceFault bytes disk' h =
    Then-goes_on _ _ _ _ _ _ _ (sym (room_by disk.size _ h.enough refl), refl)
    (Then-refused _ _ _ _ _ (record { reads = (h.fails, h.asked); holding = refl; outside = record { cabinet = refl; entropy = refl } }))
backup_refused line file holding cabinet entropy disk before refusal bytes disk' h =
    last_read line file holding cabinet entropy disk bytes disk' (Err refusal) _ h.reads (Then-refused _ _ _ _ _ (ap (λ (r : Refusal). Err r) h.cause ∙ sym (ap (or_refusal refusal_of) h.is), refl))

pub backup_stored : (line : List ℕ) (file : Span) (holding : Holding) (cabinet : CabinetState) (entropy : EntropyState) (disk : DiskState) (bytes : List ℕ) (disk' : DiskState) (answer : Result (Unit {0}) Refusal) (new : Reach)
    → SavesMetadata disk bytes disk' → StoresBytes line file bytes (reach_of disk' holding cabinet entropy) answer new → BackupRow line file (reach_of disk holding cabinet entropy) answer new
backup_stored line file holding cabinet entropy disk bytes disk' answer new h stores =
    last_read line file holding cabinet entropy disk bytes disk' answer new h.reads (Then-goes_on _ _ _ _ _ _ _ (sym (ap (or_refusal refusal_of) h.is), refl) stores)

-- ---- a drawer that isn't idle

-- the drawer stays as it was
pub held_row : (line : List ℕ) (command : Command) (before after : Holding) (disk disk' : DiskState) (cabinet cabinet' : CabinetState) (entropy : EntropyState) (answer : Answer) → after ≡ before
    → GoesThrough line command (reach_of disk before cabinet entropy) answer (reach_of disk' before cabinet' entropy)
    → GoesThrough line command (reach_of disk before cabinet entropy) answer (reach_of disk' after cabinet' entropy)
held_row line command before after disk disk' cabinet cabinet' entropy answer kept h =
    subst (λ (x : Holding). GoesThrough line command (reach_of disk before cabinet entropy) answer (reach_of disk' x cabinet' entropy)) (sym kept) h
