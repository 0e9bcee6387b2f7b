-- That the metadata of a backup are read back, and what the last sector holds once they are written.
use Rattle.std.proofs.Common.{◌≡◌, ℕ, zero, suc, ◌*◌, ◌≤◌, List, [], ◌∷◌, ◌++◌, length, take, refl, ap, sym, subst, ◌∙◌, arith, cond, true, false, Bool, Result, Ok, Err, length-append}
use Rattle.std.proofs.Math.Seq.{take-append_seam}
use Rattle.std.proofs.lemmas.List.{length-take-le}
use Rattle.std.proofs.lemmas.Bool.Decides.{nat_tests}
use Rattle.std.proofs.lemmas.Slice.Eq.{bytes_eq-Decides}
use Rattle.std.specs.Prelude.{nat_lt}
use Rattle.std.specs.Str.{bytes_eq}
use Rattle.block_traits.specs.Content.{logged}
use Rattle.block_traits.specs.Disk.{DiskState, Logs, last_sector, store_events}
use Rattle.block_traits.specs.Moments.{KeepsAlone}
use Rattle.block_traits.specs.declared.disk.Event.TheVariants.{Flush}
use Rattle.block_traits.proofs.Logs.{logged-append}
use Rattle.block_traits.proofs.Overwritten.{KeepsAlone-overwrite}
use Rattle.eli_base.specs.declared.refusals.Refusal.{Refusal}
use Rattle.eli_base.specs.declared.refusals.Refusal.TheVariants as refusals
use Rattle.eli_metadata.specs.Checks.{size_matches}
use Rattle.eli_metadata.specs.Format.{encoded, fields, is_served, magic, metadata_in, number_at}
use Rattle.eli_metadata.specs.Place.{replace_events}
use Rattle.eli_metadata.specs.declared.metadata.MetaFault.{MetaFault}
use Rattle.eli_metadata.specs.declared.metadata.Metadata.{Metadata}
use Rattle.eli_metadata.proofs.Laws.{encoded-fields, flags-fields, metadata_in-encoded, version-fields}
use Rattle.backup_restore.specs.Restoring.{AreAllBytes, GivesMetadata, IsBackedUp, backed_up_sector, fitted, unless_fault}

-- ---- the sector of a backup

-- the sector of a backup begins with the first 511 bytes of the backup
first_511 : (bytes : List ℕ) → 511 ≤ length bytes → take 511 (backed_up_sector bytes) ≡ take 511 bytes
first_511 bytes long =
    let whole : length (take 511 bytes) ≡ 511 = length-take-le 511 bytes long in
    ap (λ (n : ℕ). take n (take 511 bytes ++ 0 ∷ [])) (sym whole) ∙ take-append_seam (take 511 bytes) (0 ∷ [])

length-backed_up_sector : (bytes : List ℕ) → 511 ≤ length bytes → length (backed_up_sector bytes) ≡ 512
length-backed_up_sector bytes long =
    let whole : length (take 511 bytes) ≡ 511 = length-take-le 511 bytes long in
    omega (arith, length-append (take 511 bytes) (0 ∷ []))

AreBytes-cut : (n : ℕ) (numbers : List ℕ) → AreAllBytes numbers → AreAllBytes (take n numbers ++ 0 ∷ [])
AreBytes-cut zero numbers fit zero = omega arith
AreBytes-cut zero numbers fit (suc k) = omega arith
AreBytes-cut (suc n) [] fit zero = omega arith
AreBytes-cut (suc n) [] fit (suc k) = omega arith
AreBytes-cut (suc n) (x ∷ numbers) fit zero = fit 0
AreBytes-cut (suc n) (x ∷ numbers) fit (suc k) = AreBytes-cut n numbers (λ j. fit (suc j)) k

-- ---- what is read from a sector

-- all of three tests hold
three_hold : (a b c : Bool) (value other : Metadata) (x y z : MetaFault) → cond a (cond b (cond c (Ok value) (Err z)) (Err y)) (Err x) ≡ Ok other
    → (a ≡ true) × (b ≡ true) × (c ≡ true) × (value ≡ other)
three_hold true true true value other x y z e = (refl, refl, refl, cc e)
three_hold true true false value other x y z e = absurd (cc e)
three_hold true false c value other x y z e = absurd (cc e)
three_hold false b c value other x y z e = absurd (cc e)

-- bytes that are read as metadata have a version that is read, and the metadata are written as they stand
record IsRead (bytes : List ℕ) (m : Metadata) : Type 0 where
  version : is_served m.version m.flags ≡ true
  written : AreAllBytes bytes → length bytes ≡ 512 → encoded m ≡ take 511 bytes ++ 0 ∷ []

IsRead-Ok : (bytes : List ℕ) (m : Metadata) → metadata_in bytes ≡ Ok m → IsRead bytes m
unfolding metadata_in
IsRead-Ok bytes m e =
    let all = three_hold (bytes_eq (take 16 bytes) magic) (is_served (number_at bytes 16 4) (number_at bytes 20 4)) _ (fields bytes) m _ _ _ e in
    let version : is_served (fields bytes).version (fields bytes).flags ≡ true = rw (← version-fields bytes, ← flags-fields bytes) all.1 in
    record {
      version = subst (λ (x : Metadata). is_served x.version x.flags ≡ true) all.3 version;
      written = λ fit long. subst (λ (x : Metadata). encoded x ≡ take 511 bytes ++ 0 ∷ []) all.3
          (encoded-fields bytes long fit ((bytes_eq-Decides _ _).0 all.0) ((bytes_eq-Decides _ _).0 all.2));
    }

-- ---- what a backup gives

same_unless : (check : Result (Unit {0}) MetaFault) (n m : Metadata) → unless_fault check n ≡ Ok m → n ≡ m
same_unless (Ok done) n m e = cc e
same_unless (Err fault) n m e = absurd (cc e)

-- the metadata that result have the version and the flags of those that were read, and are the same unless forced
record IsFitted (found : Result Metadata MetaFault) (force : Bool) (m : Metadata) : Type 0 where
  n : Metadata
  was : found ≡ Ok n
  version : m.version ≡ n.version
  flags : m.flags ≡ n.flags
  same : force ≡ false → n ≡ m

fitted_by : (found : Result Metadata MetaFault) (force : Bool) (sectors : ℕ) (m : Metadata) → fitted found force sectors ≡ Ok m → IsFitted found force m
fitted_by (Err fault) force sectors m e = absurd (cc e)
fitted_by (Ok n) true sectors m e =
    let is : record n { provsize = 512 * sectors } ≡ m = cc e in
    record { n = n; was = refl; version = sym (ap (λ (x : Metadata). x.version) is); flags = sym (ap (λ (x : Metadata). x.flags) is); same = λ h. absurd (cc h) }
fitted_by (Ok n) false sectors m e =
    let is : n ≡ m = same_unless (size_matches n sectors) n m e in
    record { n = n; was = refl; version = sym (ap (λ (x : Metadata). x.version) is); flags = sym (ap (λ (x : Metadata). x.flags) is); same = λ h. is }

-- none of two tests holds
none_holds : (a b : Bool) (x y : Refusal) (rest : Result Metadata Refusal) (m : Metadata) → cond a (Err x) (cond b (Err y) rest) ≡ Ok m → (b ≡ false) × (rest ≡ Ok m)
none_holds false false x y rest m e = (refl, e)
none_holds false true x y rest m e = absurd (cc e)
none_holds true b x y rest m e = absurd (cc e)

not_short : (n : ℕ) → nat_lt n 511 ≡ false → 511 ≤ n
not_short n e = grind (arith, nat_tests)

pub IsBackedUp-gives : (bytes : List ℕ) (force : Bool) (sectors : ℕ) (m : Metadata) → GivesMetadata bytes force sectors m → IsBackedUp bytes force m
IsBackedUp-gives bytes force sectors m gives =
    let sector : List ℕ = backed_up_sector bytes in
    let passed = none_holds (nat_lt sectors 2) (nat_lt (length bytes) 511) (refusals.TooSmall (512 * sectors)) (refusals.BackupTooShort (length bytes)) (fitted (metadata_in sector) force sectors) m gives.served in
    let long : 511 ≤ length bytes = not_short (length bytes) passed.0 in
    let by : IsFitted (metadata_in sector) force m = fitted_by (metadata_in sector) force sectors m passed.1 in
    let read : IsRead sector by.n = IsRead-Ok sector by.n by.was in
    let version : is_served m.version m.flags ≡ true =
    ap (λ (v : ℕ). is_served v m.flags) by.version ∙ ap (λ (f : ℕ). is_served by.n.version f) by.flags ∙ read.version in
    let written : encoded by.n ≡ sector =
    read.written (AreBytes-cut 511 bytes gives.given) (length-backed_up_sector bytes long) ∙ ap (λ (front : List ℕ). front ++ 0 ∷ []) (first_511 bytes long) in
    record {
      again = metadata_in-encoded m gives.fits.range gives.fits.salt gives.fits.mkeys version;
      plain = λ h. subst (λ (x : Metadata). encoded x ≡ sector) (by.same h) written;
    }

-- ---- the last sector

-- the sector that was replaced holds the new bytes alone
pub KeepsAlone-replace : (disk disk' : DiskState) (m : Metadata) → Logs (replace_events disk m) disk disk' → KeepsAlone (encoded m) (last_sector disk) disk'.content
KeepsAlone-replace disk disk' m logs =
    KeepsAlone-overwrite (last_sector disk) (encoded m ∷ []) (logged (Flush ∷ []) disk.content) disk'.content (omega arith)
    (logs.content ∙ sym (logged-append (Flush ∷ []) (store_events disk (encoded m)) disk.content))
