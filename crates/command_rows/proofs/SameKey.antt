-- What comparing the digest of a master key with the one that was kept comes to.
use Rattle.std.proofs.Common.{◌≡◌, ◌≢◌, ℕ, List, refl, ap, Bool, true, false, cond, Result, Ok, Err, bytes_eq}
use Rattle.std.proofs.lemmas.Slice.Eq.{bytes_eq-Decides}
use Rattle.eli_base.specs.declared.refusals.Refusal.TheVariants as refusals
use Rattle.command_rows.specs.Rows.{Attachment, Kept}
use Rattle.command_rows.specs.Vocabulary.{Refusal, sha256}
use Rattle.command_rows.specs.verbs.Resume.{same_key}

abbrev by_test : Bool → Result (Unit {0}) Refusal
by_test same = cond same (Ok tt) (Err refusals.DifferentKey)

pub same_is_key : (kept : Kept) (a : Attachment) → sha256 a.keying.master ≡ kept.mark → same_key kept a ≡ Ok tt
same_is_key kept a is = ap by_test ((bytes_eq-Decides (sha256 a.keying.master) kept.mark).1 is)

other_test : (xs ys : List ℕ) (same : Bool) → bytes_eq xs ys ≡ same → xs ≢ ys → by_test same ≡ Err refusals.DifferentKey
other_test xs ys true test differ = absurd (differ ((bytes_eq-Decides xs ys).0 test))
other_test xs ys false test differ = refl

pub other_is_refused : (kept : Kept) (a : Attachment) → sha256 a.keying.master ≢ kept.mark → same_key kept a ≡ Err refusals.DifferentKey
other_is_refused kept a differ = other_test (sha256 a.keying.master) kept.mark _ refl differ

same_test : (xs ys : List ℕ) (same : Bool) → bytes_eq xs ys ≡ same → by_test same ≡ Ok tt → xs ≡ ys
same_test xs ys true test is = (bytes_eq-Decides xs ys).0 test
same_test xs ys false test is = absurd (let none : ⊥ = cc is in none)

pub key_is_same : (kept : Kept) (a : Attachment) → same_key kept a ≡ Ok tt → sha256 a.keying.master ≡ kept.mark
key_is_same kept a is = same_test (sha256 a.keying.master) kept.mark _ refl is
