-- The first fault of some logical sectors that are read one after another.
use Rattle.std.proofs.Common.{◌≡◌, ◌≢◌, ℕ, zero, suc, ◌+◌, ◌<◌, ◌*◌, List, [], ◌∷◌, length, get_or, take, Option, Some, None, Result, Ok, Err, refl, sym, ap, ◌∙◌, arith, add-zero, IfSome, IsOk, subst}
use Rattle.block_traits.specs.Causes.{Counted}
use Rattle.block_traits.specs.Content.{Content}
use Rattle.block_traits.specs.Disk.{DiskState, Logs}
use Rattle.block_traits.proofs.Causes.{Counted-then}
use Rattle.block_traits.proofs.Logs.{FailsIn-then, Logs-then, logged-none}
use Rattle.eli_base.specs.declared.algorithms.Auth.TheVariants.{Off}
use Rattle.eli_base.specs.Keying.{Keying}
use Rattle.sealing.specs.Sectors.{joined, units}
use Rattle.sector_runs.specs.declared.faults.ReadFault.{ReadFault}
use Rattle.sector_runs.specs.declared.faults.ReadFault.TheVariants.{OutOfRange, DeviceFault, Integrity}
use Rattle.sector_runs.specs.Reading.{ReadsAs, ReadsFrom, data_reading, sector_reading, sector_readings}
use Rattle.sector_runs.specs.Reads.{AreAccepted, RunAnswers, SectorAnswers}
use Rattle.sector_runs.proofs.UnitLists.{joined-fault}

length-sector_readings : (k : Keying) (c : Content) (sector count : ℕ) → length (sector_readings k c sector count) ≡ count
length-sector_readings k c sector zero = refl
length-sector_readings k c sector (suc count) = ap suc (length-sector_readings k c (sector + 1) count)

get_or-sector_readings : (k : Keying) (c : Content) (sector count i : ℕ) → i < count → get_or (sector_readings k c sector count) i (Ok []) ≡ sector_reading k c (sector + i)
get_or-sector_readings k c sector zero i lt = absurd (omega arith)
get_or-sector_readings k c sector (suc count) zero lt = ap (sector_reading k c) (sym (add-zero sector))
get_or-sector_readings k c sector (suc count) (suc i) lt =
    let at : sector + 1 + i ≡ sector + suc i = omega arith in get_or-sector_readings k c (sector + 1) count i (omega arith) ∙ ap (sector_reading k c) at

take-sector_readings : (k : Keying) (c : Content) (sector count i : ℕ) → i < count → take i (sector_readings k c sector count) ≡ sector_readings k c sector i
take-sector_readings k c sector count zero lt = refl
take-sector_readings k c sector zero (suc i) lt = absurd (omega arith)
take-sector_readings k c sector (suc count) (suc i) lt =
    ap (λ (l : List (Result (List ℕ) ℕ)). sector_reading k c sector ∷ l) (take-sector_readings k c (sector + 1) count i (omega arith))

pub reads_fault : (told now_told : Option Content) (k now : Keying) (sector count i offset : ℕ) (front : List ℕ) → now ≡ k → now_told ≡ told → i < count
    → ReadsFrom told k sector i (Ok front) → IfSome now_told (λ (c : Content). sector_reading now c (sector + i) ≡ Err offset) → ReadsFrom told k sector count (Err offset)
reads_fault None now_told k now sector count i offset front same there lt so gives = tt
reads_fault (Some c) now_told k now sector count i offset front same there lt so gives =
    let P : Option Content → Type 0 = λ told. IfSome told (λ (c : Content). sector_reading now c (sector + i) ≡ Err offset) in
    let here : sector_reading now c (sector + i) ≡ Err offset = subst P there gives in
    joined-fault (sector_readings k c sector count) i front offset (rw (length-sector_readings k c sector count) lt)
    (ap joined (take-sector_readings k c sector count i lt) ∙ so)
    (get_or-sector_readings k c sector count i lt ∙ ap (λ (h : Keying). sector_reading h c (sector + i)) (sym same) ∙ here)

within_same : (k now : Keying) (unit : ℕ) → now ≡ k → unit < units now → unit < units k
within_same k now unit same lt = let P : Keying → Type 0 = λ h. unit < units h in subst P same lt

all_accepted : (told now_told : Option Content) (k now : Keying) (sector i unit : ℕ) (front : List ℕ) → now ≡ k → now_told ≡ told → ReadsFrom told k sector i (Ok front)
    → IfSome now_told (λ (c : Content). AreAccepted now c (sector + i) unit) → IfSome told (λ (c : Content). IsOk (data_reading k c sector i) × AreAccepted k c (sector + i) unit)
all_accepted None now_told k now sector i unit front same there so accepted = tt
all_accepted (Some c) now_told k now sector i unit front same there so accepted =
    let P : Option Content → Type 0 = λ told. IfSome told (λ (c : Content). AreAccepted now c (sector + i) unit) in
    let Q : Keying → Type 0 = λ h. AreAccepted h c (sector + i) unit in
    let R : Result (List ℕ) ℕ → Type 0 = λ r. IsOk r in (subst R (sym so) refl, subst Q same (subst P there accepted))

pub run_fault : (fault : ReadFault) (first middle last : DiskState) (k now : Keying) (sector count i : ℕ) (front block bytes : List ℕ) → now ≡ k → Counted (i * units k) first.reads middle.reads → Logs [] first middle → i < count
    → ReadsAs first k sector i (Ok front) → SectorAnswers now (sector + i) middle last block (Err fault) → RunAnswers k sector count first last bytes (Err fault)
run_fault (OutOfRange a b m) first middle last k now sector count i front block bytes same asked logs lt so gives = absurd gives
run_fault DeviceFault first middle last k now sector count i front block bytes same asked logs lt so gives = record {
  passed = i;
  unit = gives.unit;
  more = lt;
  within = within_same k now gives.unit same gives.within;
  accepted = all_accepted first.content middle.content k now sector i gives.unit front same (logs.content ∙ logged-none first.content) so gives.accepted;
  asked = Counted-then (i * units k) (gives.unit + 1) (i * units k + gives.unit + 1) (omega arith) asked gives.fails.asked;
  fails = FailsIn-then [] [] logs gives.fails.fails;
}
run_fault (Integrity offset) first middle last k now sector count i front block bytes same asked logs lt so gives = record {
  tagged = let P : Keying → Type 0 = λ h. h.auth ≢ Off in subst P same gives.tagged;
  passed = i;
  unit = gives.unit;
  more = lt;
  within = within_same k now gives.unit same gives.within;
  place = gives.place ∙ ap (λ (h : Keying). 512 * ((sector + i) * units h + gives.unit)) same;
  asked = Counted-then (i * units k) (gives.unit + 1) (i * units k + gives.unit + 1) (omega arith) asked gives.asked;
  logs = Logs-then [] [] logs gives.logs;
  reads = reads_fault first.content middle.content k now sector count i offset front same (logs.content ∙ logged-none first.content) lt so gives.reads;
}
