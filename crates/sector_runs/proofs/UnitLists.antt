-- Logical sectors with authentication, unit by unit.
use Rattle.std.proofs.Common.{◌≡◌, ◌≢◌, ℕ, zero, suc, ◌+◌, ◌-◌, ◌*◌, ◌^◌, ◌<◌, ◌≤◌, min, List, [], ◌∷◌, ◌++◌, length, get_or, take, drop, Option, Some, None, IfSome, Result, Ok, Err, IsOk, OnErr, map, subst, refl, sym, ap, ◌∙◌, arith, add-one}
use Rattle.std.specs.List.{concat}
use Rattle.std.proofs.Math.Seq.{take-suc, drop-cons}
use Rattle.std.proofs.lemmas.List.{take_all, length-take-le, length-drop, take-append-drop}
use Rattle.std.proofs.lemmas.Slice.{take-put_mid}
use borrow.Rule.Slice.PartMut.{put_mid}
use Rattle.block_traits.specs.Causes.{Counted}
use Rattle.block_traits.specs.Content.{Content, present}
use Rattle.block_traits.specs.Disk.{DiskState, Logs}
use Rattle.block_traits.proofs.Causes.{Counted-then}
use Rattle.block_traits.proofs.Logs.{FailsIn-then, Logs-then, logged-none}
use Rattle.block_traits.specs.Parts.{parts}
use Rattle.eli_base.specs.declared.algorithms.Auth.{Auth}
use Rattle.eli_base.specs.declared.algorithms.Auth.TheVariants.{Off}
use Rattle.eli_base.specs.Keying.{Keying}
use Rattle.eli_base.specs.Units.{unit_bytes_of}
use Rattle.range_keys.specs.Unit.{IsUnit}
use Rattle.eli_base.proofs.Units.{units_reach}
use Rattle.sealing.specs.TaggedUnits.{opened_tagged}
use Rattle.sealing.specs.Runs.{opened_run}
use Rattle.sealing.specs.Sectors.{before, joined, opened_with, units}
use Rattle.sealing.proofs.TaggedUnitLaws.{unit_reading-tagged, length-unit_readings-tagged}
use Rattle.sector_runs.specs.Reading.{standing, sector_reading, units_read}
use Rattle.sector_runs.specs.Reads.{AreAccepted, UnitAnswers, SectorAnswers}
use Rattle.sector_runs.specs.declared.faults.ReadFault.{ReadFault}
use Rattle.sector_runs.specs.declared.faults.ReadFault.TheVariants.{OutOfRange, DeviceFault, Integrity}
use Rattle.sector_runs.proofs.Readings.{before-ok, joined-push}

-- ---- where a unit stands among the bytes of its logical sector

pub length-between : (start end : ℕ) (bytes : List ℕ) → start ≤ end → end ≤ length bytes → length (take (end - start) (drop start bytes)) ≡ end - start
length-between start end bytes order within = length-take-le (end - start) (drop start bytes) (omega (arith, length-drop start bytes))

-- the unit that a loop over the units of a logical sector has reached
pub record Stands (k : Keying) (sector j offset start end : ℕ) : Type 0 where
  pub below : j < units k
  pub place : offset ≡ 512 * (sector * units k + j)
  pub unit : IsUnit k.auth k.sectorsize j start end
  pub front : min (unit_bytes_of k.auth * j) k.sectorsize ≡ start

pub stands : (k now : Keying) (sector j bound offset start end : ℕ) → now ≡ k → bound ≡ units k → j < bound → offset ≡ 512 * (sector * units now + j) → IsUnit now.auth now.sectorsize j start end
    → Stands k sector j offset start end
stands k now sector j bound offset start end same count lt at unit =
    let here : IsUnit k.auth k.sectorsize j start end = subst (λ (h : Keying). IsUnit h.auth h.sectorsize j start end) same unit in
    let starts = here.starts in
    let order = here.order in
    let within = here.within in
    record {
      below = subst (λ (n : ℕ). j < n) count lt;
      place = at ∙ ap (λ (h : Keying). 512 * (sector * units h + j)) same;
      unit = here;
      front = omega (arith, starts, order, within);
    }

-- a number that a loop over the units reaches is that of a unit
pub unit_there : (k now : Keying) (j bound : ℕ) → now ≡ k → bound ≡ units k → j < bound → j < units now
unit_there k now j bound same count lt = subst (λ (h : Keying). j < units h) (sym same) (subst (λ (n : ℕ). j < n) count lt)

pub unit_small : (k now : Keying) (sector j bound : ℕ) → now ≡ k → bound ≡ units k → j < bound → sector * units k + units k ≤ 2 ^ 44 → sector * units now + j < 2 ^ 55
unit_small k now sector j bound same count lt small = subst (λ (h : Keying). sector * units h + j < 2 ^ 55) (sym same) (omega (arith, count, lt, small))

-- ---- reading

get_or-standing : (c : Content) (n count j : ℕ) → j < count → get_or (standing c n count) j [] ≡ present c (n + j)
get_or-standing c n zero j lt = absurd (omega arith)
get_or-standing c n (suc count) zero lt = let at : n ≡ n + 0 = omega arith in ap (present c) at
get_or-standing c n (suc count) (suc j) lt = let at : n + 1 + j ≡ n + suc j = omega arith in get_or-standing c (n + 1) count j (omega arith) ∙ ap (present c) at

pub length-standing : (c : Content) (n count : ℕ) → length (standing c n count) ≡ count
length-standing c n zero = refl
length-standing c n (suc count) = ap suc (length-standing c (n + 1) count)

length-units_read : (k : Keying) (c : Content) (sector : ℕ) → k.auth ≢ Off → length (units_read k c sector) ≡ units k
length-units_read k c sector on =
    length-unit_readings-tagged k sector (standing c (sector * units k) (units k)) on ∙ length-standing c (sector * units k) (units k)

-- reading j of the list of units is that of unit j
unit_now : (k : Keying) (c : Content) (sector j n size : ℕ) → k.auth ≢ Off → j < units k → n ≡ sector * units k + j
    → size ≡ min (unit_bytes_of k.auth) (k.sectorsize - unit_bytes_of k.auth * j) → get_or (units_read k c sector) j (Ok []) ≡ opened_tagged k (512 * n) size (present c n)
unit_now k c sector j n size on lt at bytes =
    let offset : 512 * (sector * units k) + 512 * j ≡ 512 * n = omega arith in
    unit_reading-tagged k sector j (standing c (sector * units k) (units k)) on (rw (length-standing c (sector * units k) (units k)) lt)
    ∙ (λ i. opened_tagged k (offset i) (sym bytes i) ((get_or-standing c (sector * units k) (units k) j lt ∙ ap (present c) (sym at)) i))

pub joined-more : (readings : List (Result (List ℕ) ℕ)) (j : ℕ) (front piece : List ℕ) → j < length readings → joined (take j readings) ≡ Ok front
    → get_or readings j (Ok []) ≡ Ok piece → joined (take (suc j) readings) ≡ Ok (front ++ piece)
joined-more readings j front piece lt so here =
    ap joined (take-suc readings j (Ok []) lt) ∙ ap (λ (r : Result (List ℕ) ℕ). joined (take j readings ++ r ∷ [])) here ∙ joined-push (take j readings) front piece so

-- the first fault among readings is the fault of all of them joined
joined-faulty : (readings more : List (Result (List ℕ) ℕ)) (front : List ℕ) (offset : ℕ) → joined readings ≡ Ok front → joined (readings ++ Err offset ∷ more) ≡ Err offset
joined-faulty [] more front offset so = refl
joined-faulty (Ok bytes ∷ readings) more front offset so =
    let rest = before-ok bytes (joined readings) front so in ap (before bytes) (joined-faulty readings more rest.0 offset rest.1)
joined-faulty (Err other ∷ readings) more front offset so = absurd (cc so)

pub joined-fault : (readings : List (Result (List ℕ) ℕ)) (j : ℕ) (front : List ℕ) (offset : ℕ) → j < length readings → joined (take j readings) ≡ Ok front
    → get_or readings j (Ok []) ≡ Err offset → joined readings ≡ Err offset
joined-fault readings j front offset lt so here =
    ap joined (sym (take-append-drop j readings))
    ∙ ap (λ (l : List (Result (List ℕ) ℕ)). joined (take j readings ++ l)) (drop-cons readings j (Ok []) lt)
    ∙ ap (λ (r : Result (List ℕ) ℕ). joined (take j readings ++ r ∷ drop (suc j) readings)) here
    ∙ joined-faulty (take j readings) (drop (suc j) readings) front offset so

-- one unit more was read into its place
pub joined-next : (readings : List (Result (List ℕ) ℕ)) (j start end : ℕ) (block piece : List ℕ) → j < length readings → joined (take j readings) ≡ Ok (take start block)
    → get_or readings j (Ok []) ≡ Ok piece → end ≡ start + length piece → start ≤ length block
    → joined (take (j + 1) readings) ≡ Ok (take end (put_mid start (end - start) block piece))
joined-next readings j start end block piece lt so here long room =
    ap (λ (n : ℕ). joined (take n readings)) (add-one j)
    ∙ joined-more readings j (take start block) piece lt so here
    ∙ ap Ok (sym (take-put_mid start (end - start) block piece end long room))

-- ---- what reading a unit adds to what was read before, if the content is reported

pub read_next : (told now_told : Option Content) (k now : Keying) (sector j n size start end : ℕ) (block piece : List ℕ) → k.auth ≢ Off → now ≡ k → now_told ≡ told → j < units k
    → n ≡ sector * units k + j → size ≡ end - start → IsUnit k.auth k.sectorsize j start end → length block ≡ k.sectorsize → length piece ≡ end - start
    → IfSome told (λ (c : Content). joined (take j (units_read k c sector)) ≡ Ok (take start block))
    → IfSome now_told (λ (c : Content). opened_tagged now (512 * n) size (present c n) ≡ Ok piece)
    → IfSome told (λ (c : Content). joined (take (j + 1) (units_read k c sector)) ≡ Ok (take end (put_mid start (end - start) block piece)))
read_next None now_told k now sector j n size start end block piece on same there lt at count unit long len so gives = tt
read_next (Some c) now_told k now sector j n size start end block piece on same there lt at count unit long len so gives =
    let P : Option Content → Type 0 = λ told. IfSome told (λ (c : Content). opened_tagged now (512 * n) size (present c n) ≡ Ok piece) in
    let here : opened_tagged now (512 * n) size (present c n) ≡ Ok piece = subst P there gives in
    let order = unit.order in
    let within = unit.within in
    joined-next (units_read k c sector) j start end block piece (rw (length-units_read k c sector on) lt) so
    (unit_now k c sector j n size on lt at (count ∙ unit.bytes) ∙ ap (λ (h : Keying). opened_tagged h (512 * n) size (present c n)) (sym same) ∙ here)
    (omega arith) (omega arith)

read_faulty : (told now_told : Option Content) (k now : Keying) (sector j n size start end offset : ℕ) (block : List ℕ) → k.auth ≢ Off → now ≡ k → now_told ≡ told → j < units k
    → n ≡ sector * units k + j → size ≡ end - start → IsUnit k.auth k.sectorsize j start end
    → IfSome told (λ (c : Content). joined (take j (units_read k c sector)) ≡ Ok (take start block))
    → IfSome now_told (λ (c : Content). opened_tagged now (512 * n) size (present c n) ≡ Err offset)
    → IfSome told (λ (c : Content). sector_reading k c sector ≡ Err offset)
read_faulty None now_told k now sector j n size start end offset block on same there lt at count unit so gives = tt
read_faulty (Some c) now_told k now sector j n size start end offset block on same there lt at count unit so gives =
    let P : Option Content → Type 0 = λ told. IfSome told (λ (c : Content). opened_tagged now (512 * n) size (present c n) ≡ Err offset) in
    let here : opened_tagged now (512 * n) size (present c n) ≡ Err offset = subst P there gives in
    joined-fault (units_read k c sector) j (take start block) offset (rw (length-units_read k c sector on) lt) so
    (unit_now k c sector j n size on lt at (count ∙ unit.bytes) ∙ ap (λ (h : Keying). opened_tagged h (512 * n) size (present c n)) (sym same) ∙ here)

-- units that were joined are accepted
accepted_so : (told : Option Content) (k : Keying) (sector j : ℕ) (front : List ℕ) → IfSome told (λ (c : Content). joined (take j (units_read k c sector)) ≡ Ok front)
    → IfSome told (λ (c : Content). AreAccepted k c sector j)
accepted_so None k sector j front so = tt
accepted_so (Some c) k sector j front so = let P : Result (List ℕ) ℕ → Type 0 = λ r. IsOk r in subst P (sym so) refl

-- without authentication each unit is accepted
before-accepted : (front : List ℕ) (r : Result (List ℕ) ℕ) → IsOk r → IsOk (before front r)
before-accepted front (Ok rest) ok = refl
before-accepted front (Err offset) ok = absurd cc

all-accepted : (pieces : List (List ℕ)) (count : ℕ) → IsOk (joined (take count (map Ok pieces)))
all-accepted pieces zero = refl
all-accepted [] (suc count) = refl
all-accepted (piece ∷ pieces) (suc count) = before-accepted piece (joined (take count (map Ok pieces))) (all-accepted pieces count)

pub accepted-off : (told : Option Content) (k : Keying) (sector unit : ℕ) → k.auth ≡ Off → IfSome told (λ (c : Content). AreAccepted k c sector unit)
accepted-off None k sector unit off = tt
accepted-off (Some c) k sector unit off =
    let sectors : List (List ℕ) = standing c (sector * units k) (units k) in
    let P : Auth → Type 0 = λ auth. IsOk (joined (take unit (opened_with auth k sector sectors))) in
    subst P (sym off) (all-accepted (parts 512 (units k) (opened_run k (sector * k.sectorsize) (concat sectors))) unit)

pub fault_next : (fault : ReadFault) (first middle last : DiskState) (k now : Keying) (sector j n size start end : ℕ) (block piece bytes : List ℕ) → k.auth ≢ Off → now ≡ k → Counted j first.reads middle.reads → Logs [] first middle
    → j < units k → n ≡ sector * units k + j → size ≡ end - start → IsUnit k.auth k.sectorsize j start end
    → IfSome first.content (λ (c : Content). joined (take j (units_read k c sector)) ≡ Ok (take start block))
    → UnitAnswers now n size middle last piece (Err fault) → SectorAnswers k sector first last bytes (Err fault)
fault_next (OutOfRange a b m) first middle last k now sector j n size start end block piece bytes on same asked logs lt at count unit so gives = absurd gives
fault_next DeviceFault first middle last k now sector j n size start end block piece bytes on same asked logs lt at count unit so gives = record {
  unit = j;
  within = lt;
  accepted = accepted_so first.content k sector j (take start block) so;
  fails = record { asked = Counted-then j 1 (j + 1) refl asked gives.asked; fails = FailsIn-then [] [] logs gives.fails };
}
fault_next (Integrity offset) first middle last k now sector j n size start end block piece bytes on same asked logs lt at count unit so gives = record {
  tagged = on;
  unit = j;
  within = lt;
  place = gives.0 ∙ ap (λ (m : ℕ). 512 * m) at;
  asked = Counted-then j 1 (j + 1) refl asked gives.1.asked;
  logs = Logs-then [] [] logs gives.1.logs;
  reads = read_faulty first.content middle.content k now sector j n size start end offset block on same (logs.content ∙ logged-none first.content) lt at count unit so gives.1.reads;
}

pub read_all : (told : Option Content) (k : Keying) (sector j start : ℕ) (block : List ℕ) → k.auth ≢ Off → j ≡ units k → start ≡ min (unit_bytes_of k.auth * j) k.sectorsize
    → length block ≡ k.sectorsize → IfSome told (λ (c : Content). joined (take j (units_read k c sector)) ≡ Ok (take start block))
    → IfSome told (λ (c : Content). sector_reading k c sector ≡ Ok block)
read_all None k sector j start block on all end long so = tt
read_all (Some c) k sector j start block on all end long so =
    let count : length (units_read k c sector) ≤ j = rw (length-units_read k c sector on, all) (omega arith) in
    let reach = units_reach k.auth k.sectorsize in
    let most : unit_bytes_of k.auth * j ≡ unit_bytes_of k.auth * units k = ap (λ (m : ℕ). unit_bytes_of k.auth * m) all in
    let whole : length block ≤ start = omega (arith, reach, most) in
    ap joined (sym (take_all j (units_read k c sector) count)) ∙ so ∙ ap Ok (take_all start block whole)

-- ---- writing

pub on_err_so : {A E : Type 0} (P : Type 0) (r : Result A E) → P → OnErr r P
on_err_so P (Ok x) p = tt
on_err_so P (Err e) p = p
