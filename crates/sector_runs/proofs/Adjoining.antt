-- Adjoining runs of logical sectors: what is written and read of one run and then of the next is that of both at once.
use Rattle.std.proofs.Common.{◌≡◌, ℕ, zero, suc, ◌+◌, ◌*◌, ◌≤◌, List, [], ◌∷◌, ◌++◌, length, take, drop, Option, Some, None, Result, Ok, Err, IfSome, IsOk, refl, sym, ap, subst, ◌∙◌, arith, append_assoc}
use Rattle.std.proofs.lemmas.List.{take-append-le, drop-append-le, length-drop}
use Rattle.block_traits.specs.Causes.{Counted}
use Rattle.block_traits.specs.Content.{Content}
use Rattle.block_traits.specs.Disk.{DiskState, Logs}
use Rattle.block_traits.specs.declared.disk.Event.{Event}
use Rattle.block_traits.proofs.Causes.{Counted-then}
use Rattle.block_traits.proofs.Logs.{FailsIn-then, Logs-then, content-Logs}
use Rattle.eli_base.specs.Keying.{Keying}
use Rattle.sealing.specs.Sectors.{before, joined, units}
use Rattle.sector_runs.specs.Reading.{ReadsAs, ReadsFrom, data_reading, sector_reading, sector_readings}
use Rattle.sector_runs.specs.Reads.{AreAccepted, RunFails, RunFault}
use Rattle.sector_runs.specs.Writing.{data_writes, sector_writes}
use Rattle.sector_runs.proofs.Readings.{before-ok}

no_items : (xs : List ℕ) → length xs ≡ 0 → xs ≡ []
no_items [] h = refl
no_items (x ∷ xs) h = absurd (omega arith)

-- ---- writing

-- the writes of m + n sectors are those of the first m and then those of n more
pub data_writes-more : (k : Keying) (sector m n : ℕ) (front behind : List ℕ) → length front ≡ m * k.sectorsize
    → data_writes k sector (m + n) (front ++ behind) ≡ data_writes k sector m front ++ data_writes k (sector + m) n behind
data_writes-more k sector zero n front behind long =
    let at : sector ≡ sector + zero = omega arith in
    let count : zero + n ≡ n = omega arith in
    let none : front ≡ [] = no_items front (omega arith) in
    ap (λ (m : ℕ). data_writes k sector m (front ++ behind)) count ∙ (λ i. data_writes k (at i) n (none i ++ behind))
data_writes-more k sector (suc m) n front behind long =
    let size = k.sectorsize in
    let count : suc m + n ≡ suc (m + n) = omega arith in
    let room : size ≤ length front = omega (arith, long) in
    let first : take size (front ++ behind) ≡ take size front = take-append-le size front behind room in
    let rest : drop size (front ++ behind) ≡ drop size front ++ behind = drop-append-le size front behind room in
    let left : length (drop size front) ≡ m * size = omega (arith, length-drop size front, long) in
    let at : sector + 1 + m ≡ sector + suc m = omega arith in
    ap (λ (c : ℕ). data_writes k sector c (front ++ behind)) count
    ∙ (λ i. sector_writes k sector (first i) ++ data_writes k (sector + 1) (m + n) (rest i))
    ∙ ap (λ (l : List Event). sector_writes k sector (take size front) ++ l) (data_writes-more k (sector + 1) m n (drop size front) behind left)
    ∙ sym (append_assoc (sector_writes k sector (take size front)) (data_writes k (sector + 1) m (drop size front)) (data_writes k (sector + 1 + m) n behind))
    ∙ ap (λ (s : ℕ). data_writes k sector (suc m) front ++ data_writes k s n behind) at

-- ---- reading

-- what m + n sectors read as is what the first m read as and then what n more do
sector_readings-more : (k : Keying) (c : Content) (sector m n : ℕ) → sector_readings k c sector (m + n) ≡ sector_readings k c sector m ++ sector_readings k c (sector + m) n
sector_readings-more k c sector zero n =
    let at : sector ≡ sector + zero = omega arith in
    let count : zero + n ≡ n = omega arith in
    λ i. sector_readings k c (at i) (count i)
sector_readings-more k c sector (suc m) n =
    let count : suc m + n ≡ suc (m + n) = omega arith in
    let at : sector + 1 + m ≡ sector + suc m = omega arith in
    ap (sector_readings k c sector) count
    ∙ ap (λ (l : List (Result (List ℕ) ℕ)). sector_reading k c sector ∷ l) (sector_readings-more k c (sector + 1) m n
    ∙ ap (λ (s : ℕ). sector_readings k c (sector + 1) m ++ sector_readings k c s n) at)

pub joined-both : (front behind : List (Result (List ℕ) ℕ)) (a b : List ℕ) → joined front ≡ Ok a → joined behind ≡ Ok b → joined (front ++ behind) ≡ Ok (a ++ b)
joined-both [] behind a b h g = let none : [] ≡ a = cc in g ∙ ap (λ (l : List ℕ). Ok (l ++ b)) none
joined-both (Ok bytes ∷ front) behind a b h g =
    let parts = before-ok bytes (joined front) a h in
    ap (before bytes) (joined-both front behind parts.0 b parts.1 g)
    ∙ ap Ok (sym (append_assoc bytes parts.0 b) ∙ ap (λ (l : List ℕ). l ++ b) parts.2)
joined-both (Err offset ∷ front) behind a b h g = absurd cc

pub joined-behind : (front behind : List (Result (List ℕ) ℕ)) (a : List ℕ) (offset : ℕ) → joined front ≡ Ok a → joined behind ≡ Err offset → joined (front ++ behind) ≡ Err offset
joined-behind [] behind a offset h g = g
joined-behind (Ok bytes ∷ front) behind a offset h g =
    let parts = before-ok bytes (joined front) a h in ap (before bytes) (joined-behind front behind parts.0 offset parts.1 g)
joined-behind (Err other ∷ front) behind a offset h g = absurd cc

before-err : (bytes : List ℕ) (r : Result (List ℕ) ℕ) (offset : ℕ) → before bytes r ≡ Err offset → r ≡ Err offset
before-err bytes (Ok rest) offset h = absurd cc
before-err bytes (Err other) offset h = h

pub joined-front : (front behind : List (Result (List ℕ) ℕ)) (offset : ℕ) → joined front ≡ Err offset → joined (front ++ behind) ≡ Err offset
joined-front [] behind offset h = absurd cc
joined-front (Ok bytes ∷ front) behind offset h = ap (before bytes) (joined-front front behind offset (before-err bytes (joined front) offset h))
joined-front (Err other ∷ front) behind offset h = h

-- m sectors were read as some bytes, and then n more as others
pub ReadsFrom-both : (told now : Option Content) (k : Keying) (sector m n : ℕ) (a b : List ℕ) → now ≡ told → ReadsFrom told k sector m (Ok a) → ReadsFrom now k (sector + m) n (Ok b)
    → ReadsFrom told k sector (m + n) (Ok (a ++ b))
ReadsFrom-both None now k sector m n a b same h g = tt
ReadsFrom-both (Some c) now k sector m n a b same h g =
    let here : data_reading k c (sector + m) n ≡ Ok b = subst (λ (told : Option Content). ReadsFrom told k (sector + m) n (Ok b)) same g in
    ap joined (sector_readings-more k c sector m n) ∙ joined-both (sector_readings k c sector m) (sector_readings k c (sector + m) n) a b h here

-- m sectors were read as some bytes, and n more with a fault, and others come after them
ReadsFrom-fault : (told now : Option Content) (k : Keying) (sector m n rest : ℕ) (a : List ℕ) (offset : ℕ) → now ≡ told → ReadsFrom told k sector m (Ok a) → ReadsFrom now k (sector + m) n (Err offset)
    → ReadsFrom told k sector (m + n + rest) (Err offset)
ReadsFrom-fault None now k sector m n rest a offset same h g = tt
ReadsFrom-fault (Some c) now k sector m n rest a offset same h g =
    let here : data_reading k c (sector + m) n ≡ Err offset = subst (λ (told : Option Content). ReadsFrom told k (sector + m) n (Err offset)) same g in
    let both : data_reading k c sector (m + n) ≡ Err offset =
    ap joined (sector_readings-more k c sector m n) ∙ joined-behind (sector_readings k c sector m) (sector_readings k c (sector + m) n) a offset h here in
    ap joined (sector_readings-more k c sector (m + n) rest) ∙ joined-front (sector_readings k c sector (m + n)) (sector_readings k c (sector + (m + n)) rest) offset both

-- ---- faults, after sectors that were read

-- the first fault of n sectors, after m that were read, is the first fault of all m + n, and of those with more sectors
-- after them
pub RunFault-behind : (k : Keying) (sector m n rest offset : ℕ) (a : List ℕ) (first middle last : DiskState) → Counted (m * units k) first.reads middle.reads → Logs [] first middle → ReadsAs first k sector m (Ok a)
    → RunFault k (sector + m) n offset middle last → RunFault k sector (m + n + rest) offset first last
RunFault-behind k sector m n rest offset a first middle last asked logs so fault = record {
  tagged = fault.tagged;
  passed = m + fault.passed;
  unit = fault.unit;
  more = omega (arith, fault.more);
  within = fault.within;
  place = let at : sector + m + fault.passed ≡ sector + (m + fault.passed) = omega arith in fault.place ∙ ap (λ (s : ℕ). 512 * (s * units k + fault.unit)) at;
  asked = Counted-then (m * units k) (fault.passed * units k + fault.unit + 1) ((m + fault.passed) * units k + fault.unit + 1) (omega arith) asked fault.asked;
  logs = Logs-then [] [] logs fault.logs;
  reads = ReadsFrom-fault first.content middle.content k sector m n rest a offset (content-Logs first middle logs) so fault.reads;
}

read_on : (k : Keying) (c : Content) (sector m passed : ℕ) (a : List ℕ) (r : Result (List ℕ) ℕ) → data_reading k c sector m ≡ Ok a → data_reading k c (sector + m) passed ≡ r → IsOk r
    → IsOk (data_reading k c sector (m + passed))
read_on k c sector m passed a (Ok b) so is ok =
    let both : data_reading k c sector (m + passed) ≡ Ok (a ++ b) = ReadsFrom-both (Some c) (Some c) k sector m passed a b refl so is in
    subst (λ (r : Result (List ℕ) ℕ). IsOk r) (sym both) refl
read_on k c sector m passed a (Err offset) so is ok = absurd cc

accepted_behind : (told now : Option Content) (k : Keying) (sector m passed unit : ℕ) (a : List ℕ) → now ≡ told → ReadsFrom told k sector m (Ok a)
    → IfSome now (λ (c : Content). IsOk (data_reading k c (sector + m) passed) × AreAccepted k c (sector + m + passed) unit)
    → IfSome told (λ (c : Content). IsOk (data_reading k c sector (m + passed)) × AreAccepted k c (sector + (m + passed)) unit)
accepted_behind None now k sector m passed unit a same so accepted = tt
accepted_behind (Some c) now k sector m passed unit a same so accepted =
    let P : Option Content → Type 0 = λ told. IfSome told (λ (c : Content). IsOk (data_reading k c (sector + m) passed) × AreAccepted k c (sector + m + passed) unit) in
    let here = subst P same accepted in
    let at : sector + m + passed ≡ sector + (m + passed) = omega arith in
    (read_on k c sector m passed a (data_reading k c (sector + m) passed) so refl here.0, subst (λ (s : ℕ). AreAccepted k c s unit) at here.1)

-- the device failed in n sectors, after m that were read
pub RunFails-behind : (k : Keying) (sector m n rest : ℕ) (a : List ℕ) (first middle last : DiskState) → Counted (m * units k) first.reads middle.reads → Logs [] first middle → ReadsAs first k sector m (Ok a)
    → RunFails k (sector + m) n middle last → RunFails k sector (m + n + rest) first last
RunFails-behind k sector m n rest a first middle last asked logs so fails = record {
  passed = m + fails.passed;
  unit = fails.unit;
  more = omega (arith, fails.more);
  within = fails.within;
  accepted = accepted_behind first.content middle.content k sector m fails.passed fails.unit a (content-Logs first middle logs) so fails.accepted;
  asked = Counted-then (m * units k) (fails.passed * units k + fails.unit + 1) ((m + fails.passed) * units k + fails.unit + 1) (omega arith) asked fails.asked;
  fails = FailsIn-then [] [] logs fails.fails;
}
