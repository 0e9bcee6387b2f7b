-- Logical sectors one after another, as the device sectors that they are sealed to and opened from.
use Rattle.std.proofs.Common.{◌≡◌, ◌≢◌, ℕ, zero, suc, ◌+◌, ◌-◌, ◌*◌, ◌/◌, ◌%◌, ◌^◌, ◌<◌, ◌≤◌, Bool, true, false, cond, is_err, is_ok, MatchResult, List, [], ◌∷◌, ◌++◌, length, get_or, take, drop, Option, Some, None, Result, Ok, Err, refl, sym, ap, subst, ◌∙◌, arith, append_assoc, append-nil, add-one}
use Rattle.std.proofs.Math.Nat.{div-add-mod, div-lt_iff_lt-mul}
use Rattle.std.proofs.lemmas.List.{get_or-drop, get_or-take, drop-drop, take-take, drop-take, drop_at, take_at, take_all, length-take-le, length-drop}
use Rattle.std.proofs.lemmas.Slice.{drop-put_mid, take-put_mid}
use borrow.Rule.Slice.PartMut.{put_mid}
use Rattle.block_traits.specs.declared.disk.Event.{Event}
use Rattle.block_traits.specs.Content.{Content, present}
use Rattle.block_traits.specs.Disk.{GivesEachFrom, write_events, writes_from}
use Rattle.block_traits.specs.Parts.{parts}
use Rattle.block_traits.proofs.PartLists.{get_or-parts, length-parts}
use Rattle.eli_base.specs.declared.algorithms.Auth.TheVariants.{Off}
use Rattle.eli_base.specs.Keying.{Keying}
use Rattle.sealing.specs.Data.{opened_data, opened_sectors, sealed_sectors}
use Rattle.sealing.specs.Sectors.{before, device_sectors, joined, reading, seal, unit_reading_at, unit_readings, units}
use Rattle.sealing.proofs.Sectors.{length-seal}
use Rattle.sealing.proofs.TaggedUnitLaws.{length-unit_readings-tagged, unit_reading-alone}
use Rattle.sector_runs.specs.Verdicts.{accepted_among}
use Rattle.sector_runs.specs.declared.faults.BadUnit.{BadUnit}
use Rattle.sector_runs.specs.Reading.{standing, StandFrom, ReadsFrom, sector_readings}
use Rattle.sector_runs.specs.Writing.{data_writes, sector_writes}
use Rattle.sector_runs.proofs.Cuts.{parts-add, parts-front, parts-put-some}
use Rattle.sector_runs.proofs.Events.{writes_from-append}
use Rattle.sector_runs.proofs.Ranges.{units-off}
use Rattle.range_keys.specs.Ring.{IsKeying}
use Rattle.sector_runs.proofs.Readings.{joined-push}
use Rattle.sector_runs.proofs.UnitLists.{length-standing}

-- ---- sealing

-- so many logical sectors, and then more
sealed-both : (k : Keying) (sector n m : ℕ) (bytes : List ℕ)
    → sealed_sectors k sector (n + m) bytes ≡ sealed_sectors k sector n bytes ++ sealed_sectors k (sector + n) m (drop (n * k.sectorsize) bytes)
sealed-both k sector zero m bytes =
    let count : zero + m ≡ m = omega arith in
    let at : sector ≡ sector + zero = omega arith in
    let none : 0 ≡ zero * k.sectorsize = omega arith in
    λ i. sealed_sectors k (at i) (count i) (drop (none i) bytes)
sealed-both k sector (suc n) m bytes =
    let S : ℕ = k.sectorsize in
    let count : suc n + m ≡ suc (n + m) = omega arith in
    let at : sector + 1 + n ≡ sector + suc n = omega arith in
    let place : S + n * S ≡ suc n * S = omega arith in
    let first : List (List ℕ) = seal k sector (take S bytes) in
    let rest : List (List ℕ) = sealed_sectors k (sector + 1) n (drop S bytes) in
    ap (λ (c : ℕ). sealed_sectors k sector c bytes) count
    ∙ ap (λ (l : List (List ℕ)). first ++ l) (sealed-both k (sector + 1) n m (drop S bytes))
    ∙ sym (append_assoc first rest (sealed_sectors k (sector + 1 + n) m (drop (n * S) (drop S bytes))))
    ∙ (λ j. (first ++ rest) ++ sealed_sectors k (at j) m ((drop-drop (n * S) S bytes ∙ ap (λ (c : ℕ). drop c bytes) place) j))

-- what logical sectors are sealed to depends on their own bytes alone
sealed-front : (k : Keying) (sector m : ℕ) (bytes : List ℕ) → sealed_sectors k sector m (take (m * k.sectorsize) bytes) ≡ sealed_sectors k sector m bytes
sealed-front k sector zero bytes = refl
sealed-front k sector (suc m) bytes =
    let S : ℕ = k.sectorsize in
    let all : suc m * S ≡ S + m * S = omega arith in
    let fits : S ≤ S + m * S = omega arith in
    let first : take S (take (suc m * S) bytes) ≡ take S bytes = ap (λ (n : ℕ). take S (take n bytes)) all ∙ take-take S (S + m * S) bytes fits in
    let rest : drop S (take (suc m * S) bytes) ≡ take (m * S) (drop S bytes) = ap (λ (n : ℕ). drop S (take n bytes)) all ∙ drop-take S (m * S) bytes in
    (λ i. seal k sector (first i) ++ sealed_sectors k (sector + 1) m (rest i))
    ∙ ap (λ (l : List (List ℕ)). seal k sector (take S bytes) ++ l) (sealed-front k (sector + 1) m (drop S bytes))

-- sealed logical sectors, with more of them put after those before
pub sealed_some : (k now : Keying) (sector n m last size width wide from room : ℕ) (bytes out block : List ℕ) → now ≡ k → size ≡ k.sectorsize → last ≡ n + m → wide ≡ m * size → width ≡ 512 * units k → from ≡ n * width
    → length block ≡ m * width → n * width ≤ length out → parts 512 (m * units now) block ≡ sealed_sectors now (sector + n) m (take wide (drop (n * size) bytes))
    → parts 512 (n * units k) out ≡ sealed_sectors k sector n bytes → parts 512 (last * units k) (put_mid from room out block) ≡ sealed_sectors k sector last bytes
sealed_some k now sector n m last size width wide from room bytes out block same long end cut broad at len fit sealed so =
    let u : ℕ = units k in
    let S : ℕ = k.sectorsize in
    let more : last * u ≡ n * u + m * u = ap (λ (c : ℕ). c * u) end ∙ (let spread : (n + m) * u ≡ n * u + m * u = omega arith in spread) in
    let place : n * width ≡ 512 * (n * u) = ap (λ (w : ℕ). n * w) broad ∙ (let turned : n * (512 * u) ≡ 512 * (n * u) = omega arith in turned) in
    let count : m * width ≡ 512 * (m * u) = ap (λ (w : ℕ). m * w) broad ∙ (let turned : m * (512 * u) ≡ 512 * (m * u) = omega arith in turned) in
    let here : parts 512 (m * u) block ≡ sealed_sectors k (sector + n) m (drop (n * S) bytes) =
    (λ j. parts 512 (m * units (sym same j)) block) ∙ sealed
    ∙ (λ j. sealed_sectors (same j) (sector + n) m (take ((cut ∙ ap (λ (s : ℕ). m * s) long) j) (drop (n * long j) bytes)))
    ∙ sealed-front k (sector + n) m (drop (n * S) bytes) in
    (λ j. parts 512 (more j) (put_mid ((at ∙ place) j) room out block))
    ∙ parts-put-some (n * u) (m * u) room out block (len ∙ count) (omega (arith, place, fit))
    ∙ (λ j. so j ++ here j)
    ∙ sym (sealed-both k sector n m bytes)
    ∙ ap (λ (c : ℕ). sealed_sectors k sector c bytes) (sym end)

-- sealed logical sectors, with one more put after those before
pub sealed_more : (k now : Keying) (sector i size width wide room : ℕ) (bytes out block : List ℕ) → now ≡ k → size ≡ k.sectorsize → wide ≡ size → width ≡ 512 * units k
    → length block ≡ width → i * width ≤ length out → device_sectors now block ≡ seal now (sector + i) (take wide (drop (i * size) bytes))
    → parts 512 (i * units k) out ≡ sealed_sectors k sector i bytes → parts 512 ((i + 1) * units k) (put_mid (i * width) room out block) ≡ sealed_sectors k sector (i + 1) bytes
sealed_more k now sector i size width wide room bytes out block same long cut broad len fit sealed so =
    let piece : List ℕ = take wide (drop (i * size) bytes) in
    let alone : 1 * units now ≡ units now = omega arith in
    let sized : wide ≡ now.sectorsize = cut ∙ long ∙ ap (λ (h : Keying). h.sectorsize) (sym same) in
    let fits : wide ≤ wide = omega arith in
    let whole : take now.sectorsize piece ≡ piece = ap (λ (s : ℕ). take s piece) (sym sized) ∙ take-take wide wide (drop (i * size) bytes) fits in
    sealed_some k now sector i 1 (i + 1) size width wide (i * width) room bytes out block same long refl (omega (arith, cut)) broad refl (omega (arith, len)) fit
    (ap (λ (n : ℕ). parts 512 n block) alone ∙ sealed ∙ ap (seal now (sector + i)) (sym whole) ∙ sym (append-nil (seal now (sector + i) (take now.sectorsize piece)))) so

-- writing the device sectors of a run in ascending order makes the writes of the run
pub writes_all : (k : Keying) (sector count : ℕ) (bytes : List ℕ) → writes_from (sector * units k) (sealed_sectors k sector count bytes) ≡ data_writes k sector count bytes
writes_all k sector zero bytes = refl
writes_all k sector (suc count) bytes =
    let S : ℕ = k.sectorsize in
    let first : List (List ℕ) = seal k sector (take S bytes) in
    let at : sector * units k + length first ≡ (sector + 1) * units k = let n = length-seal k sector (take S bytes) in omega arith in
    writes_from-append (sector * units k) first (sealed_sectors k (sector + 1) count (drop S bytes))
    ∙ ap (λ (m : ℕ). sector_writes k sector (take S bytes) ++ writes_from m (sealed_sectors k (sector + 1) count (drop S bytes))) at
    ∙ ap (λ (l : List Event). sector_writes k sector (take S bytes) ++ l) (writes_all k (sector + 1) count (drop S bytes))

-- ---- opening

-- one logical sector more
opened-suc : (k : Keying) (sector i : ℕ) (device : List (List ℕ))
    → opened_sectors k sector (suc i) device ≡ opened_sectors k sector i device ++ reading k (sector + i) (take (units k) (drop (i * units k) device)) ∷ []
opened-suc k sector zero device =
    let at : sector ≡ sector + 0 = omega arith in
    let none : 0 ≡ 0 * units k = omega arith in
    λ i. reading k (at i) (take (units k) (drop (none i) device)) ∷ []
opened-suc k sector (suc i) device =
    let u : ℕ = units k in
    let at : sector + 1 + i ≡ sector + suc i = omega arith in
    let place : u + i * u ≡ suc i * u = omega arith in
    ap (λ (l : List (Result (List ℕ) ℕ)). reading k sector (take u device) ∷ l) (opened-suc k (sector + 1) i (drop u device))
    ∙ (λ j. reading k sector (take u device) ∷ opened_sectors k (sector + 1) i (drop u device) ++ reading k (at j) (take u ((drop-drop (i * u) u device ∙ ap (λ (c : ℕ). drop c device) place) j)) ∷ [])

-- the first of some parts
take-parts : (m n : ℕ) (bytes : List ℕ) → m ≤ n → take m (parts 512 n bytes) ≡ parts 512 m bytes
take-parts zero n bytes le = refl
take-parts (suc m) zero bytes le = absurd (omega arith)
take-parts (suc m) (suc n) bytes le = ap (λ (l : List (List ℕ)). take 512 bytes ∷ l) (take-parts m n (drop 512 bytes) (omega arith))

-- the device sectors of a logical sector among those of some
cut_sectors : (k : Keying) (count i width : ℕ) (device : List ℕ) → i < count → width ≡ 512 * units k
    → parts 512 (units k) (take width (drop (i * width) device)) ≡ take (units k) (drop (i * units k) (parts 512 (count * units k) device))
cut_sectors k count i width device lt wide =
    let u : ℕ = units k in
    let rest : ℕ = count - (i + 1) in
    let sum : count ≡ i + 1 + rest = omega arith in
    let all : count * u ≡ i * u + (u + rest * u) = ap (λ (c : ℕ). c * u) sum ∙ omega arith in
    let at : i * width ≡ 512 * (i * u) = ap (λ (w : ℕ). i * w) wide ∙ omega arith in
    let some : u ≤ u + rest * u = omega arith in
    let front : take (512 * u) (take width (drop (i * width) device)) ≡ take (512 * u) (drop (i * width) device) = take-take (512 * u) width (drop (i * width) device) (omega arith) in
    let behind : drop (i * u) (parts 512 (i * u + (u + rest * u)) device) ≡ parts 512 (u + rest * u) (drop (512 * (i * u)) device) =
    ap (drop (i * u)) (parts-add (i * u) (u + rest * u) device) ∙ drop_at (parts 512 (i * u) device) (parts 512 (u + rest * u) (drop (512 * (i * u)) device)) (i * u) (length-parts 512 (i * u) device) in
    parts-front u (take width (drop (i * width) device)) (drop (i * width) device) front
    ∙ ap (λ (p : ℕ). parts 512 u (drop p device)) at
    ∙ sym (take-parts u (u + rest * u) (drop (512 * (i * u)) device) some)
    ∙ ap (take u) (sym behind)
    ∙ ap (λ (c : ℕ). take u (drop (i * u) (parts 512 c device))) (sym all)

-- the next logical sector was opened into its place
pub opened_next : (k now : Keying) (sector count i width piece size room : ℕ) (device out plain : List ℕ) → now ≡ k → i < count → width ≡ 512 * units k → piece ≡ width
    → length plain ≡ size → i * size ≤ length out → reading now (sector + i) (device_sectors now (take piece (drop (i * width) device))) ≡ Ok plain
    → opened_data k sector i (parts 512 (count * units k) device) ≡ Ok (take (i * size) out)
    → opened_data k sector (i + 1) (parts 512 (count * units k) device) ≡ Ok (take ((i + 1) * size) (put_mid (i * size) room out plain))
opened_next k now sector count i width piece size room device out plain same lt wide cut long inside here so =
    let all : List (List ℕ) = parts 512 (count * units k) device in
    let one : reading k (sector + i) (take (units k) (drop (i * units k) all)) ≡ Ok plain =
    ap (reading k (sector + i)) (sym (cut_sectors k count i width device lt wide))
    ∙ (λ j. reading (sym same j) (sector + i) (device_sectors (sym same j) (take (sym cut j) (drop (i * width) device)))) ∙ here in
    let ends : (i + 1) * size ≡ i * size + length plain = omega (arith, long) in
    ap (λ (c : ℕ). opened_data k sector c all) (add-one i)
    ∙ ap joined (opened-suc k sector i all)
    ∙ ap (λ (r : Result (List ℕ) ℕ). joined (opened_sectors k sector i all ++ r ∷ [])) one
    ∙ joined-push (opened_sectors k sector i all) (take (i * size) out) plain so
    ∙ ap Ok (sym (take-put_mid (i * size) room out plain ((i + 1) * size) ends inside))

pub opened_none : (k : Keying) (sector size : ℕ) (device : List (List ℕ)) (out : List ℕ) → opened_data k sector 0 device ≡ Ok (take (0 * size) out)
opened_none k sector size device out = let none : 0 ≡ 0 * size = omega arith in ap (λ (m : ℕ). Ok (take m out)) none

-- all logical sectors were opened into their places
pub opened_all_of : (k : Keying) (sector i count size : ℕ) (device : List (List ℕ)) (out : List ℕ) → i ≡ count → length out ≤ count * size → opened_data k sector i device ≡ Ok (take (i * size) out) → opened_data k sector count device ≡ Ok out
opened_all_of k sector i count size device out end all so =
    ap (λ (c : ℕ). opened_data k sector c device) (sym end) ∙ so ∙ ap (λ (c : ℕ). Ok (take (c * size) out)) end ∙ ap Ok (take_all (count * size) out all)

-- the bytes after a logical sector that is opened in place stand as they did
pub rest_next : (i size width : ℕ) (now all block : List ℕ) → width ≡ size → length block ≡ width → i * size + size ≤ length now → drop (i * size) now ≡ drop (i * size) all
    → drop ((i + 1) * size) (put_mid (i * size) width now block) ≡ drop ((i + 1) * size) all
rest_next i size width now all block wide long inside rest =
    let at : (i + 1) * size ≡ i * size + size = omega arith in
    drop-put_mid (i * size) width now block ((i + 1) * size) (omega (arith, at, wide)) (omega (arith, inside)) long
    ∙ ap (λ (m : ℕ). drop m now) at ∙ sym (drop-drop size (i * size) now) ∙ ap (drop size) rest ∙ drop-drop size (i * size) all ∙ ap (λ (m : ℕ). drop m all) (sym at)

-- ---- the first unit that is refused

pub ok_of : (r : Result (List ℕ) ℕ) → is_ok r ≡ true → (bytes : List ℕ) × (r ≡ Ok bytes)
ok_of (Ok bytes) ok = (bytes, refl)
ok_of (Err offset) ok = absurd (cc ok)

joined-accepted : (readings : List (Result (List ℕ) ℕ)) → ((j : ℕ) → j < length readings → is_ok (get_or readings j (Ok [])) ≡ true) → (bytes : List ℕ) × (joined readings ≡ Ok bytes)
joined-accepted [] each = ([], refl)
joined-accepted (Ok bytes ∷ readings) each =
    let rest = joined-accepted readings (λ j lt. each (suc j) (omega arith)) in (bytes ++ rest.0, ap (before bytes) rest.1)
joined-accepted (Err offset ∷ readings) each = absurd (cc (each 0 (omega arith)))

joined-first : (readings : List (Result (List ℕ) ℕ)) (j offset : ℕ) → j < length readings → ((i : ℕ) → i < j → is_ok (get_or readings i (Ok [])) ≡ true) → get_or readings j (Ok []) ≡ Err offset
    → joined readings ≡ Err offset
joined-first [] j offset lt each here = absurd (omega arith)
joined-first (r ∷ readings) zero offset lt each here = ap (λ (x : Result (List ℕ) ℕ). joined (x ∷ readings)) here
joined-first (Ok bytes ∷ readings) (suc j) offset lt each here = ap (before bytes) (joined-first readings j offset (omega arith) (λ i less. each (suc i) (omega arith)) here)
joined-first (Err other ∷ readings) (suc j) offset lt each here = absurd (cc (each 0 (omega arith)))

-- a unit that is refused reads as a fault at its byte offset
refused : (b : Bool) (bytes : List ℕ) (offset : ℕ) → is_ok (cond b (Ok bytes) (Err offset)) ≡ false → cond b (Ok bytes) (Err offset) ≡ Err offset
refused true bytes offset h = absurd (cc h)
refused false bytes offset h = refl

-- the unit of a number among device sectors
abbrev stood : Keying → ℕ → List (List ℕ) → ℕ → Result (List ℕ) ℕ
stood k n device m = unit_reading_at k (n + m) (get_or device m [])

-- a logical sector is accepted if its units are
sector_accepted : (k : Keying) (sector : ℕ) (device : List (List ℕ)) → k.auth ≢ Off → length device ≡ units k → ((j : ℕ) → j < units k → is_ok (stood k (sector * units k) device j) ≡ true)
    → (bytes : List ℕ) × (reading k sector device ≡ Ok bytes)
sector_accepted k sector device on count each =
    let readings : List (Result (List ℕ) ℕ) = unit_readings k sector device in
    let all : length readings ≡ units k = length-unit_readings-tagged k sector device on ∙ count in
    joined-accepted readings (λ j lt.
    let less : j < units k = omega (arith, all) in ap (λ (r : Result (List ℕ) ℕ). is_ok r) (unit_reading-alone k sector j device on count less) ∙ each j less)

sector_refused : (k : Keying) (sector j : ℕ) (device : List (List ℕ)) → k.auth ≢ Off → length device ≡ units k → j < units k → ((i : ℕ) → i < j → is_ok (stood k (sector * units k) device i) ≡ true)
    → is_ok (stood k (sector * units k) device j) ≡ false → reading k sector device ≡ Err (512 * (sector * units k + j))
sector_refused k sector j device on count lt each here =
    let readings : List (Result (List ℕ) ℕ) = unit_readings k sector device in
    let all : length readings ≡ units k = length-unit_readings-tagged k sector device on ∙ count in
    joined-first readings j (512 * (sector * units k + j)) (omega (arith, all)) (λ i less.
    let more : i < units k = omega arith in ap (λ (r : Result (List ℕ) ℕ). is_ok r) (unit_reading-alone k sector i device on count more) ∙ each i less)
    (unit_reading-alone k sector j device on count lt ∙ refused _ _ (512 * (sector * units k + j)) here)

-- the first unit that is refused, the j-th of the i-th logical sector, is the fault of the whole run
data_refused : (count i : ℕ) (k : Keying) (sector j : ℕ) (device : List (List ℕ)) → k.auth ≢ Off → length device ≡ count * units k → i < count → j < units k
    → ((m : ℕ) → m < i * units k + j → is_ok (stood k (sector * units k) device m) ≡ true) → is_ok (stood k (sector * units k) device (i * units k + j)) ≡ false
    → opened_data k sector count device ≡ Err (512 * (sector * units k + (i * units k + j)))
data_refused zero i k sector j device on long lt within each here = absurd (omega arith)
data_refused (suc count) zero k sector j device on long lt within each here =
    let u : ℕ = units k in
    let first : List (List ℕ) = take u device in
    let all : suc count * u ≡ u + count * u = omega arith in
    let room : length first ≡ u = length-take-le u device (omega (arith, long, all)) in
    let at : 0 * u + j ≡ j = omega arith in
    let none : (m : ℕ) → m < j → is_ok (stood k (sector * u) first m) ≡ true = λ m less.
    ap (λ (s : List ℕ). is_ok (unit_reading_at k (sector * u + m) s)) (get_or-take u device m [] (omega arith)) ∙ each m (omega arith) in
    let bad : is_ok (stood k (sector * u) first j) ≡ false =
    ap (λ (s : List ℕ). is_ok (unit_reading_at k (sector * u + j) s)) (get_or-take u device j [] within) ∙ ap (λ (m : ℕ). is_ok (stood k (sector * u) device m)) (sym at) ∙ here in
    ap (λ (r : Result (List ℕ) ℕ). joined (r ∷ opened_sectors k (sector + 1) count (drop u device))) (sector_refused k sector j first on room within none bad)
    ∙ ap (λ (m : ℕ). Err (512 * (sector * u + m))) (sym at)
data_refused (suc count) (suc i) k sector j device on long lt within each here =
    let u : ℕ = units k in
    let first : List (List ℕ) = take u device in
    let rest : List (List ℕ) = drop u device in
    let all : suc count * u ≡ u + count * u = omega arith in
    let more : suc i * u + j ≡ u + (i * u + j) = omega arith in
    let next : (sector + 1) * u ≡ sector * u + u = omega arith in
    let room : length first ≡ u = length-take-le u device (omega (arith, long, all)) in
    let left : length rest ≡ count * u = omega (arith, length-drop u device, long, all) in
    let there : (m : ℕ) → stood k ((sector + 1) * u) rest m ≡ stood k (sector * u) device (u + m) = λ m.
    let number : (sector + 1) * u + m ≡ sector * u + (u + m) = omega (arith, next) in
    λ o. unit_reading_at k (number o) (get_or-drop u device m [] o) in
    let front = sector_accepted k sector first on room (λ m less.
    ap (λ (s : List ℕ). is_ok (unit_reading_at k (sector * u + m) s)) (get_or-take u device m [] less) ∙ each m (omega (arith, more))) in
    let fault : opened_data k (sector + 1) count rest ≡ Err (512 * ((sector + 1) * u + (i * u + j))) =
    data_refused count i k (sector + 1) j rest on left (omega arith) within
    (λ m less. ap (λ (r : Result (List ℕ) ℕ). is_ok r) (there m) ∙ each (u + m) (omega (arith, more)))
    (ap (λ (r : Result (List ℕ) ℕ). is_ok r) (there (i * u + j)) ∙ ap (λ (m : ℕ). is_ok (stood k (sector * u) device m)) (sym more) ∙ here) in
    let offset : 512 * ((sector + 1) * u + (i * u + j)) ≡ 512 * (sector * u + (suc i * u + j)) = omega (arith, next, more) in
    (λ o. joined (front.1 o ∷ opened_sectors k (sector + 1) count rest)) ∙ ap (before front.0) fault ∙ ap Err offset

-- the first unit that isn't accepted is the fault, of device sectors as one run of bytes
pub opened_refused : (k : Keying) (sector count m : ℕ) (device : List ℕ) → k.auth ≢ Off → 0 < units k → m < count * units k → ((i : ℕ) → i < m → accepted_among k (sector * units k) device i ≡ true)
    → accepted_among k (sector * units k) device m ≡ false → opened_data k sector count (parts 512 (count * units k) device) ≡ Err (512 * (sector * units k + m))
opened_refused k sector count m device on some lt each here =
    let u : ℕ = units k in
    let all : List (List ℕ) = parts 512 (count * u) device in
    let i : ℕ = m / u in
    let j : ℕ = m % u in
    let at : m ≡ i * u + j = omega (arith, div-add-mod m u) in
    let one : (x : ℕ) → x < count * u → is_ok (stood k (sector * u) all x) ≡ accepted_among k (sector * u) device x = λ x less.
    ap (λ (s : List ℕ). is_ok (unit_reading_at k (sector * u + x) s)) (get_or-parts 512 (count * u) x device less) in
    data_refused count i k sector j all on (length-parts 512 (count * u) device) ((div-lt_iff_lt-mul some).1 lt) (omega arith)
    (λ x less. let below : x < m = omega (arith, at) in one x (omega arith) ∙ each x below)
    (ap (λ (x : ℕ). is_ok (stood k (sector * u) all x)) (sym at) ∙ one m lt ∙ here)
    ∙ ap (λ (x : ℕ). Err (512 * (sector * u + x))) (sym at)

-- the units of one logical sector among those of some
pub accepted_here : (k : Keying) (sector i j width piece : ℕ) (device : List ℕ) → width ≡ 512 * units k → piece ≡ width → j < units k
    → accepted_among k (sector * units k) device (i * units k + j) ≡ true → accepted_among k ((sector + i) * units k) (take piece (drop (i * width) device)) j ≡ true
accepted_here k sector i j width piece device wide cut lt there =
    let u : ℕ = units k in
    let number : (sector + i) * u + j ≡ sector * u + (i * u + j) = omega arith in
    let behind : 512 * u ≡ 512 * j + (512 * u - 512 * j) = omega arith in
    let fits : 512 ≤ 512 * u - 512 * j = omega arith in
    let from : List ℕ = drop (i * width) device in
    let place : i * width + 512 * j ≡ 512 * (i * u + j) = ap (λ (w : ℕ). i * w + 512 * j) wide ∙ omega arith in
    let here : take 512 (drop (512 * j) (take piece from)) ≡ take 512 (drop (512 * (i * u + j)) device) =
    ap (λ (w : ℕ). take 512 (drop (512 * j) (take w from))) (cut ∙ wide ∙ behind)
    ∙ ap (take 512) (drop-take (512 * j) (512 * u - 512 * j) from)
    ∙ take-take 512 (512 * u - 512 * j) (drop (512 * j) from) fits
    ∙ ap (take 512) (drop-drop (512 * j) (i * width) device ∙ ap (λ (p : ℕ). drop p device) place) in
    (λ o. is_ok (unit_reading_at k (number o) (here o))) ∙ there

-- ---- from the disk

standing-more : (c : Content) (n m count : ℕ) → standing c n (m + count) ≡ standing c n m ++ standing c (n + m) count
standing-more c n zero count =
    let at : n ≡ n + 0 = omega arith in
    let all : zero + count ≡ count = omega arith in
    λ i. standing c (at i) (all i)
standing-more c n (suc m) count =
    let all : suc m + count ≡ suc (m + count) = omega arith in
    let at : n + 1 + m ≡ n + suc m = omega arith in
    ap (standing c n) all ∙ ap (λ (l : List (List ℕ)). present c n ∷ l) (standing-more c (n + 1) m count ∙ ap (λ (x : ℕ). standing c (n + 1) m ++ standing c x count) at)

-- opening what stands on the disk gives what the provider's sectors read as
read_all : (k : Keying) (c : Content) (sector count : ℕ) → opened_sectors k sector count (standing c (sector * units k) (count * units k)) ≡ sector_readings k c sector count
read_all k c sector zero = refl
read_all k c sector (suc count) =
    let u : ℕ = units k in
    let sum : suc count * u ≡ u + count * u = omega arith in
    let at : sector * u + u ≡ (sector + 1) * u = omega arith in
    let all : standing c (sector * u) (suc count * u) ≡ standing c (sector * u) u ++ standing c ((sector + 1) * u) (count * u) =
    ap (standing c (sector * u)) sum ∙ standing-more c (sector * u) u (count * u) ∙ ap (λ (n : ℕ). standing c (sector * u) u ++ standing c n (count * u)) at in
    let long = length-standing c (sector * u) u in
    let first = ap (take u) all ∙ take_at (standing c (sector * u) u) (standing c ((sector + 1) * u) (count * u)) u long in
    let rest = ap (drop u) all ∙ drop_at (standing c (sector * u) u) (standing c ((sector + 1) * u) (count * u)) u long in
    (λ i. reading k sector (first i) ∷ opened_sectors k (sector + 1) count (rest i)) ∙ ap (λ (l : List (Result (List ℕ) ℕ)). reading k sector (standing c (sector * u) u) ∷ l) (read_all k c (sector + 1) count)

pub reads_as : (told : Option Content) (k : Keying) (sector count : ℕ) (device : List (List ℕ)) (answer : Result (List ℕ) ℕ) → StandFrom told (sector * units k) (count * units k) device → opened_data k sector count device ≡ answer
    → ReadsFrom told k sector count answer
reads_as None k sector count device answer stand is = tt
reads_as (Some c) k sector count device answer stand is = sym (ap joined (read_all k c sector count)) ∙ ap (opened_data k sector count) (sym stand) ∙ is

-- some of the device sectors that a look returned stand on the disk
pub StandFrom-each : (told : Option Content) (first m count : ℕ) (bytes : List ℕ) → GivesEachFrom told first bytes → m + count ≤ length bytes / 512
    → StandFrom told (first + m) count (parts 512 count (drop (512 * m) bytes))
StandFrom-each None first m count bytes each fits = tt
StandFrom-each (Some c) first m zero bytes each fits = refl
StandFrom-each (Some c) first m (suc count) bytes each fits =
    let here : take 512 (drop (512 * m) bytes) ≡ present c (first + m) = each m (omega (arith, fits)) in
    let next : 512 * m + 512 ≡ 512 * (m + 1) = omega arith in
    let at : first + (m + 1) ≡ first + m + 1 = omega arith in
    let behind : drop 512 (drop (512 * m) bytes) ≡ drop (512 * (m + 1)) bytes = drop-drop 512 (512 * m) bytes ∙ ap (λ (p : ℕ). drop p bytes) next in
    let rest : parts 512 count (drop (512 * (m + 1)) bytes) ≡ standing c (first + (m + 1)) count =
    StandFrom-each (Some c) first (m + 1) count bytes each (omega (arith, fits)) in
    let all : parts 512 count (drop 512 (drop (512 * m) bytes)) ≡ standing c (first + m + 1) count =
    ap (parts 512 count) behind ∙ rest ∙ ap (λ (n : ℕ). standing c n count) at in
    λ i. here i ∷ all i

-- opening what a look returned gives what the logical sectors read as
pub reads_looked : (told : Option Content) (k : Keying) (sector count : ℕ) (device : List ℕ) (answer : Result (List ℕ) ℕ) → GivesEachFrom told (sector * units k) device → length device ≡ count * (512 * units k)
    → opened_data k sector count (parts 512 (count * units k) device) ≡ answer → ReadsFrom told k sector count answer
reads_looked told k sector count device answer each long is =
    let wide : count * (512 * units k) ≡ 512 * (count * units k) = omega arith in
    let at : sector * units k + 0 ≡ sector * units k = omega arith in
    let P : ℕ → Type 0 = λ n. StandFrom told n (count * units k) (parts 512 (count * units k) device) in
    let stand = subst P at (StandFrom-each told (sector * units k) 0 (count * units k) device each (omega (arith, long, wide))) in
    reads_as told k sector count (parts 512 (count * units k) device) answer stand is

-- what holds of a successful result, if the result is no fault
pub opened_ok : {A : Type 0} (r : Result A BadUnit) (P : Type 0) (Q : BadUnit → Type 0) → is_err r ≡ false → MatchResult r (λ _. P) Q → P
opened_ok (Ok done) P Q ok so = so
opened_ok (Err bad) P Q ok so = absurd (cc ok)

-- the bytes of device sectors that have no tags are those of the logical sectors
pub whole_device : (k : Keying) (out device : ℕ) → k.auth ≡ Off → out % k.sectorsize ≡ 0 → device ≡ out / k.sectorsize * (512 * units k) → IsKeying k → out ≡ device
whole_device k out device off whole long is =
    let S : ℕ = k.sectorsize in
    let some : 0 < S = omega (arith, is.at_least) in
    let wide : 512 * units k ≡ S = omega (arith, units-off k S off refl some is.whole, is.whole) in
    let all : out / S * S ≡ device = ap (λ (w : ℕ). out / S * w) (sym wide) ∙ sym long in
    omega (arith, div-add-mod out S, whole, all)

-- a unit among those of some logical sectors has a small number
pub refused_within : (k : Keying) (sector count rows m device : ℕ) → rows ≡ units k → device ≡ count * (512 * units k) → m < device / 512 → (sector + count) * units k < 2 ^ 44 → sector * rows + m < 2 ^ 44
refused_within k sector count rows m device same long lt small =
    let at : sector * rows ≡ sector * units k = ap (λ (u : ℕ). sector * u) same in
    let spread : count * (512 * units k) ≡ 512 * (count * units k) = omega arith in
    let both : (sector + count) * units k ≡ sector * units k + count * units k = omega arith in
    omega (arith, at, spread, both, long, lt, small)

-- ---- to the disk

-- writing sealed device sectors in ascending order makes the writes of their logical sectors
pub written : (k : Keying) (sector rows : ℕ) (from sealed : List ℕ) → rows ≡ units k → length sealed ≡ length from / k.sectorsize * (512 * units k)
    → parts 512 (length from / k.sectorsize * units k) sealed ≡ sealed_sectors k sector (length from / k.sectorsize) from → write_events (sector * rows) sealed ≡ data_writes k sector (length from / k.sectorsize) from
written k sector rows from sealed same long so =
    let count : ℕ = length from / k.sectorsize in
    let spread : count * (512 * units k) ≡ 512 * (count * units k) = omega arith in
    let many : length sealed / 512 ≡ count * units k = omega (arith, long, spread) in
    (λ o. writes_from (sector * same o) (parts 512 (many o) sealed)) ∙ ap (writes_from (sector * units k)) so ∙ writes_all k sector count from
