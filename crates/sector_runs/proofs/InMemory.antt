-- One logical sector that is sealed or opened in memory.
use Rattle.std.proofs.Common.{◌≡◌, ◌≢◌, ℕ, ◌+◌, ◌-◌, ◌*◌, ◌/◌, ◌%◌, ◌<◌, ◌≤◌, min, true, is_ok, List, [], ◌∷◌, ◌++◌, length, get_or, take, drop, Ok, sym, ap, ◌∙◌, arith, add-one}
use Rattle.std.proofs.Math.Nat.{mul-le-mul_right, div-mul-le_self}
use Rattle.std.proofs.lemmas.Nat.{mod-mul-add}
use Rattle.std.proofs.Math.Seq.{take-suc}
use Rattle.std.proofs.lemmas.List.{take_all, take_min, length-drop}
use borrow.Rule.Slice.PartMut.{put_mid}
use Rattle.block_traits.specs.Parts.{part, parts}
use Rattle.block_traits.proofs.PartLists.{get_or-parts, length-parts}
use Rattle.eli_base.specs.declared.algorithms.Auth.TheVariants.{Off}
use Rattle.eli_base.specs.Keying.{Keying}
use Rattle.eli_base.specs.Units.{media_sectors, unit_bytes_of}
use Rattle.eli_base.proofs.Units.{units_reach}
use Rattle.sealing.specs.TaggedUnits.{opened_tagged, sealed_tagged}
use Rattle.sealing.specs.Sectors.{device_sectors, joined, reading, seal, unit_readings, unit_size, unit_size_at, units}
use Rattle.sector_runs.specs.Verdicts.{accepted_among}
use Rattle.sealing.proofs.TaggedUnitLaws.{length-unit_readings-tagged, sealed_unit-tagged, unit_reading-tagged}
use Rattle.sealing.proofs.Sectors.{length-seal}
use Rattle.sector_runs.proofs.Cuts.{parts-put}
use Rattle.sector_runs.proofs.Sealed.{number_at}
use Rattle.range_keys.specs.Unit.{IsUnit}
use Rattle.sector_runs.proofs.UnitLists.{joined-next}

-- ---- where a logical sector stands

-- a logical sector of the provider has its device sectors before the last one
pub sector_inside : (k : Keying) (sector size : ℕ) → sector < media_sectors k.auth k.sectorsize (512 * size) → sector * units k + units k < size
sector_inside k sector size below =
    let all : ℕ = 512 * size - 512 in
    let bytes : ℕ = 512 * units k in
    let media : ℕ = all / bytes in
    let within : (sector + 1) * bytes ≤ media * bytes = mul-le-mul_right bytes (let next : sector + 1 ≤ media = omega arith in next) in
    let whole : media * bytes ≤ all = div-mul-le_self all bytes in
    omega (arith, within, whole)

-- ---- with authentication

-- what a unit is sealed to
pub unit_sealed : (k : Keying) (sector j offset start end : ℕ) (plain : List ℕ) → k.auth ≢ Off → length plain ≡ k.sectorsize → j < units k → offset ≡ 512 * (sector * units k + j)
    → IsUnit k.auth k.sectorsize j start end → get_or (seal k sector plain) j [] ≡ sealed_tagged k offset (take (end - start) (drop start plain))
unit_sealed k sector j offset start end plain on size lt at unit =
    let d : ℕ = unit_bytes_of k.auth in
    let place : 512 * (sector * units k) + 512 * j ≡ offset = omega (arith, at) in
    let cut : part d j plain ≡ take (end - start) (drop start plain) =
    sym (take_min d (drop (d * j) plain))
    ∙ ap (λ (m : ℕ). take (min d m) (drop (d * j) plain)) (length-drop (d * j) plain ∙ ap (λ (m : ℕ). m - d * j) size)
    ∙ (λ i. take (sym unit.bytes i) (drop (sym unit.starts i) plain)) in
    sealed_unit-tagged k sector j plain on lt ∙ (λ i. sealed_tagged k (place i) (cut i))

-- the unit that is sealed next
pub sealed_next : (k now : Keying) (sector j offset start end width : ℕ) (plain out piece : List ℕ) → k.auth ≢ Off → now ≡ k → length plain ≡ k.sectorsize → length out ≡ 512 * units k → j < units k
    → offset ≡ 512 * (sector * units k + j) → IsUnit k.auth k.sectorsize j start end → piece ≡ sealed_tagged now offset (take (end - start) (drop start plain)) → length piece ≡ 512
    → parts 512 j out ≡ take j (seal k sector plain) → parts 512 (j + 1) (put_mid (512 * j) width out piece) ≡ take (j + 1) (seal k sector plain)
sealed_next k now sector j offset start end width plain out piece on same size long lt at unit is len so =
    let here : get_or (seal k sector plain) j [] ≡ piece =
    unit_sealed k sector j offset start end plain on size lt at unit ∙ ap (λ (h : Keying). sealed_tagged h offset (take (end - start) (drop start plain))) (sym same) ∙ sym is in
    parts-put j width out piece len (omega arith)
    ∙ (λ i. so i ++ sym here i ∷ [])
    ∙ sym (ap (λ (m : ℕ). take m (seal k sector plain)) (add-one j) ∙ take-suc (seal k sector plain) j [] (rw (length-seal k sector plain) lt))

pub sealed_all : (k : Keying) (sector j : ℕ) (plain out : List ℕ) → j ≡ units k → parts 512 j out ≡ take j (seal k sector plain) → device_sectors k out ≡ seal k sector plain
sealed_all k sector j plain out all so =
    let long = length-seal k sector plain in
    ap (λ (m : ℕ). parts 512 m out) (sym all) ∙ so ∙ take_all j (seal k sector plain) (omega arith)

-- the unit that is opened next
pub opened_next : (k now : Keying) (sector j offset start end : ℕ) (device out piece from : List ℕ) → k.auth ≢ Off → now ≡ k → j < units k → offset ≡ 512 * (sector * units k + j)
    → IsUnit k.auth k.sectorsize j start end → length out ≡ k.sectorsize → length piece ≡ end - start → from ≡ take 512 (drop (512 * j) device)
    → joined (take j (unit_readings k sector (device_sectors k device))) ≡ Ok (take start out) → opened_tagged now offset (end - start) from ≡ Ok piece
    → joined (take (j + 1) (unit_readings k sector (device_sectors k device))) ≡ Ok (take end (put_mid start (end - start) out piece))
opened_next k now sector j offset start end device out piece from on same lt at unit long len is so opened =
    let readings = unit_readings k sector (device_sectors k device) in
    let all : length readings ≡ units k = length-unit_readings-tagged k sector (device_sectors k device) on ∙ length-parts 512 (units k) device in
    let order = unit.order in
    let within = unit.within in
    let place : 512 * (sector * units k) + 512 * j ≡ offset = omega (arith, at) in
    let here : get_or readings j (Ok []) ≡ Ok piece =
    unit_reading-tagged k sector j (device_sectors k device) on (rw (length-parts 512 (units k) device) lt)
    ∙ (λ i. opened_tagged (sym same i) (place i) (sym unit.bytes i) ((get_or-parts 512 (units k) j device lt ∙ sym is) i))
    ∙ opened in
    joined-next readings j start end out piece (omega (arith, all)) so here (omega arith) (omega arith)

-- a unit that is accepted by its number on the device
pub accepted_unit : (k now : Keying) (sector j offset start end size : ℕ) (device from : List ℕ) → now ≡ k → j < units k → offset ≡ 512 * (sector * units k + j) → IsUnit k.auth k.sectorsize j start end
    → size ≡ end - start → from ≡ take 512 (drop (512 * j) device) → accepted_among k (sector * units k) device j ≡ true → is_ok (opened_tagged now offset size from) ≡ true
accepted_unit k now sector j offset start end size device from same lt at unit long is ok =
    let which : (sector * units k + j) % units k ≡ j = mod-mul-add sector (units k) j lt in
    let sized : size ≡ unit_size_at k (sector * units k + j) = long ∙ unit.bytes ∙ sym (ap (unit_size k) which) in
    (λ i. is_ok (opened_tagged (same i) (at i) (sized i) (is i))) ∙ ok

pub opened_all : (k : Keying) (sector j start : ℕ) (device out : List ℕ) → k.auth ≢ Off → j ≡ units k → start ≡ min (unit_bytes_of k.auth * j) k.sectorsize → length out ≡ k.sectorsize
    → joined (take j (unit_readings k sector (device_sectors k device))) ≡ Ok (take start out) → reading k sector (device_sectors k device) ≡ Ok out
opened_all k sector j start device out on all end long so =
    let readings = unit_readings k sector (device_sectors k device) in
    let count : length readings ≡ units k = length-unit_readings-tagged k sector (device_sectors k device) on ∙ length-parts 512 (units k) device in
    let reach = units_reach k.auth k.sectorsize in
    let most : unit_bytes_of k.auth * j ≡ unit_bytes_of k.auth * units k = ap (λ (m : ℕ). unit_bytes_of k.auth * m) all in
    ap joined (sym (take_all j readings (omega (arith, count)))) ∙ so ∙ ap Ok (take_all start out (omega (arith, reach, most)))

-- ---- without authentication

pub sealed_whole : (k : Keying) (sector size : ℕ) (bytes plain block : List ℕ) → size ≡ k.sectorsize → 0 < size → plain ≡ bytes → seal k (sector * size / k.sectorsize) plain ≡ device_sectors k block
    → device_sectors k block ≡ seal k sector bytes
sealed_whole k sector size bytes plain block same some is sealed = sym sealed ∙ (λ i. seal k (number_at sector size k same some i) (is i))
