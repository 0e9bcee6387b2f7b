-- Logical sectors, with authentication and without: what they are sealed to, and that it reads as their bytes.
use Rattle.std.proofs.Common.{◌≡◌, ◌≢◌, inl, inr, ℕ, ◌+◌, ◌-◌, ◌*◌, ◌%◌, ◌<◌, ◌≤◌, min, List, [], length, map, get_or, drop, All, Result, Ok, sym, ap, ◌∙◌, arith, length-take, length-drop}
use Rattle.std.proofs.lemmas.List.{ext_get_or, get_or-map, length-map}
use Rattle.std.proofs.lemmas.List.Elements.{All-from_get_or}
use Rattle.std.specs.List.{concat}
use Rattle.aes_core.specs.Schedule.{AreBytes}
use Rattle.aes_core.proofs.KeyBytes.{AreBytes-chunk}
use Rattle.block_traits.specs.Parts.{parts}
use Rattle.block_traits.proofs.PartLists.{part, length-part, length-parts, get_or-parts, concat-parts}
use Rattle.eli_base.specs.declared.algorithms.Auth.{Auth}
use Rattle.eli_base.specs.declared.algorithms.Auth.TheVariants.{Off}
use Rattle.eli_base.specs.Keying.{Keying}
use Rattle.eli_base.specs.Units.{unit_bytes_of}
use Rattle.eli_base.proofs.Units.{off_or_not, unit_whole, units_reach}
use Rattle.range_keys.specs.Ring.{IsKeying}
use Rattle.sealing.specs.Runs.{sealed_run, opened_run}
use Rattle.sealing.specs.Sectors.{units, units_in, seal, sealed_with, opened_with, unit_readings, joined, reading}
use Rattle.sealing.specs.TaggedUnits.{opened_tagged}
use Rattle.sealing.proofs.Joined.{joined-ok}
use Rattle.sealing.proofs.TaggedUnitLaws.{length-tagged, length-seal-tagged, sealed_unit-tagged, opened_tagged-sealed, length-unit_readings-tagged, unit_reading-tagged}
use Rattle.sealing.proofs.Plain.{units_fill}
use Rattle.sealing.proofs.Runs.{length-sealed_run, opened-sealed_run}

-- ---- how many device sectors, and how long

pub length-seal : (k : Keying) (sector : ℕ) (bytes : List ℕ) → length (seal k sector bytes) ≡ units k
length-seal k sector bytes = elim (off_or_not k.auth) [
  | inl off ↦
      ap (λ (a : Auth). length (sealed_with a k sector bytes)) off ∙ length-parts 512 (units k) (sealed_run k (sector * k.sectorsize) bytes)
  | inr on ↦
      length-seal-tagged k sector bytes on
]

-- without authentication unit j is a part of the run
pub sealed_unit-off : (k : Keying) (sector j : ℕ) (bytes : List ℕ) → k.auth ≡ Off → j < units k
    → get_or (seal k sector bytes) j [] ≡ part 512 j (sealed_run k (sector * k.sectorsize) bytes)
sealed_unit-off k sector j bytes off lt =
    ap (λ (a : Auth). get_or (sealed_with a k sector bytes) j []) off ∙ get_or-parts 512 (units k) j (sealed_run k (sector * k.sectorsize) bytes) lt

-- the plain bytes of unit j: how many, and whole blocks of them
pub length-unit : (k : Keying) (j : ℕ) (bytes : List ℕ) → length bytes ≡ k.sectorsize
    → length (part (unit_bytes_of k.auth) j bytes) ≡ min (unit_bytes_of k.auth) (k.sectorsize - unit_bytes_of k.auth * j)
length-unit k j bytes size =
    length-take (unit_bytes_of k.auth) (drop (unit_bytes_of k.auth * j) bytes)
    ∙ ap (min (unit_bytes_of k.auth)) (length-drop (unit_bytes_of k.auth * j) bytes ∙ ap (λ (n : ℕ). n - unit_bytes_of k.auth * j) size)

pub blocks_of_unit : (k : Keying) (j : ℕ) (bytes : List ℕ) → IsKeying k → length bytes ≡ k.sectorsize → length (part (unit_bytes_of k.auth) j bytes) % 16 ≡ 0
blocks_of_unit k j bytes is size = ap (λ (n : ℕ). n % 16) (length-unit k j bytes size) ∙ unit_whole k.auth k.sectorsize j is.whole

min_at_most : (m n len : ℕ) → len ≡ min m n → len ≤ m
min_at_most m n len is = omega arith

-- each device sector has 512 bytes
pub length-sealed_unit : (k : Keying) (sector j : ℕ) (bytes : List ℕ) → IsKeying k → length bytes ≡ k.sectorsize → AreBytes bytes → j < units k
    → length (get_or (seal k sector bytes) j []) ≡ 512
length-sealed_unit k sector j bytes is size small lt = elim (off_or_not k.auth) [
  | inl off ↦
      let whole = is.whole in
      let fill : 512 * units k ≡ k.sectorsize = units_fill k off is.at_least whole in
      let long = length-sealed_run k (sector * k.sectorsize) bytes is small (omega arith) in
      let fits : 512 * j + 512 ≤ 512 * units k = omega (arith, lt) in
      ap (λ (l : List ℕ). length l) (sealed_unit-off k sector j bytes off lt) ∙ length-part 512 j (sealed_run k (sector * k.sectorsize) bytes) (rw (long, size, ← fill) fits)
  | inr on ↦
      let offset : ℕ = 512 * (sector * units k) + 512 * j in
      let unit : List ℕ = part (unit_bytes_of k.auth) j bytes in
      let len = length-unit k j bytes size in
      let long = length-sealed_run k offset unit is (AreBytes-chunk (unit_bytes_of k.auth * j) (unit_bytes_of k.auth) bytes small) (blocks_of_unit k j bytes is size) in
      ap (λ (l : List ℕ). length l) (sealed_unit-tagged k sector j bytes on lt)
      ∙ length-tagged k offset (sealed_run k offset unit) (min_at_most (unit_bytes_of k.auth) (k.sectorsize - unit_bytes_of k.auth * j) (length (sealed_run k offset unit)) (long ∙ len))
]

pub All-seal : (k : Keying) (sector : ℕ) (bytes : List ℕ) → IsKeying k → length bytes ≡ k.sectorsize → AreBytes bytes → All (λ (s : List ℕ). length s ≡ 512) (seal k sector bytes)
All-seal k sector bytes is size small =
    let sealed = length-seal k sector bytes in
    All-from_get_or (λ (s : List ℕ). length s ≡ 512) (seal k sector bytes) [] (λ j lt. length-sealed_unit k sector j bytes is size small (rw sealed at lt))

-- a reading for each unit
pub length-unit_readings : (k : Keying) (sector : ℕ) (sectors : List (List ℕ)) → length sectors ≡ units k → length (unit_readings k sector sectors) ≡ units k
length-unit_readings k sector sectors count = elim (off_or_not k.auth) [
  | inl off ↦
      let plain : List ℕ = opened_run k (sector * k.sectorsize) (concat sectors) in
      let ok : List ℕ → Result (List ℕ) ℕ = λ b. Ok b in
      ap (λ (a : Auth). length (opened_with a k sector sectors)) off ∙ length-map (parts 512 (units k) plain) ok ∙ length-parts 512 (units k) plain
  | inr on ↦ length-unit_readings-tagged k sector sectors on ∙ count
]

-- ---- opening undoes sealing

opened_seal-off : (k : Keying) (sector : ℕ) (bytes : List ℕ) → IsKeying k → k.auth ≡ Off → AreBytes bytes → length bytes ≡ k.sectorsize
    → unit_readings k sector (seal k sector bytes) ≡ map Ok (units_in k bytes)
opened_seal-off k sector bytes is off small size =
    let offset : ℕ = sector * k.sectorsize in
    let whole = is.whole in
    let fill : 512 * units k ≡ k.sectorsize = units_fill k off is.at_least whole in
    let sealed : List ℕ = sealed_run k offset bytes in
    let long = length-sealed_run k offset bytes is small (omega arith) in
    let reach : length sealed ≤ 512 * units k = rw (fill, long, size) (omega arith) in
    (λ i. opened_with (off i) k sector (sealed_with (off i) k sector bytes))
    ∙ ap (λ (c : List ℕ). map (λ b. Ok b) (parts 512 (units k) (opened_run k offset c))) (concat-parts 512 (units k) sealed reach)
    ∙ ap (λ (p : List ℕ). map (λ b. Ok b) (parts 512 (units k) p)) (opened-sealed_run k offset bytes is small (omega arith))
    ∙ sym (ap (λ (a : Auth). map (λ b. Ok b) (parts (unit_bytes_of a) (units k) bytes)) off)

opened_seal-tagged : (k : Keying) (sector : ℕ) (bytes : List ℕ) → IsKeying k → k.auth ≢ Off → AreBytes bytes → length bytes ≡ k.sectorsize
    → unit_readings k sector (seal k sector bytes) ≡ map Ok (units_in k bytes)
opened_seal-tagged k sector bytes is on small size =
    let ok : List ℕ → Result (List ℕ) ℕ = λ b. Ok b in
    let d : ℕ = unit_bytes_of k.auth in
    let sealed = length-seal k sector bytes in
    let count : length (unit_readings k sector (seal k sector bytes)) ≡ units k = length-unit_readings-tagged k sector (seal k sector bytes) on ∙ sealed in
    let same : length (units_in k bytes) ≡ units k = length-parts d (units k) bytes in
    let mapped : length (map ok (units_in k bytes)) ≡ units k = length-map (units_in k bytes) ok ∙ same in
    ext_get_or (Ok []) (unit_readings k sector (seal k sector bytes)) (map ok (units_in k bytes)) (count ∙ sym mapped)
    (λ j lt.
    let inside : j < units k = rw count at lt in
    unit_reading-tagged k sector j (seal k sector bytes) on (rw sealed inside)
    ∙ ap (opened_tagged k (512 * (sector * units k) + 512 * j) (min d (k.sectorsize - d * j))) (sealed_unit-tagged k sector j bytes on inside)
    ∙ opened_tagged-sealed k (512 * (sector * units k) + 512 * j) (min d (k.sectorsize - d * j)) (part d j bytes) is (AreBytes-chunk (d * j) d bytes small) (blocks_of_unit k j bytes is size) (length-unit k j bytes size)
    ∙ ap Ok (sym (get_or-parts d (units k) j bytes inside))
    ∙ sym (get_or-map ok (units_in k bytes) j [] (Ok []) (rw same inside)))

pub opened_seal : (k : Keying) (sector : ℕ) (bytes : List ℕ) → IsKeying k → AreBytes bytes → length bytes ≡ k.sectorsize
    → unit_readings k sector (seal k sector bytes) ≡ map Ok (units_in k bytes)
opened_seal k sector bytes is small size = elim (off_or_not k.auth) [
  | inl off ↦ opened_seal-off k sector bytes is off small size
  | inr on ↦ opened_seal-tagged k sector bytes is on small size
]

pub reading-seal : (k : Keying) (sector : ℕ) (bytes : List ℕ) → IsKeying k → AreBytes bytes → length bytes ≡ k.sectorsize
    → reading k sector (seal k sector bytes) ≡ Ok bytes
reading-seal k sector bytes is small size =
    ap joined (opened_seal k sector bytes is small size)
    ∙ joined-ok (units_in k bytes)
    ∙ ap Ok (concat-parts (unit_bytes_of k.auth) (units k) bytes (rw size (units_reach k.auth k.sectorsize)))
