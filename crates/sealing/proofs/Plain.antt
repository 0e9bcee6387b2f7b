-- Sealing and opening without authentication.
use Rattle.std.proofs.Common.{◌≡◌, ℕ, ◌+◌, ◌-◌, ◌*◌, ◌/◌, ◌%◌, ◌≤◌, List, length, Ok, ap, ◌∙◌, arith, mul_comm}
use Rattle.std.proofs.Math.Nat.{div-add-mod}
use Rattle.std.specs.List.{concat}
use Rattle.block_traits.proofs.PartLists.{concat-parts}
use Rattle.eli_base.specs.declared.algorithms.Auth.{Auth}
use Rattle.eli_base.specs.declared.algorithms.Auth.TheVariants.{Off}
use Rattle.eli_base.specs.Keying.{Keying}
use Rattle.eli_base.specs.Units.{units_per_sector}
use Rattle.sealing.specs.Runs.{sealed_run, opened_run}
use Rattle.sealing.specs.Sectors.{units, device_sectors, sealed_with, seal, opened_with, joined, reading}
use Rattle.sealing.proofs.Joined.{joined-ok}

-- a place that is a multiple of the sector size is that of the sector with its quotient
pub at_sector : (offset size : ℕ) → offset % size ≡ 0 → offset / size * size ≡ offset
at_sector offset size even = mul_comm (offset / size) size ∙ omega (arith, div-add-mod offset size, even)

-- the device sectors of a logical sector have its size
pub units_fill : (k : Keying) → k.auth ≡ Off → 512 ≤ k.sectorsize → k.sectorsize % 512 ≡ 0 → 512 * units k ≡ k.sectorsize
units_fill k off low whole =
    let n : units k ≡ (k.sectorsize - 1) / 512 + 1 = ap (λ (a : Auth). units_per_sector a k.sectorsize) off in
    let size : 512 * ((k.sectorsize - 1) / 512 + 1) ≡ k.sectorsize = omega arith in
    ap (λ (m : ℕ). 512 * m) n ∙ size

-- bytes of a logical sector in its device sectors, one after the other, are these bytes
pub concat-device_sectors : (k : Keying) (bytes : List ℕ) → k.auth ≡ Off → 512 ≤ k.sectorsize → k.sectorsize % 512 ≡ 0 → length bytes ≡ k.sectorsize
    → concat (device_sectors k bytes) ≡ bytes
concat-device_sectors k bytes off low whole len = let fill = units_fill k off low whole in concat-parts 512 (units k) bytes (omega (arith, fill, len))

-- a sector is sealed as one run
pub seal-plain : (k : Keying) (sector offset : ℕ) (bytes : List ℕ) → k.auth ≡ Off → sector * k.sectorsize ≡ offset → seal k sector bytes ≡ device_sectors k (sealed_run k offset bytes)
seal-plain k sector offset bytes off at =
    ap (λ (a : Auth). sealed_with a k sector bytes) off ∙ ap (λ (o : ℕ). device_sectors k (sealed_run k o bytes)) at

-- a sector is read as one run
pub reading-plain : (k : Keying) (sector offset : ℕ) (sectors : List (List ℕ)) (bytes plain : List ℕ) → k.auth ≡ Off → 512 ≤ k.sectorsize → k.sectorsize % 512 ≡ 0 → sector * k.sectorsize ≡ offset
    → concat sectors ≡ bytes → opened_run k offset bytes ≡ plain → length plain ≡ k.sectorsize → reading k sector sectors ≡ Ok plain
reading-plain k sector offset sectors bytes plain off low whole at whole_bytes is len =
    ap (λ (a : Auth). joined (opened_with a k sector sectors)) off
    ∙ joined-ok (device_sectors k (opened_run k (sector * k.sectorsize) (concat sectors)))
    ∙ (λ i. Ok (concat (device_sectors k (opened_run k (at i) (whole_bytes i)))))
    ∙ ap (λ (p : List ℕ). Ok (concat (device_sectors k p))) is
    ∙ ap Ok (concat-device_sectors k plain off low whole len)
