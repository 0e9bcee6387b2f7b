-- One logical sector without authentication, at its place on the disk.
use Rattle.std.proofs.Common.{◌≡◌, ℕ, ◌*◌, ◌/◌, ◌<◌, List, sym, ap, ◌∙◌, Option, Some, None, Ok, IfSome}
use Rattle.std.proofs.Math.Nat.{mul-div_cancel}
use Rattle.block_traits.specs.Content.{Content}
use Rattle.block_traits.specs.Parts.{parts}
use Rattle.eli_base.specs.Keying.{Keying}
use Rattle.sealing.specs.Sectors.{device_sectors, reading, units}
use Rattle.sector_runs.specs.Reading.{standing, StandFrom, sector_reading}

-- the logical sector at an offset of `sector` times its size has the number `sector`
pub number_at : (sector size : ℕ) (k : Keying) → size ≡ k.sectorsize → 0 < size → sector * size / k.sectorsize ≡ sector
number_at sector size k same some = ap (λ (s : ℕ). sector * size / s) (sym same) ∙ mul-div_cancel sector some

-- what is read is the reading of the sector
pub sector_reading-is : (told : Option Content) (k : Keying) (sector size rows count : ℕ) (sealed block : List ℕ) → size ≡ k.sectorsize → 0 < size → rows ≡ units k → count ≡ units k
    → StandFrom told (sector * rows) count (parts 512 count sealed)
    → reading k (sector * size / k.sectorsize) (device_sectors k sealed) ≡ Ok block
    → IfSome told (λ c. sector_reading k c sector ≡ Ok block)
sector_reading-is None k sector size rows count sealed block same some cut all stand opened = tt
sector_reading-is (Some c) k sector size rows count sealed block same some cut all stand opened =
    let there : standing c (sector * units k) (units k) ≡ device_sectors k sealed =
    (λ i. standing c (sector * sym cut i) (sym all i)) ∙ sym stand ∙ ap (λ (n : ℕ). parts 512 n sealed) all in
    (λ i. reading k (sym (number_at sector size k same some) i) (there i)) ∙ opened
