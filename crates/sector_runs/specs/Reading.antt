-- What the logical sectors of a disk read as, as they stand now (geli(8)).
use Rattle.std.specs.Prelude.{◌≡◌, ℕ, zero, suc, ◌+◌, ◌*◌, List, [], ◌∷◌, Option, Some, None, Result}
use Rattle.block_traits.specs.Content.{Content, present}
use Rattle.block_traits.specs.Disk.{DiskState}
use Rattle.eli_base.specs.Keying.{Keying}
use Rattle.sealing.specs.Sectors.{joined, reading, unit_readings, units}

-- so many device sectors from number n on, as they stand now
abbrev pub standing : Content → ℕ → ℕ → List (List ℕ)
standing c n zero = []
standing c n (suc count) = present c n ∷ standing c (n + 1) count

-- so many device sectors from number n on are these, if the disk reports its content
abbrev pub StandFrom : Option Content → ℕ → ℕ → List (List ℕ) → Type 0
StandFrom None n count sectors = Unit {0}
StandFrom (Some c) n count sectors = sectors ≡ standing c n count

-- what each unit of a logical sector reads as now
abbrev pub units_read : Keying → Content → ℕ → List (Result (List ℕ) ℕ)
units_read k c sector = unit_readings k sector (standing c (sector * units k) (units k))

-- what a logical sector reads as now
abbrev pub sector_reading : Keying → Content → ℕ → Result (List ℕ) ℕ
sector_reading k c sector = reading k sector (standing c (sector * units k) (units k))

-- what each of so many logical sectors reads as
abbrev pub sector_readings : Keying → Content → ℕ → ℕ → List (Result (List ℕ) ℕ)
sector_readings k c sector zero = []
sector_readings k c sector (suc count) = sector_reading k c sector ∷ sector_readings k c (sector + 1) count

-- the bytes of so many logical sectors one after the other, or the first fault among them
abbrev pub data_reading : Keying → Content → ℕ → ℕ → Result (List ℕ) ℕ
data_reading k c sector count = joined (sector_readings k c sector count)

-- so many logical sectors read as this, if the disk reports its content
abbrev pub ReadsFrom : Option Content → Keying → ℕ → ℕ → Result (List ℕ) ℕ → Type 0
ReadsFrom None k sector count answer = Unit {0}
ReadsFrom (Some c) k sector count answer = data_reading k c sector count ≡ answer

abbrev pub ReadsAs : DiskState → Keying → ℕ → ℕ → Result (List ℕ) ℕ → Type 0
ReadsAs d k sector count answer = ReadsFrom d.content k sector count answer
