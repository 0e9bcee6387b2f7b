-- The device sectors of some logical sectors, one after the other.
use Rattle.std.specs.Prelude.{ℕ, zero, suc, ◌+◌, List, [], ◌∷◌, ◌++◌, take, drop, Result}
use Rattle.eli_base.specs.Keying.{Keying}
use Rattle.sealing.specs.Sectors.{joined, reading, seal, units}

-- what so many logical sectors are sealed to, which have these plain bytes one after the other
abbrev pub sealed_sectors : Keying → ℕ → ℕ → List ℕ → List (List ℕ)
sealed_sectors k sector zero bytes = []
sealed_sectors k sector (suc count) bytes = seal k sector (take k.sectorsize bytes) ++ sealed_sectors k (sector + 1) count (drop k.sectorsize bytes)

-- what each of so many logical sectors reads as, from the device sectors of all
abbrev pub opened_sectors : Keying → ℕ → ℕ → List (List ℕ) → List (Result (List ℕ) ℕ)
opened_sectors k sector zero device = []
opened_sectors k sector (suc count) device = reading k sector (take (units k) device) ∷ opened_sectors k (sector + 1) count (drop (units k) device)

-- the bytes of so many logical sectors one after the other, or the first fault among them
abbrev pub opened_data : Keying → ℕ → ℕ → List (List ℕ) → Result (List ℕ) ℕ
opened_data k sector count device = joined (opened_sectors k sector count device)
