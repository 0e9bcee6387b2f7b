-- A logical sector as the device sectors that it stands in, and back (geli(8); g_eli_privacy.c, g_eli_integrity.c).
-- Its units are the parts that stand in one device sector each.
use Rattle.std.specs.Prelude.{◌≡◌, ℕ, ◌+◌, ◌-◌, ◌*◌, ◌%◌, List, [], ◌∷◌, ◌++◌, length, map, get_or, min, Result, Ok, Err}
use Rattle.std.specs.List.{concat, range_with_len}
use Rattle.block_traits.specs.Parts.{part, parts}
use Rattle.eli_base.specs.declared.algorithms.Auth.{Auth}
use Rattle.eli_base.specs.declared.algorithms.Auth.TheVariants.{Off}
use Rattle.eli_base.specs.declared.algorithms.Cipher.TheVariants.{AesXts}
use Rattle.eli_base.specs.Keying.{Keying}
use Rattle.eli_base.specs.Units.{units_per_sector, unit_bytes_of}
use Rattle.sealing.specs.Runs.{sealed_run, opened_run}
use Rattle.sealing.specs.TaggedUnits.{sealed_tagged, opened_tagged}

-- how many device sectors a logical sector takes
abbrev pub units : Keying → ℕ
units k = units_per_sector k.auth k.sectorsize

-- the number of the device sector in which unit j of a logical sector stands
abbrev pub unit_place : Keying → ℕ → ℕ → ℕ
unit_place k sector j = sector * units k + j

-- the plain bytes of unit j: as many as a unit has, or in the last unit what is left
abbrev pub unit_size : Keying → ℕ → ℕ
unit_size k j = min (unit_bytes_of k.auth) (k.sectorsize - unit_bytes_of k.auth * j)

-- the bytes of a logical sector as they stand on the device, cut into device sectors
abbrev pub device_sectors : Keying → List ℕ → List (List ℕ)
device_sectors k bytes = parts 512 (units k) bytes

-- the bytes of a logical sector, unit by unit
abbrev pub units_in : Keying → List ℕ → List (List ℕ)
units_in k bytes = parts (unit_bytes_of k.auth) (units k) bytes

-- ---- sealing

-- with authentication, the device sector of unit j of a logical sector with these bytes
abbrev pub sealed_unit : Keying → ℕ → List ℕ → ℕ → List ℕ
sealed_unit k sector bytes j = sealed_tagged k (512 * unit_place k sector j) (part (unit_bytes_of k.auth) j bytes)

-- without authentication the whole logical sector is one run, which stands at its number times its size; with it
-- each unit is a run of its own, with a tag
abbrev pub sealed_with : Auth → Keying → ℕ → List ℕ → List (List ℕ)
sealed_with Off k sector bytes = device_sectors k (sealed_run k (sector * k.sectorsize) bytes)
sealed_with _ k sector bytes = map (sealed_unit k sector bytes) (range_with_len 0 (units k))

-- the device sectors of a logical sector with these bytes
abbrev pub seal : Keying → ℕ → List ℕ → List (List ℕ)
seal k sector bytes = sealed_with k.auth k sector bytes

-- ---- opening

-- with authentication, what unit j of a logical sector reads as, from its device sectors
abbrev pub unit_reading : Keying → ℕ → List (List ℕ) → ℕ → Result (List ℕ) ℕ
unit_reading k sector sectors j = opened_tagged k (512 * unit_place k sector j) (unit_size k j) (get_or sectors j [])

abbrev pub opened_with : Auth → Keying → ℕ → List (List ℕ) → List (Result (List ℕ) ℕ)
opened_with Off k sector sectors = map Ok (parts 512 (units k) (opened_run k (sector * k.sectorsize) (concat sectors)))
opened_with _ k sector sectors = map (unit_reading k sector sectors) (range_with_len 0 (length sectors))

-- what the units of a logical sector read as, from its device sectors: each its bytes, or a fault at its byte offset
abbrev pub unit_readings : Keying → ℕ → List (List ℕ) → List (Result (List ℕ) ℕ)
unit_readings k sector sectors = opened_with k.auth k sector sectors

-- these bytes and what is read after them, which may be a fault
abbrev pub before : List ℕ → Result (List ℕ) ℕ → Result (List ℕ) ℕ
before bytes (Ok more) = Ok (bytes ++ more)
before bytes (Err offset) = Err offset

-- the bytes of all units, or the first fault among them
abbrev pub joined : List (Result (List ℕ) ℕ) → Result (List ℕ) ℕ
joined [] = Ok []
joined (Ok bytes ∷ units) = before bytes (joined units)
joined (Err offset ∷ units) = Err offset

-- what a logical sector reads as, from its device sectors
abbrev pub reading : Keying → ℕ → List (List ℕ) → Result (List ℕ) ℕ
reading k sector sectors = joined (unit_readings k sector sectors)

-- ---- one device sector alone, with authentication

-- the plain bytes of the unit in device sector n
abbrev pub unit_size_at : Keying → ℕ → ℕ
unit_size_at k n = unit_size k (n % units k)

-- what the unit in device sector n reads as
abbrev pub unit_reading_at : Keying → ℕ → List ℕ → Result (List ℕ) ℕ
unit_reading_at k n sector = opened_tagged k (512 * n) (unit_size_at k n) sector

-- ---- one device sector alone, without authentication

-- a keying under which a logical sector is one device sector, enciphered by XTS
pub record IsSingle (k : Keying) : Type 0 where
  pub off : k.auth ≡ Off
  pub xts : k.cipher ≡ AesXts
  pub size : k.sectorsize ≡ 512
