-- What a logical sector reads as, from the writings that its device sectors hold.
use Rattle.std.specs.Prelude.{◌≡◌, ℕ, ◌-◌, ◌==◌, ◌&&◌, not, nat_lt, Bool, true, false, List, [], ◌++◌, map, get_or, take, drop, Option, Some, None, Result, Ok, Err, if◌then◌else◌}
use Rattle.std.specs.List.{range_with_len}
use Rattle.std.specs.Str.{bytes_eq}
use Rattle.eli_base.specs.declared.algorithms.Auth.{Auth}
use Rattle.eli_base.specs.declared.algorithms.Auth.TheVariants.{Off}
use Rattle.eli_base.specs.declared.algorithms.Cipher.{Cipher}
use Rattle.eli_base.specs.declared.algorithms.Cipher.TheVariants.{AesCbc, AesXts}
use Rattle.eli_base.specs.Algorithms.{auth_number, cipher_number}
use Rattle.eli_base.specs.Keying.{Keying}
use Rattle.sealing.specs.Sectors.{units, unit_readings, joined}
use Rattle.readings.specs.Writings.{PutUnit, Writing, Put, Raw, all_device_bytes, plain_bytes}

-- whether two keyings are the same in each part
abbrev pub same_keying : Keying → Keying → Bool
same_keying a b =
    a.version == b.version && (auth_number a.auth == auth_number b.auth && (cipher_number a.cipher == cipher_number b.cipher
    && (a.keylen == b.keylen && (a.sectorsize == b.sectorsize && bytes_eq a.master b.master))))

-- whether a unit that was put is unit j of this logical sector under this keying
abbrev pub is_put_of : Keying → ℕ → ℕ → PutUnit → Bool
is_put_of k sector j p = same_keying p.keying k && (p.sector == sector && p.unit == j)

-- what a writing put there as unit j of this logical sector under this keying: then it is matching
abbrev pub matching : Keying → ℕ → ℕ → Writing → Option PutUnit
matching k sector j (Put p) = if is_put_of k sector j p then Some p else None
matching k sector j (Raw bytes) = None

-- what matching means: the writing is this unit, which is unit j of this logical sector under this keying
pub record Matches (k : Keying) (sector j : ℕ) (w : Writing) (p : PutUnit) : Type 0 where
  pub is : w ≡ Put p
  pub keying : p.keying ≡ k
  pub of_sector : p.sector ≡ sector
  pub unit : p.unit ≡ j

-- the writing in unit j
abbrev pub writing_in : List Writing → ℕ → Writing
writing_in ws j = get_or ws j (Raw [])

-- what unit j opens to, from the device bytes of the writings
abbrev pub opened_unit : Keying → ℕ → List Writing → ℕ → Result (List ℕ) ℕ
opened_unit k sector ws j = get_or (unit_readings k sector (all_device_bytes ws)) j (Ok [])

-- whether the units of a logical sector are chained, so that the first 16 bytes of each unit but the first are opened
-- with the last 16 bytes of the unit before: in AES-CBC without authentication
abbrev pub are_chained : Cipher → Auth → Bool
are_chained AesCbc Off = true
are_chained AesCbc _ = false
are_chained AesXts auth = false

-- whether a matching unit is there, of the write with this number
abbrev pub is_of_write : ℕ → Option PutUnit → Bool
is_of_write number None = false
is_of_write number (Some p) = p.number == number

-- whether unit j loses its front: it is chained to a unit before it that isn't of the same write
abbrev pub loses_front : Keying → ℕ → Option PutUnit → PutUnit → Bool
loses_front k j left p = are_chained k.cipher k.auth && (nat_lt 0 j && not (is_of_write p.number left))

-- the bytes of a unit that opens
abbrev pub opened_bytes : Result (List ℕ) ℕ → List ℕ
opened_bytes (Ok bytes) = bytes
opened_bytes (Err offset) = []

-- what unit j reads as, from what matches there, what matches in the unit before, and what the unit opens to: if
-- something matches, that unit's plain bytes, but for the first 16 of a unit that loses its front; else what it opens
-- to, and only then it may be a fault
abbrev pub unit_from : Keying → ℕ → Option PutUnit → Option PutUnit → Result (List ℕ) ℕ → Result (List ℕ) ℕ
unit_from k j None left opened = opened
unit_from k j (Some p) left opened =
    Ok (if loses_front k j left p then take 16 (opened_bytes opened) ++ drop 16 (plain_bytes p) else plain_bytes p)

-- what unit j of a logical sector reads as if its device sectors hold these writings
abbrev pub read_unit : Keying → ℕ → List Writing → ℕ → Result (List ℕ) ℕ
read_unit k sector ws j =
    unit_from k j (matching k sector j (writing_in ws j)) (matching k sector (j - 1) (writing_in ws (j - 1))) (opened_unit k sector ws j)

-- what each unit reads as
abbrev pub read : Keying → ℕ → List Writing → List (Result (List ℕ) ℕ)
read k sector ws = map (read_unit k sector ws) (range_with_len 0 (units k))

-- what the logical sector reads as: the bytes of all units, or the first fault among them
abbrev pub read_sector : Keying → ℕ → List Writing → Result (List ℕ) ℕ
read_sector k sector ws = joined (read k sector ws)
