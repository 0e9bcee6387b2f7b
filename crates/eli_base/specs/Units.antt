-- The units of a logical sector.
use Rattle.std.specs.Prelude.{ℕ, ◌+◌, ◌-◌, ◌*◌, ◌/◌}
use Rattle.eli_base.specs.declared.algorithms.Auth.{Auth}
use Rattle.eli_base.specs.declared.algorithms.Auth.TheVariants.{Off, Sha256, Sha384, Sha512}

-- The bytes of the tag with which each device sector begins: those of the code of HMAC with this hash (FIPS 180-4,
-- figure 1), and none without authentication. geli(8), "DATA AUTHENTICATION".
abbrev pub tag_bytes : Auth → ℕ
tag_bytes Off = 0
tag_bytes Sha256 = 32
tag_bytes Sha384 = 48
tag_bytes Sha512 = 64

-- the bytes of plaintext in a unit that isn't the last of its logical sector: what the tag leaves of a device sector
abbrev pub unit_bytes_of : Auth → ℕ
unit_bytes_of auth = 512 - tag_bytes auth

-- the device sectors of a logical sector of so many bytes, which are at least 1: its bytes divided by those of a unit,
-- rounded up
abbrev pub units_per_sector : Auth → ℕ → ℕ
units_per_sector auth sectorsize = (sectorsize - 1) / unit_bytes_of auth + 1

-- the bytes of plaintext in the last unit: those that the other units leave of the logical sector
abbrev pub last_unit_bytes : Auth → ℕ → ℕ
last_unit_bytes auth sectorsize = sectorsize - (units_per_sector auth sectorsize - 1) * unit_bytes_of auth

-- the logical sectors of an image of so many bytes, whose last device sector has the metadata
abbrev pub media_sectors : Auth → ℕ → ℕ → ℕ
media_sectors auth sectorsize size = (size - 512) / (512 * units_per_sector auth sectorsize)
