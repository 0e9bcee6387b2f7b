-- Where the logical sectors of a request stand on the disk.
use Rattle.std.proofs.Common.{ℕ, ◌+◌, ◌-◌, ◌*◌, ◌/◌, ◌≤◌, arith}
use Rattle.std.proofs.Math.Nat.{mul-le-mul_right, div-mul-le_self}
use Rattle.eli_base.specs.Keying.{Keying}
use Rattle.eli_base.specs.Units.{media_sectors}
use Rattle.sealing.specs.Sectors.{units}

-- a request that doesn't pass the end lies within the disk
pub request_inside : (k : Keying) (sector count size : ℕ) → sector + count ≤ media_sectors k.auth k.sectorsize (512 * size) → (sector + count) * units k ≤ size
request_inside k sector count size fits =
    let all : ℕ = 512 * size - 512 in
    let bytes : ℕ = 512 * units k in
    let media : ℕ = all / bytes in
    let within : (sector + count) * bytes ≤ media * bytes = mul-le-mul_right bytes fits in
    let whole : media * bytes ≤ all = div-mul-le_self all bytes in
    omega (arith, within, whole)
