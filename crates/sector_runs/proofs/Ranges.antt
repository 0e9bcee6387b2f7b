-- Where logical sectors stand on the disk.
use Rattle.std.proofs.Common.{◌≡◌, ℕ, ◌+◌, ◌-◌, ◌*◌, ◌/◌, ◌%◌, ◌^◌, ◌<◌, ◌≤◌, subst, sym, ap, ◌∙◌, arith}
use Rattle.std.proofs.Math.Nat.{mul-le-mul_right, mul-le-mul_left, div-mul-le_self, mul-one}
use Rattle.eli_base.specs.declared.algorithms.Auth.{Auth}
use Rattle.eli_base.specs.declared.algorithms.Auth.TheVariants.{Off}
use Rattle.eli_base.specs.Keying.{Keying}
use Rattle.eli_base.specs.Units.{units_per_sector}
use Rattle.sealing.specs.Sectors.{units}

-- how many device sectors stand in so many bytes of one logical sector
pub units-off : (k : Keying) (size : ℕ) → k.auth ≡ Off → size ≡ k.sectorsize → 0 < size → k.sectorsize % 512 ≡ 0 → size / 512 ≡ units k
units-off k size off same some whole =
    let counted : size / 512 ≡ (k.sectorsize - 1) / 512 + 1 = omega arith in
    counted ∙ sym (ap (λ (a : Auth). units_per_sector a k.sectorsize) off)

-- the bytes of logical sector i of a run lie within the bytes of the run
pub bytes_inside : (len size i : ℕ) → i < len / size → i * size + size ≤ len
bytes_inside len size i more =
    let some : i + 1 ≤ len / size = omega arith in
    omega (arith, mul-le-mul_right size some, div-mul-le_self len size)

-- n sectors that take at least one device sector each are no more than the device sectors that hold them
pub number_small : (n units size : ℕ) → 1 ≤ units → n * units ≤ size → n ≤ size
number_small n units size some fits = omega (arith, mul-le-mul_left n some, mul-one n)

-- the offset of a logical sector in bytes fits 64 bits
pub offset_small : (sector size units disk : ℕ) → size ≡ 512 * units → sector * units + units ≤ disk → disk < 2 ^ 44 → sector * size < 2 ^ 64
offset_small sector size units disk same inside small =
    let at : sector * size ≡ sector * (512 * units) = ap (λ (s : ℕ). sector * s) same in
    omega (arith, at)

-- the device sectors of logical sector i of a run have small numbers if those of the run have
pub sector_small : (k now : Keying) (sector i count : ℕ) → now ≡ k → i < count → (sector + count) * units k < 2 ^ 44 → (sector + i) * units now + units now < 2 ^ 44
sector_small k now sector i count same more small =
    let next : sector + i + 1 ≤ sector + count = omega arith in
    let most : (sector + i + 1) * units k ≤ (sector + count) * units k = mul-le-mul_right (units k) next in
    let here : (sector + i) * units k + units k < 2 ^ 44 = omega (arith, most, small) in
    subst (λ (h : Keying). (sector + i) * units h + units h < 2 ^ 44) (sym same) here
