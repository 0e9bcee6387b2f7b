use Rattle.std.proofs.Common.{◌≡◌, ◌+◌, ◌-◌, ◌*◌, ◌/◌, ◌≤◌, length, ap, sym, ◌∙◌, arith, refl, ℕ}
use Rattle.std.proofs.Math.Nat.{mul-le-mul_right}
use Rattle.sealing.specs.Sectors.{units}
use Rattle.sector_runs.proofs.Data.{sealed_some}
use Rattle.sector_runs.proofs.sector_groups.seal_groups.Goals as goal

pub loop-i-preserved : goal.loop-i-preserved
loop-i-preserved c =
    let k = c.args.ring.now.keying in
    let before = c.loop-i.invariant in
    let passed : ℕ = 4 * c.loop-i.i in
    let size = c.layout-layout.result.size in
    let count : ℕ = length c.args.plain.now / size in
    let width : ℕ = 512 * c.layout-layout.result.units in
    let same = c.layout-layout.ensures.size in
    let broad : width ≡ 512 * units k = ap (λ (n : ℕ). 512 * n) c.layout-layout.ensures.units in
    let all : length c.args.out.now ≡ count * width = c.requires.out ∙ (λ o. length c.args.plain.now / sym same o * sym broad o) in
    let some : passed + 4 ≤ count = (let least : passed + 4 ≤ length c.args.plain.now / k.sectorsize = omega arith in omega (arith, least, ap (λ (s : ℕ). length c.args.plain.now / s) same)) in
    let fits : (passed + 4) * width ≤ count * width = mul-le-mul_right width some in
    let next : 4 * (c.loop-i.i + 1) ≡ passed + 4 = omega arith in
    let wide : (passed + 4) * size - passed * size ≡ 4 * size = omega arith in
    record {
      keying = c.seal_four_sectors.ensures.keying ∙ before.keying;
      sealed = sealed_some k c.loop-i.ring.keying c.args.sector passed 4 _ size width _ _ _ c.args.plain.now c.loop-i.out c.seal_four_sectors.new.out before.keying same next wide broad refl
          (omega (arith, all, fits)) (omega (arith, all, fits)) c.seal_four_sectors.ensures.sealed before.sealed;
    }
