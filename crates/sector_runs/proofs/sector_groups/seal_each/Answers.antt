use Rattle.std.proofs.Common.{◌≡◌, ◌+◌, ◌*◌, ◌/◌, ◌≤◌, length, ap, sym, ◌∙◌, arith, ℕ}
use Rattle.std.proofs.Math.Nat.{mul-le-mul_right}
use Rattle.sealing.specs.Sectors.{units}
use Rattle.sector_runs.proofs.Data.{sealed_more}
use Rattle.sector_runs.proofs.sector_groups.seal_each.Goals as goal

pub loop-i-preserved : goal.loop-i-preserved
loop-i-preserved c =
    let k = c.args.ring.now.keying in
    let before = c.loop-i.invariant in
    let i = c.loop-i.i in
    let size = c.layout-layout.result.size in
    let count : ℕ = length c.args.plain.now / size in
    let width : ℕ = 512 * c.layout-layout.result.units in
    let same = c.layout-layout.ensures.size in
    let broad : width ≡ 512 * units k = ap (λ (n : ℕ). 512 * n) c.layout-layout.ensures.units in
    let all : length c.args.out.now ≡ count * width = c.requires.out ∙ (λ o. length c.args.plain.now / sym same o * sym broad o) in
    let fits : (i + 1) * width ≤ count * width = mul-le-mul_right width (let next : i + 1 ≤ count = omega arith in next) in
    record {
      keying = c.seal_sector.ensures.keying ∙ before.keying;
      sealed = sealed_more k c.loop-i.ring.keying c.args.sector i size width _ _ c.args.plain.now c.loop-i.out c.seal_sector.new.out before.keying same (omega arith) broad
          (omega arith) (omega (arith, all, fits)) c.seal_sector.ensures.sealed before.sealed;
    }
