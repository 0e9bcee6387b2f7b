use Rattle.std.proofs.Common.{◌≡◌, ◌+◌, ◌-◌, ◌*◌, ◌/◌, ◌<◌, ◌≤◌, ℕ, length, take, drop, subst, ap, ◌∙◌, arith}
use Rattle.std.proofs.Math.Nat.{mul-le-mul_right}
use Rattle.eli_base.specs.Keying.{Keying}
use Rattle.sealing.specs.Sectors.{units}
use Rattle.sector_runs.specs.Verdicts.{accepted_among}
use Rattle.sector_runs.proofs.Data.{accepted_here, opened_next}
use Rattle.sector_runs.proofs.Ranges.{bytes_inside, sector_small}
use Rattle.sector_runs.proofs.sector_groups.open_accepted_sectors.Goals as goal

pub open_accepted_sector-requires-clause-place : goal.open_accepted_sector-requires-clause-place
open_accepted_sector-requires-clause-place c =
    let k = c.args.ring.now.keying in
    let count : ℕ = length c.args.out.now / k.sectorsize in
    let more : c.loop-i.i < count = subst (λ (s : ℕ). c.loop-i.i < length c.args.out.now / s) c.layout-layout.ensures.size c.loop-i-test.true in
    sector_small k c.loop-i.ring.keying c.args.sector c.loop-i.i count c.loop-i.invariant.keying more c.requires.place

pub open_accepted_sector-requires-clause-accepted : goal.open_accepted_sector-requires-clause-accepted
open_accepted_sector-requires-clause-accepted c = λ j lt.
    let k = c.args.ring.now.keying in
    let now = c.loop-i.ring.keying in
    let i = c.loop-i.i in
    let same = c.loop-i.invariant.keying in
    let width : ℕ = 512 * c.layout-layout.result.units in
    let broad : width ≡ 512 * units k = ap (λ (n : ℕ). 512 * n) c.layout-layout.ensures.units in
    let count : ℕ = length c.args.out.now / k.sectorsize in
    let more : i < count = subst (λ (s : ℕ). i < length c.args.out.now / s) c.layout-layout.ensures.size c.loop-i-test.true in
    let below : j < units k = subst (λ (h : Keying). j < units h) same lt in
    let spread : count * (512 * units k) ≡ 512 * (count * units k) = omega arith in
    let fits : (i + 1) * units k ≤ count * units k = mul-le-mul_right (units k) (let next : i + 1 ≤ count = omega arith in next) in
    let there = accepted_here k c.args.sector i j width _ c.args.device.now broad (omega arith) below (c.requires.accepted (i * units k + j) (omega (arith, below, fits, spread, c.requires.device))) in
    (λ o. accepted_among (same o) ((c.args.sector + i) * units (same o)) (take (i * width + width - i * width) (drop (i * width) c.args.device.now)) j) ∙ there

pub loop-i-preserved : goal.loop-i-preserved
loop-i-preserved c =
    let k = c.args.ring.now.keying in
    let before = c.loop-i.invariant in
    let i = c.loop-i.i in
    let size = c.layout-layout.result.size in
    let width : ℕ = 512 * c.layout-layout.result.units in
    let broad : width ≡ 512 * units k = ap (λ (n : ℕ). 512 * n) c.layout-layout.ensures.units in
    let more = subst (λ (s : ℕ). i < length c.args.out.now / s) c.layout-layout.ensures.size c.loop-i-test.true in
    let inside = bytes_inside (length c.args.out.now) size i c.loop-i-test.true in
    record {
      keying = c.open_accepted_sector.ensures.keying ∙ before.keying;
      opened = opened_next k c.loop-i.ring.keying c.args.sector (length c.args.out.now / k.sectorsize) i width _ size _ c.args.device.now c.loop-i.out c.open_accepted_sector.new.out before.keying more broad (omega arith)
          (omega (arith, inside)) (omega (arith, inside)) c.open_accepted_sector.ensures.opened before.opened;
    }
