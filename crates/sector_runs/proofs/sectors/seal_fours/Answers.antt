use Rattle.std.proofs.Common.{◌≡◌, ◌+◌, ◌-◌, ◌*◌, ◌≤◌, ℕ, length, take, drop, refl, ap, ◌∙◌, arith}
use Rattle.sealing.specs.Sectors.{units}
use Rattle.eli_base.specs.Units.{unit_bytes_of}
use Rattle.sector_runs.proofs.Fours.{four_fit, group_put, wholes_within}
use Rattle.sector_runs.proofs.UnitLists.{stands, unit_small, unit_there}
use Rattle.sector_runs.proofs.sectors.seal_fours.Goals as goal

pub unit-unit-requires-clause-there : goal.unit-unit-requires-clause-there
unit-unit-requires-clause-there c =
    let k = c.args.ring.now.keying in
    let fits = four_fit (unit_bytes_of k.auth) c.args.fours c.loop-i.i (length c.args.plain.now) c.loop-i-test.true c.requires.fours in
    let all = wholes_within k.auth k.sectorsize (4 * c.loop-i.i + 4) (omega (arith, fits, c.requires.plain)) in
    unit_there k c.loop-i.ring.keying (4 * c.loop-i.i) (units k) c.loop-i.invariant.keying refl (omega (arith, all))

pub unit-unit-requires-clause-small : goal.unit-unit-requires-clause-small
unit-unit-requires-clause-small c =
    let k = c.args.ring.now.keying in
    let fits = four_fit (unit_bytes_of k.auth) c.args.fours c.loop-i.i (length c.args.plain.now) c.loop-i-test.true c.requires.fours in
    let all = wholes_within k.auth k.sectorsize (4 * c.loop-i.i + 4) (omega (arith, fits, c.requires.plain)) in
    unit_small k c.loop-i.ring.keying c.args.sector (4 * c.loop-i.i) (units k) c.loop-i.invariant.keying refl (omega (arith, all)) (omega (arith, c.requires.place))

pub loop-i-preserved : goal.loop-i-preserved
loop-i-preserved c =
    let k = c.args.ring.now.keying in
    let before = c.loop-i.invariant in
    let i = c.loop-i.i in
    let u = c.unit-unit in
    let width = c.layout-width.result.unit_bytes in
    let at = u.result.start in
    let fits = four_fit (unit_bytes_of k.auth) c.args.fours i (length c.args.plain.now) c.loop-i-test.true c.requires.fours in
    let all = wholes_within k.auth k.sectorsize (4 * i + 4) (omega (arith, fits, c.requires.plain)) in
    let here = stands k c.loop-i.ring.keying c.args.sector (4 * i) (units k) u.result.offset at u.result.end before.keying refl (omega (arith, all)) u.ensures.offset u.ensures.bytes in
    let room : 2048 * i + 2048 ≤ length c.loop-i.out = omega (arith, all, c.requires.out) in
    let plain = c.args.plain.now in
    let one : at + width - at ≡ width = omega arith in
    let two : at + 2 * width - (at + width) ≡ width = omega arith in
    let three : at + 3 * width - (at + 2 * width) ≡ width = omega arith in
    let four : at + 4 * width - (at + 3 * width) ≡ width = omega arith in
    record {
      keying = c.seal_apart.ensures.keying ∙ before.keying;
      sealed = group_put k c.loop-i.ring.keying c.args.sector i u.result.offset at width _ plain c.loop-i.out c.seal_apart.new.out _ _ _ _ c.requires.on before.keying c.layout-width.ensures.unit_bytes
          (omega (arith, fits, c.requires.plain)) here.place here.unit.starts (ap (λ (w : ℕ). take w (drop at plain)) one) (ap (λ (w : ℕ). take w (drop (at + width) plain)) two)
          (ap (λ (w : ℕ). take w (drop (at + 2 * width) plain)) three) (ap (λ (w : ℕ). take w (drop (at + 3 * width) plain)) four) c.seal_apart.ensures.sealed (omega (arith, room)) (omega (arith, room)) before.sealed;
    }
