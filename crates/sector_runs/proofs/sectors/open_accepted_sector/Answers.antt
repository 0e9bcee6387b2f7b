use Rattle.std.proofs.Common.{◌≡◌, ◌+◌, ◌-◌, ◌*◌, ℕ, List, length, take, drop, Ok, refl, sym, ap, ◌∙◌, arith}
use borrow.Rule.Slice.PartMut.{put_mid}
use Rattle.sealing.specs.TaggedUnits.{opened_tagged}
use Rattle.sector_runs.proofs.InMemory.{accepted_unit, opened_all, opened_next}
use Rattle.sector_runs.proofs.UnitLists.{length-between, stands, unit_small, unit_there}
use Rattle.sector_runs.proofs.sectors.open_accepted_sector.Goals as goal

pub unit-unit-requires-clause-there : goal.unit-unit-requires-clause-there
unit-unit-requires-clause-there c = unit_there c.args.ring.now.keying c.loop-j.ring.keying c.loop-j.j _ c.loop-j.invariant.keying c.layout-j-end.ensures.units c.loop-j-test.true

pub unit-unit-requires-clause-small : goal.unit-unit-requires-clause-small
unit-unit-requires-clause-small c =
    unit_small c.args.ring.now.keying c.loop-j.ring.keying c.args.sector c.loop-j.j _ c.loop-j.invariant.keying c.layout-j-end.ensures.units c.loop-j-test.true (omega (arith, c.requires.place))

pub open_accepted-requires-clause-accepted : goal.open_accepted-requires-clause-accepted
open_accepted-requires-clause-accepted c =
    let k = c.args.ring.now.keying in
    let u = c.unit-unit in
    let j : ℕ = c.loop-j.j in
    let here = stands k c.loop-j.ring.keying c.args.sector j _ u.result.offset u.result.start u.result.end c.loop-j.invariant.keying c.layout-j-end.ensures.units c.loop-j-test.true u.ensures.offset u.ensures.bytes in
    let order = here.unit.order in
    let within = here.unit.within in
    let wide : 512 * j + 512 - 512 * j ≡ 512 = omega arith in
    let bytes = length-between u.result.start u.result.end c.loop-j.out order (omega (arith, c.requires.out)) in
    accepted_unit k c.loop-j.ring.keying c.args.sector j u.result.offset u.result.start u.result.end _ c.args.device.now _ c.loop-j.invariant.keying here.below here.place here.unit bytes
    (ap (λ (w : ℕ). take w (drop (512 * j) c.args.device.now)) wide) (c.requires.accepted j here.below)

pub loop-j-preserved : goal.loop-j-preserved
loop-j-preserved c =
    let k = c.args.ring.now.keying in
    let before = c.loop-j.invariant in
    let u = c.unit-unit in
    let j : ℕ = c.loop-j.j in
    let start = u.result.start in
    let end = u.result.end in
    let here = stands k c.loop-j.ring.keying c.args.sector j _ u.result.offset start end before.keying c.layout-j-end.ensures.units c.loop-j-test.true u.ensures.offset u.ensures.bytes in
    let order = here.unit.order in
    let within = here.unit.within in
    let wide : 512 * j + 512 - 512 * j ≡ 512 = omega arith in
    let from : List ℕ = take (512 * j + 512 - 512 * j) (drop (512 * j) c.args.device.now) in
    let out = c.loop-j.out in
    let piece = c.open_accepted.new.out in
    let bytes : length (take (end - start) (drop start out)) ≡ end - start = length-between start end out order (omega (arith, c.requires.out)) in
    let opened : opened_tagged c.loop-j.ring.keying u.result.offset (end - start) from ≡ Ok piece =
    ap (λ (n : ℕ). opened_tagged c.loop-j.ring.keying u.result.offset n from) (sym bytes) ∙ c.open_accepted.ensures.opened in
    record {
      keying = c.open_accepted.ensures.keying ∙ before.keying;
      opened = opened_next k c.loop-j.ring.keying c.args.sector j u.result.offset start end c.args.device.now out piece from c.requires.on before.keying here.below here.place here.unit
          (omega (arith, c.requires.out)) (omega (arith, bytes, c.open_accepted.auto.out)) (ap (λ (w : ℕ). take w (drop (512 * j) c.args.device.now)) wide)
          (before.opened ∙ ap (λ (n : ℕ). Ok (take n out)) here.front) opened ∙ ap (λ (n : ℕ). Ok (take n (put_mid start (end - start) out piece))) here.unit.next;
    }

pub returns-clause-opened : goal.returns-clause-opened
returns-clause-opened c =
    let end : c.loop-j.j ≡ c.layout-j-end.result.units = omega arith in
    opened_all c.args.ring.now.keying c.args.sector c.loop-j.j _ c.args.device.now c.loop-j.out c.requires.on (end ∙ c.layout-j-end.ensures.units) refl (omega (arith, c.requires.out)) c.loop-j.invariant.opened
