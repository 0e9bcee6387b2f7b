use Rattle.std.proofs.Common.{◌≡◌, ◌∙◌, arith}
use Rattle.sector_runs.proofs.InMemory.{sealed_all, sealed_next}
use Rattle.sector_runs.proofs.UnitLists.{stands, unit_small, unit_there}
use Rattle.sector_runs.proofs.sectors.seal_rest.Goals as goal

pub unit-unit-requires-clause-there : goal.unit-unit-requires-clause-there
unit-unit-requires-clause-there c = unit_there c.args.ring.now.keying c.loop-j.ring.keying c.loop-j.j _ c.loop-j.invariant.keying c.layout-j-end.ensures.units c.loop-j-test.true

pub unit-unit-requires-clause-small : goal.unit-unit-requires-clause-small
unit-unit-requires-clause-small c =
    unit_small c.args.ring.now.keying c.loop-j.ring.keying c.args.sector c.loop-j.j _ c.loop-j.invariant.keying c.layout-j-end.ensures.units c.loop-j-test.true (omega (arith, c.requires.place))

pub loop-j-preserved : goal.loop-j-preserved
loop-j-preserved c =
    let k = c.args.ring.now.keying in
    let before = c.loop-j.invariant in
    let u = c.unit-unit in
    let here = stands k c.loop-j.ring.keying c.args.sector c.loop-j.j _ u.result.offset u.result.start u.result.end before.keying c.layout-j-end.ensures.units c.loop-j-test.true u.ensures.offset u.ensures.bytes in
    record {
      keying = c.seal_piece.ensures.keying ∙ before.keying;
      sealed = sealed_next k c.loop-j.ring.keying c.args.sector c.loop-j.j u.result.offset u.result.start u.result.end _ c.args.plain.now c.loop-j.out c.copy_from_slice.new.self c.requires.on before.keying c.requires.plain
          (omega (arith, c.requires.out)) here.below here.place here.unit (c.copy_from_slice.ensures.after ∙ c.seal_piece.ensures.sealed) (omega arith) before.sealed;
    }

pub returns-clause-sealed : goal.returns-clause-sealed
returns-clause-sealed c =
    let k = c.args.ring.now.keying in
    let count = c.layout-j-end.ensures.units in
    let end : c.loop-j.j ≡ c.layout-j-end.result.units = omega (arith, count, c.requires.within) in
    sealed_all k c.args.sector c.loop-j.j c.args.plain.now c.loop-j.out (end ∙ count) c.loop-j.invariant.sealed
