use Rattle.std.proofs.Common.{◌≡◌, ◌+◌, ◌*◌, ℕ, take, drop, sym, ap, ◌∙◌, arith}
use Rattle.std.proofs.lemmas.Grind.{common_steps}
use Rattle.std.proofs.lemmas.List.{length-drop, take_all}
use Rattle.sealing.specs.Sectors.{units}
use Rattle.sector_runs.proofs.FourSectors.{are_apart, piece_of_four, sealed_four}
use Rattle.sector_runs.proofs.InMemory.{sealed_all, sealed_next}
use Rattle.sector_runs.proofs.UnitLists.{stands, unit_small, unit_there}
use Rattle.sector_runs.proofs.four_sectors.seal_four_sectors.Goals as goal

pub unit-unit-requires-clause-there : goal.unit-unit-requires-clause-there
unit-unit-requires-clause-there c = unit_there c.args.ring.now.keying c.loop-j.ring.keying c.loop-j.j _ c.loop-j.invariant.keying c.layout-layout.ensures.units c.loop-j-test.true

pub unit-unit-requires-clause-small : goal.unit-unit-requires-clause-small
unit-unit-requires-clause-small c =
    unit_small c.args.ring.now.keying c.loop-j.ring.keying c.args.sector c.loop-j.j _ c.loop-j.invariant.keying c.layout-layout.ensures.units c.loop-j-test.true (omega (arith, c.requires.place))

pub loop-j-preserved : goal.loop-j-preserved
loop-j-preserved c =
    let k = c.args.ring.now.keying in
    let now = c.loop-j.ring.keying in
    let before = c.loop-j.invariant in
    let sector = c.args.sector in
    let j = c.loop-j.j in
    let u = c.unit-unit in
    let start = u.result.start in
    let end = u.result.end in
    let same = c.layout-layout.ensures.size in
    let broad = ap (λ (n : ℕ). 512 * n) c.layout-layout.ensures.units in
    let here = stands k now sector j _ u.result.offset start end before.keying c.layout-layout.ensures.units c.loop-j-test.true u.ensures.offset u.ensures.bytes in
    let apart = are_apart k sector j u.result.offset (512 * c.layout-layout.result.units) here.place broad in
    let sealed = c.seal_apart.new.out in
    let pieces = c.seal_apart.ensures.sealed in
    record {
      keying = c.seal_apart.ensures.keying ∙ before.keying;
      first = sealed_next k now sector j _ start end _ c.split_at.result.0.now c.loop-j.first c.copy_from_slice.new.self c.requires.on before.keying (omega (arith, same, c.requires.plain)) (omega (arith, c.requires.out)) here.below here.place
          here.unit (piece_of_four 0 sealed c.copy_from_slice.new.self _ (omega arith) pieces (c.copy_from_slice.ensures.after ∙ c.sector_of.ensures)) (omega arith) before.first;
      second = sealed_next k now (sector + 1) j _ start end _ c.split_at-2.result.0.now c.loop-j.second c.copy_from_slice-in-loop-j.new.self c.requires.on before.keying (omega (arith, same, c.requires.plain)) (omega (arith, c.requires.out)) here.below apart.second
          here.unit (piece_of_four 1 sealed c.copy_from_slice-in-loop-j.new.self _ (omega arith) pieces (c.copy_from_slice-in-loop-j.ensures.after ∙ c.sector_of-in-loop-j.ensures)) (omega arith) before.second;
      third = sealed_next k now (sector + 2) j _ start end _ c.split_at-3.result.0.now c.loop-j.third c.copy_from_slice-in-loop-j-2.new.self c.requires.on before.keying (omega (arith, same, c.requires.plain)) (omega (arith, c.requires.out)) here.below apart.third
          here.unit (piece_of_four 2 sealed c.copy_from_slice-in-loop-j-2.new.self _ (omega arith) pieces (c.copy_from_slice-in-loop-j-2.ensures.after ∙ c.sector_of-in-loop-j-2.ensures)) (omega arith) before.third;
      fourth = sealed_next k now (sector + 3) j _ start end _ c.split_at-3.result.1.now c.loop-j.fourth c.copy_from_slice-in-loop-j-3.new.self c.requires.on before.keying (omega (arith, same, c.requires.plain)) (omega (arith, c.requires.out)) here.below apart.fourth
          here.unit (piece_of_four 3 sealed c.copy_from_slice-in-loop-j-3.new.self _ (omega arith) pieces (c.copy_from_slice-in-loop-j-3.ensures.after ∙ c.sector_of-in-loop-j-3.ensures)) (omega arith) before.fourth;
    }

pub returns-clause-sealed : goal.returns-clause-sealed
returns-clause-sealed c =
    let k = c.args.ring.now.keying in
    let sector = c.args.sector in
    let plain = c.args.plain.now in
    let same = c.layout-layout.ensures.size in
    let size = c.layout-layout.result.size in
    let end : c.loop-j.j ≡ units k = (let all : c.loop-j.j ≡ c.layout-layout.result.units = omega arith in all ∙ c.layout-layout.ensures.units) in
    let a = c.split_at.ensures.front ∙ ap (λ (s : ℕ). take s plain) same in
    let behind = c.split_at.ensures.back ∙ ap (λ (s : ℕ). drop s plain) same in
    let b = c.split_at-2.ensures.front ∙ (λ o. take (same o) (behind o)) in
    let more = c.split_at-2.ensures.back ∙ (λ o. drop (same o) (behind o)) in
    let third = c.split_at-3.ensures.front ∙ (λ o. take (same o) (more o)) in
    let rest = c.split_at-3.ensures.back ∙ (λ o. drop (same o) (more o)) in
    let d = rest ∙ sym (take_all k.sectorsize (drop k.sectorsize (drop k.sectorsize (drop k.sectorsize plain)))
    (omega (arith, length-drop k.sectorsize (drop k.sectorsize (drop k.sectorsize plain)), length-drop k.sectorsize (drop k.sectorsize plain), length-drop k.sectorsize plain, c.requires.plain))) in
    sealed_four k sector plain _ _ _ _ c.loop-j.first c.loop-j.second c.loop-j.third c.loop-j.fourth a b third d
    (omega (arith, c.requires.out)) (omega (arith, c.requires.out)) (omega (arith, c.requires.out)) (omega (arith, c.requires.out))
    (sealed_all k sector c.loop-j.j c.split_at.result.0.now c.loop-j.first end c.loop-j.invariant.first)
    (sealed_all k (sector + 1) c.loop-j.j c.split_at-2.result.0.now c.loop-j.second end c.loop-j.invariant.second)
    (sealed_all k (sector + 2) c.loop-j.j c.split_at-3.result.0.now c.loop-j.third end c.loop-j.invariant.third)
    (sealed_all k (sector + 3) c.loop-j.j c.split_at-3.result.1.now c.loop-j.fourth end c.loop-j.invariant.fourth)

pub returns-clause-keying : goal.returns-clause-keying
returns-clause-keying c = grind (arith, common_steps) steps 400000
