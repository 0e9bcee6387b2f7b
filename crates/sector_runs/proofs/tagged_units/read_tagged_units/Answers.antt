use Rattle.std.proofs.Common.{◌≡◌, ◌+◌, ◌-◌, ◌*◌, ◌/◌, ℕ, Ok, IfSome, [], length, take, drop, subst, refl, ◌∙◌, arith}
use borrow.Rule.Slice.PartMut.{put_mid}
use Rattle.block_traits.specs.Causes.{Counted}
use Rattle.block_traits.specs.Content.{Content}
use Rattle.block_traits.proofs.Causes.{Counted-then}
use Rattle.block_traits.proofs.Logs.{Logs-then, logged-none}
use Rattle.sealing.specs.Sectors.{joined, units}
use Rattle.sector_runs.specs.Reading.{units_read}
use Rattle.sector_runs.proofs.UnitLists.{fault_next, length-between, read_all, read_next, stands, unit_there}
use Rattle.sector_runs.proofs.tagged_units.read_tagged_units.Goals as goal

pub unit-unit-requires-clause-there : goal.unit-unit-requires-clause-there
unit-unit-requires-clause-there g c = unit_there c.args.ring.now.keying c.loop-j.ring.keying c.loop-j.j _ c.loop-j.invariant.keying c.layout-j-end.ensures.units c.loop-j-test.true

pub returns-in-Err-clause-answer : goal.returns-in-Err-clause-answer
returns-in-Err-clause-answer g c =
    let state = g.D.Disk.state in
    let k = c.args.ring.now.keying in
    let before = c.loop-j.invariant in
    let u = c.unit-unit in
    let j : ℕ = c.loop-j.j in
    let start = u.result.start in
    let end = u.result.end in
    let block = c.loop-j.block in
    let here = stands k c.loop-j.ring.keying c.args.sector j _ u.result.offset start end before.keying c.layout-j-end.ensures.units c.loop-j-test.true u.ensures.offset u.ensures.bytes in
    let at : u.result.offset / 512 ≡ c.args.sector * units k + j = omega (arith, here.place) in
    let bytes : length (take (end - start) (drop start block)) ≡ end - start = length-between start end block here.unit.order (omega (arith, here.unit.within, c.requires.size)) in
    let reads = subst (λ (n : ℕ). IfSome (state c.args.disk.now).content (λ (t : Content). joined (take j (units_read k t c.args.sector)) ≡ Ok (take n block))) here.front before.reads in
    fault_next c.in-Err.fault (state c.args.disk.now) (state c.loop-j.disk) (state c.read_tagged.new.disk) k c.loop-j.ring.keying c.args.sector j (u.result.offset / 512) _ start end block c.read_tagged.new.out
    (put_mid start (end - start) block c.read_tagged.new.out) c.requires.on before.keying before.asked before.logs here.below at bytes here.unit reads c.in-Err.ensures.answer

pub loop-j-preserved : goal.loop-j-preserved
loop-j-preserved g c =
    let state = g.D.Disk.state in
    let k = c.args.ring.now.keying in
    let before = c.loop-j.invariant in
    let u = c.unit-unit in
    let j : ℕ = c.loop-j.j in
    let start = u.result.start in
    let end = u.result.end in
    let block = c.loop-j.block in
    let piece = c.read_tagged.new.out in
    let here = stands k c.loop-j.ring.keying c.args.sector j _ u.result.offset start end before.keying c.layout-j-end.ensures.units c.loop-j-test.true u.ensures.offset u.ensures.bytes in
    let at : u.result.offset / 512 ≡ c.args.sector * units k + j = omega (arith, here.place) in
    let bytes : length (take (end - start) (drop start block)) ≡ end - start = length-between start end block here.unit.order (omega (arith, here.unit.within, c.requires.size)) in
    let put : length piece ≡ end - start = omega (arith, bytes, c.read_tagged.auto.out) in
    let told = before.logs.content ∙ logged-none (state c.args.disk.now).content in
    let reads = subst (λ (n : ℕ). IfSome (state c.args.disk.now).content (λ (t : Content). joined (take j (units_read k t c.args.sector)) ≡ Ok (take n block))) here.front before.reads in
    record {
      keying = c.in-Ok.ensures.keying ∙ before.keying;
      asked = Counted-then j 1 (j + 1) refl before.asked c.in-Ok.ensures.answer.asked;
      logs = Logs-then [] [] before.logs c.in-Ok.ensures.answer.logs;
      reads = subst (λ (n : ℕ). IfSome (state c.args.disk.now).content (λ (t : Content). joined (take (j + 1) (units_read k t c.args.sector)) ≡ Ok (take n (put_mid start (end - start) block piece)))) here.unit.next
          (read_next (state c.args.disk.now).content (state c.loop-j.disk).content k c.loop-j.ring.keying c.args.sector j (u.result.offset / 512) _ start end block piece
          c.requires.on before.keying told here.below at bytes here.unit (omega (arith, c.requires.size)) put reads c.in-Ok.ensures.answer.reads);
    }

pub returns-clause-answer : goal.returns-clause-answer
returns-clause-answer g c =
    let state = g.D.Disk.state in
    let k = c.args.ring.now.keying in
    let end : c.loop-j.j ≡ units k = (let all : c.loop-j.j ≡ c.layout-j-end.result.units = omega arith in all ∙ c.layout-j-end.ensures.units) in
    record {
      asked = subst (λ (n : ℕ). Counted n (state c.args.disk.now).reads (state c.loop-j.disk).reads) end c.loop-j.invariant.asked;
      logs = c.loop-j.invariant.logs;
      reads = read_all (state c.args.disk.now).content k c.args.sector c.loop-j.j _ c.loop-j.block c.requires.on end refl (omega (arith, c.requires.size)) c.loop-j.invariant.reads;
    }
