use Rattle.std.proofs.Common.{◌+◌, ◌/◌, Bool, [], ◌∷◌, length, subst, arith}
use Rattle.std.proofs.lemmas.Grind.{common_steps}
use Rattle.sector_runs.specs.Verdicts.{verdict}
use Rattle.verify_sweep.specs.Sweeping.{Lists, refused_at}
use Rattle.verify_sweep.proofs.Listing.{Lists-judged, refused_few, unit_small}
use Rattle.verify_sweep.proofs.sweeping.list_next.Goals as goal

pub list-now-requires-clause-small : goal.list-now-requires-clause-small
list-now-requires-clause-small g c =
    let disk = g.D.Disk.state c.args.on.now.disk in
    let small = unit_small c.args.on.now.keying (c.args.n + length c.args.device.now / 512) disk.size c.requires.inside disk.well_formed.bound in
    let within = c.judge-judged.ensures.within in
    omega (arith, small, within, c.loop-m-test.true)

pub loop-m-preserved : goal.loop-m-preserved
loop-m-preserved g c =
    let k = c.args.on.now.keying in
    let n = c.args.n in
    let m = c.loop-m.m in
    let judged = c.judge-judged.result in
    let before = c.loop-m.invariant in
    let lists = subst (λ (b : Bool). Lists (refused_at (n + m) (b ∷ [])) c.loop-m.now c.list-now.result c.loop-m.found c.list-now.new.found) c.accepts.ensures c.list-now.ensures in
    let few = refused_few (n + m) (verdict judged m ∷ []) in
    record {
      few = omega (arith, before.few, few, lists.now_is);
      lists = Lists-judged k n m c.args.bad c.loop-m.now c.list-now.result judged c.args.device.now c.args.found.now c.loop-m.found c.list-now.new.found (omega arith) c.judge-judged.ensures c.loop-m-test.true before.lists lists;
    }

pub returns-clause-some : goal.returns-clause-some
returns-clause-some g c = grind (arith, common_steps) steps 400000

pub returns-clause-within : goal.returns-clause-within
returns-clause-within g c = grind (arith, common_steps) steps 400000

pub returns-clause-lists : goal.returns-clause-lists
returns-clause-lists g c = grind (arith, common_steps)
