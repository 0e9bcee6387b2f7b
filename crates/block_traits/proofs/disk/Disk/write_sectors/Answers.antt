use Rattle.std.proofs.Common.{rules, ◌+◌, List, [], ◌∷◌, subst, sym, ◌∙◌, arith}
use Rattle.std.proofs.lemmas.Grind.{common_steps}
use Rattle.block_traits.specs.declared.disk.Event.{Event}
use Rattle.block_traits.specs.declared.disk.Event.TheVariants.{Write}
use Rattle.block_traits.specs.Disk.{Continues, write_events}
use Rattle.block_traits.proofs.Logs.{Continues-then, FailsIn-part, Continues-start, Continues-end}
use Rattle.block_traits.proofs.SectorWrites.{writes_left, writes_left-start, writes_left-next, writes_left-end}
use Rattle.block_traits.proofs.disk.Disk.write_sectors.Goals as goal

pub loop-j-init : goal.loop-j-init
loop-j-init g c =
    let start = g.Self.Disk.state c.args.self.now in
    let all = write_events c.args.first c.args.from.now in
    let P : List Event → Type 0 = λ events. Continues events all start start in
    record {
      size = search rules;
      unasked = search rules;
      events = subst P (sym (writes_left-start c.args.first c.args.from.now)) (Continues-start all start);
    }

pub returns-in_err-write-clause-err : goal.returns-in_err-write-clause-err
returns-in_err-write-clause-err g c =
    let state = g.Self.Disk.state in
    let all = write_events c.args.first c.args.from.now in
    let left = writes_left c.args.first c.args.from.now (c.loop-j.j + 1) in
    let P : List Event → Type 0 = λ events. Continues events all (state c.loop-j.self) (state c.args.self.now) in
    let here = subst P (writes_left-next c.args.first c.args.from.now c.sector_of.result c.loop-j.j c.loop-j-test.true c.sector_of.ensures) c.loop-j.invariant.events in
    let fails = FailsIn-part (Write (c.args.first + c.loop-j.j) c.sector_of.result ∷ []) left all here c.in_err-write.ensures.err in
    search rules

pub loop-j-preserved : goal.loop-j-preserved
loop-j-preserved g c =
    let state = g.Self.Disk.state in
    let all = write_events c.args.first c.args.from.now in
    let left = writes_left c.args.first c.args.from.now (c.loop-j.j + 1) in
    let P : List Event → Type 0 = λ events. Continues events all (state c.loop-j.self) (state c.args.self.now) in
    let here = subst P (writes_left-next c.args.first c.args.from.now c.sector_of.result c.loop-j.j c.loop-j-test.true c.sector_of.ensures) c.loop-j.invariant.events in
    record {
      size = c.in_ok-write.ensures.ok.size ∙ c.loop-j.invariant.size;
      unasked = c.write.ensures.unasked ∙ c.loop-j.invariant.unasked;
      events = Continues-then (Write (c.args.first + c.loop-j.j) c.sector_of.result ∷ []) left all here c.in_ok-write.ensures.ok;
    }

pub returns-clause-ok : goal.returns-clause-ok
returns-clause-ok g c =
    let state = g.Self.Disk.state in
    let all = write_events c.args.first c.args.from.now in
    let P : List Event → Type 0 = λ events. Continues events all (state c.loop-j.self) (state c.args.self.now) in
    Continues-end all (subst P (writes_left-end c.args.first c.args.from.now c.loop-j.j c.loop-j-test.false) c.loop-j.invariant.events)

pub returns-in_err-write-clause-ok : goal.returns-in_err-write-clause-ok
returns-in_err-write-clause-ok g c = grind (arith, common_steps) steps 400000

pub returns-in_err-write-clause-unasked : goal.returns-in_err-write-clause-unasked
returns-in_err-write-clause-unasked g c = grind (arith, common_steps) steps 400000

pub returns-clause-err : goal.returns-clause-err
returns-clause-err g c = grind (arith, common_steps) steps 400000

pub returns-clause-unasked : goal.returns-clause-unasked
returns-clause-unasked g c = grind (arith, common_steps) steps 400000
