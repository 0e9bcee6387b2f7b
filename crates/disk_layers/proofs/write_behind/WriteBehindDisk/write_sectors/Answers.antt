-- Each sector is written as by `write`.
use Rattle.std.proofs.Common.{rules, ◌+◌, List, [], ◌∷◌, subst, sym, ◌∙◌, refl}
use Rattle.block_traits.specs.declared.disk.DiskFailed.{DiskFailed}
use Rattle.block_traits.specs.declared.disk.Event.{Event}
use Rattle.block_traits.specs.declared.disk.Event.TheVariants.{Write}
use Rattle.block_traits.specs.Disk.{Continues, write_events}
use Rattle.block_traits.proofs.Logs.{Continues-then, FailsIn-part, Continues-start, Continues-end}
use Rattle.block_traits.proofs.SectorWrites.{writes_left, writes_left-start, writes_left-next, writes_left-end}
use Rattle.disk_layers.specs.WriteBehind.{BehindWritesSector, behind_of, behind_disk_of}
use Rattle.block_traits.proofs.EachWritten.{Goes-start, Goes-next, Goes-fail, Goes-end}
use Rattle.disk_layers.proofs.write_behind.WriteBehindDisk.write_sectors.Goals as goal

pub loop-j-init : goal.loop-j-init
loop-j-init g c =
    let start = behind_disk_of c.args.self.now in
    let all = write_events c.args.first c.args.from.now in
    let P : List Event → Type 0 = λ events. Continues events all start start in
    record {
      size = refl;
      unasked = refl;
      events = subst P (sym (writes_left-start c.args.first c.args.from.now)) (Continues-start all start);
      goes = Goes-start BehindWritesSector c.args.first c.args.from.now (behind_of g.D.Disk.state c.args.self.now);
    }

pub returns-in_err-write-clause-err : goal.returns-in_err-write-clause-err
returns-in_err-write-clause-err g c =
    let all = write_events c.args.first c.args.from.now in
    let left = writes_left c.args.first c.args.from.now (c.loop-j.j + 1) in
    let P : List Event → Type 0 = λ events. Continues events all (behind_disk_of c.loop-j.self) (behind_disk_of c.args.self.now) in
    let here = subst P (writes_left-next c.args.first c.args.from.now c.sector_of.result c.loop-j.j c.loop-j-test.true c.sector_of.ensures) c.loop-j.invariant.events in
    let fails = FailsIn-part (Write (c.args.first + c.loop-j.j) c.sector_of.result ∷ []) left all here c.in_err-write.ensures.err in
    search rules

pub returns-in_err-write-clause-answer : goal.returns-in_err-write-clause-answer
returns-in_err-write-clause-answer g c =
    let failed : DiskFailed = record {} in
    let answer = Goes-fail BehindWritesSector c.args.first c.args.from.now c.loop-j.j c.sector_of.result (behind_of g.D.Disk.state c.args.self.now) (behind_of g.D.Disk.state c.loop-j.self) _ failed c.loop-j-test.true c.sector_of.ensures c.loop-j.invariant.goes c.in_err-write.ensures.answer in
    search (rules, answer)

pub loop-j-preserved : goal.loop-j-preserved
loop-j-preserved g c =
    let all = write_events c.args.first c.args.from.now in
    let left = writes_left c.args.first c.args.from.now (c.loop-j.j + 1) in
    let P : List Event → Type 0 = λ events. Continues events all (behind_disk_of c.loop-j.self) (behind_disk_of c.args.self.now) in
    let here = subst P (writes_left-next c.args.first c.args.from.now c.sector_of.result c.loop-j.j c.loop-j-test.true c.sector_of.ensures) c.loop-j.invariant.events in
    record {
      size = c.in_ok-write.ensures.ok.size ∙ c.loop-j.invariant.size;
      unasked = c.write.ensures.unasked ∙ c.loop-j.invariant.unasked;
      events = Continues-then (Write (c.args.first + c.loop-j.j) c.sector_of.result ∷ []) left all here c.in_ok-write.ensures.ok;
      goes = Goes-next BehindWritesSector c.args.first c.args.from.now c.loop-j.j c.sector_of.result (behind_of g.D.Disk.state c.args.self.now) (behind_of g.D.Disk.state c.loop-j.self) _ c.loop-j-test.true c.sector_of.ensures c.loop-j.invariant.goes c.in_ok-write.ensures.answer;
    }

pub returns-clause-ok : goal.returns-clause-ok
returns-clause-ok g c =
    let all = write_events c.args.first c.args.from.now in
    let P : List Event → Type 0 = λ events. Continues events all (behind_disk_of c.loop-j.self) (behind_disk_of c.args.self.now) in
    Continues-end all (subst P (writes_left-end c.args.first c.args.from.now c.loop-j.j c.loop-j-test.false) c.loop-j.invariant.events)

pub returns-clause-answer : goal.returns-clause-answer
returns-clause-answer g c = Goes-end BehindWritesSector c.args.first c.args.from.now c.loop-j.j (behind_of g.D.Disk.state c.args.self.now) (behind_of g.D.Disk.state c.loop-j.self) c.loop-j-test.false c.loop-j.invariant.goes
