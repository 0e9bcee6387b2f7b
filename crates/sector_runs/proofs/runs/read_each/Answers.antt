use Rattle.std.proofs.Common.{◌≡◌, ◌+◌, ◌-◌, ◌*◌, ◌/◌, ◌<◌, ◌≤◌, ℕ, [], length, take, subst, sym, ◌∙◌, arith, Option, Ok, IfSome}
use Rattle.std.proofs.Math.Nat.{mul-le-mul_right}
use borrow.Rule.Slice.PartMut.{put_mid}
use Rattle.block_traits.specs.Causes.{Counted}
use Rattle.block_traits.specs.Content.{Content}
use Rattle.block_traits.proofs.Causes.{Counted-then}
use Rattle.block_traits.proofs.Logs.{Logs-then, logged-none}
use Rattle.eli_base.specs.Keying.{Keying}
use Rattle.sealing.specs.Sectors.{units}
use Rattle.sector_runs.specs.Reading.{sector_reading}
use Rattle.sector_runs.proofs.Ranges.{bytes_inside, number_small}
use Rattle.sector_runs.proofs.FirstFaults.{run_fault}
use Rattle.sector_runs.proofs.Readings.{ReadsFrom-next}
use Rattle.sector_runs.proofs.runs.read_each.Goals as goal

pub loop-i-preserved : goal.loop-i-preserved
loop-i-preserved g c =
    let start = g.D.Disk.state c.args.disk.now in
    let k = c.args.ring.now.keying in
    let before = c.loop-i.invariant in
    let here = c.args.sector + c.loop-i.i in
    let size = c.layout-size.result.size in
    let block = c.read_sector.new.block in
    let P : Keying → Type 0 = λ now. IfSome (g.D.Disk.state c.loop-i.disk).content (λ (told : Content). sector_reading now told here ≡ Ok block) in
    let Q : Option Content → Type 0 = λ told. IfSome told (λ (content : Content). sector_reading k content here ≡ Ok block) in
    let R : Keying → Type 0 = λ now. Counted (units now) (g.D.Disk.state c.loop-i.disk).reads (g.D.Disk.state c.read_sector.new.disk).reads in
    let gives = subst Q (before.logs.content ∙ logged-none start.content) (subst P before.keying c.in-Ok.ensures.answer.reads) in
    let inside = bytes_inside (length c.args.into.now) size c.loop-i.i c.loop-i-test.true in
    let room : c.loop-i.i * size ≤ length c.loop-i.into = omega (arith, inside) in
    let len : length block ≡ size = omega (arith, inside) in
    record {
      keying = c.in-Ok.ensures.keying ∙ before.keying;
      asked = Counted-then (c.loop-i.i * units k) (units k) ((c.loop-i.i + 1) * units k) (omega arith) before.asked (subst R before.keying c.in-Ok.ensures.answer.asked);
      logs = Logs-then [] [] before.logs c.in-Ok.ensures.answer.logs;
      reads = ReadsFrom-next start.content k c.args.sector c.loop-i.i size _ c.loop-i.into block before.reads gives len room;
    }

pub overflow_add-sector : goal.overflow_add-sector
overflow_add-sector g c =
    let d = g.D.Disk.state c.args.disk.now in
    let k = c.args.ring.now.keying in
    let count : ℕ = length c.args.into.now / k.sectorsize in
    let more : c.loop-i.i < count = subst (λ (s : ℕ). c.loop-i.i < length c.args.into.now / s) c.layout-size.ensures.size c.loop-i-test.true in
    let some : 1 ≤ units k = omega arith in
    omega (arith, number_small (c.args.sector + count) (units k) d.size some c.requires.inside, d.well_formed.bound, more)

pub read_sector-requires-clause-inside : goal.read_sector-requires-clause-inside
read_sector-requires-clause-inside g c =
    let k = c.args.ring.now.keying in
    let i = c.loop-i.i in
    let sector = c.args.sector in
    let now = (g.D.Disk.state c.loop-i.disk).size in
    let count : ℕ = length c.args.into.now / k.sectorsize in
    let more : i < count = subst (λ (s : ℕ). i < length c.args.into.now / s) c.layout-size.ensures.size c.loop-i-test.true in
    let next : sector + i + 1 ≤ sector + count = omega arith in
    let here : (sector + i) * units k + units k ≤ now = omega (arith, mul-le-mul_right (units k) next, c.requires.inside, c.loop-i.invariant.logs.size) in
    subst (λ (h : Keying). (sector + i) * units h + units h ≤ now) (sym c.loop-i.invariant.keying) here

pub returns-in-Err-clause-answer : goal.returns-in-Err-clause-answer
returns-in-Err-clause-answer g c =
    let state = g.D.Disk.state in
    let k = c.args.ring.now.keying in
    let i = c.loop-i.i in
    let size = c.layout-size.result.size in
    let more = subst (λ (s : ℕ). i < length c.args.into.now / s) c.layout-size.ensures.size c.loop-i-test.true in
    run_fault c.in-Err.fault (state c.args.disk.now) (state c.loop-i.disk) (state c.read_sector.new.disk) k c.loop-i.ring.keying c.args.sector (length c.args.into.now / k.sectorsize) i
    (take (i * size) c.loop-i.into) c.read_sector.new.block (put_mid (i * size) (i * size + size - i * size) c.loop-i.into c.read_sector.new.block)
    c.loop-i.invariant.keying c.loop-i.invariant.asked c.loop-i.invariant.logs more c.loop-i.invariant.reads c.in-Err.ensures.answer
