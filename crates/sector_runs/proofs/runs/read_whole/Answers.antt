use Rattle.std.proofs.Common.{◌≡◌, ◌*◌, ◌<◌, length, arith}
use Rattle.sealing.specs.Sectors.{units}
use Rattle.sector_runs.proofs.Ranges.{offset_small, units-off}
use Rattle.sector_runs.proofs.Sealed.{sector_reading-is}
use Rattle.sector_runs.proofs.runs.read_whole.Goals as goal

pub overflow_mul-sector-2 : goal.overflow_mul-sector-2
overflow_mul-sector-2 g c =
    let d = g.D.Disk.state c.args.disk.now in
    let k = c.args.ring.now.keying in
    let size = c.layout-layout.result.size in
    let layout = c.layout-layout.ensures in
    let some : 0 < size = omega arith in
    let count = units-off k size c.requires.off layout.size some layout.keying.whole in
    let is : size ≡ 512 * units k = omega (arith, count, layout.keying.whole) in
    omega (arith, offset_small c.args.sector size (units k) d.size is c.requires.inside d.well_formed.bound)

pub returns-clause-reads : goal.returns-clause-reads
returns-clause-reads g c =
    let k = c.args.ring.now.keying in
    let size = c.layout-layout.result.size in
    let layout = c.layout-layout.ensures in
    let some : 0 < length c.args.block.now = omega arith in
    let count = units-off k (length c.args.block.now) c.requires.off c.requires.size some layout.keying.whole in
    sector_reading-is (g.D.Disk.state c.args.disk.now).content k c.args.sector size c.layout-layout.result.units _ c.read_units.new.into c.open_plain.new.block layout.size (omega arith) layout.units count
    c.in_ok-read_units.ensures.stand c.open_plain.ensures.opened
