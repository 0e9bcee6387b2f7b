use Rattle.std.proofs.Common.{◌<◌, arith}
use Rattle.sector_runs.proofs.InMemory.{sealed_whole}
use Rattle.sector_runs.proofs.sectors.seal_whole.Goals as goal

pub returns-clause-sealed : goal.returns-clause-sealed
returns-clause-sealed c =
    let size = c.layout-size.result.size in
    let same = c.layout-size.ensures.size in
    let some : 0 < size = omega arith in
    sealed_whole c.args.ring.now.keying c.args.sector size c.args.plain.now c.copy_from_slice.new.self c.seal_plain.new.block same some c.copy_from_slice.ensures.after c.seal_plain.ensures.sealed
