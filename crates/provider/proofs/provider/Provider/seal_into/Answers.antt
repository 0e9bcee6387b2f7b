use Rattle.std.proofs.Common.{arith}
use Rattle.provider.proofs.Ranges.{request_inside}
use Rattle.provider.proofs.provider.Provider.seal_into.Goals as goal

pub seal_sectors-requires-clause-place : goal.seal_sectors-requires-clause-place
seal_sectors-requires-clause-place g c =
    let at = rw (← c.self.view_is) at c.requires.inside in
    let d = g.D.Disk.state c.self.inside.disk in
    rw c.get_mut.ensures.value (omega (arith, request_inside c.self.inside.ring.keying c.args.sector _ d.size at, d.well_formed.bound))
